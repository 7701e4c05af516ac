use Rattle.std.proofs.Common.{ℕ, List, ◌∷◌, [], ◌++◌, false, sym, ap, ◌∙◌, append-nil, arith, rules}
use Rattle.std.specs.Fmt.{HasWritten, digits}
use Rattle.std.proofs.Output.{has_written_of_eq}
use Rattle.std.proofs.lemmas.Grind.{put_three}
use Rattle.uda50_show.specs.Rows.{hex_offset, hex_cell}
use Rattle.uda50_show.proofs.Offsets.{three_wide, hex_offset_shown}
use Rattle.uda50_show.proofs.Rows.{cell_more, byte_cell}
use Rattle.uda50_show.proofs.row.HexRowDisplay.fmt.Goals as goal

pub loop-byte-init : goal.loop-byte-init
loop-byte-init g c = λ plain.
    let offset = c.args.self.now.offset in
    let shown : HasWritten g.W.Write.write_str_gives c.args.f.now (three_wide (digits 16 false offset) ++ 32 ∷ []) c.write.new.self = search rules in
    has_written_of_eq _ _ _ _ _ (hex_offset_shown offset ∙ sym (append-nil (hex_offset offset))) shown

pub loop-byte-preserved : goal.loop-byte-preserved
loop-byte-preserved g c = λ plain.
    let now = c.loop-byte.invariant plain in
    let space = c.write_str.ensures.writes now.plain (search rules) in
    let digits = c.write_number.ensures space.plain (search rules) in
    put_three _ _ _ _ _ _ _ _ _ now space digits
    (cell_more hex_cell (hex_offset c.args.self.now.offset) (32 ∷ c.hex_byte.result) c.args.self.now.bytes c.loop-byte.byte-index (omega arith)
    (ap (λ (t : List ℕ). 32 ∷ t) c.hex_byte.ensures.digits ∙ byte_cell _ (search rules)))
