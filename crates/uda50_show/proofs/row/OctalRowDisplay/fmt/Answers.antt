use Rattle.std.proofs.Common.{◌≡◌, ℕ, ◌+◌, ◌*◌, List, ◌∷◌, [], ◌++◌, false, sym, ap, ◌∙◌, add-one, append-nil, rules}
use Rattle.std.specs.Fmt.{HasWritten, digits}
use Rattle.std.specs.List.{flat_map}
use Rattle.std.proofs.Output.{has_written_of_eq}
use Rattle.std.proofs.lemmas.Grind.{put_three}
use Rattle.std.proofs.lemmas.List.{flat_map_more}
use Rattle.uda50_show.specs.Block.{words, word_at_offset}
use Rattle.uda50_show.specs.Rows.{octal_offset, octal_cell}
use Rattle.uda50_show.proofs.Offsets.{three_wide, octal_offset_shown}
use Rattle.uda50_show.proofs.row.OctalRowDisplay.fmt.Goals as goal

pub loop-n-init : goal.loop-n-init
unfolding words
loop-n-init g c = λ plain.
    let offset = c.args.self.now.offset in
    let shown : HasWritten g.W.Write.write_str_gives c.args.f.now (three_wide (digits 8 false offset) ++ 32 ∷ []) c.write.new.self = search rules in
    has_written_of_eq _ _ _ _ _ (octal_offset_shown offset ∙ sym (append-nil (octal_offset offset))) shown

-- one cell more
cell_more : (front piece bytes : List ℕ) (n : ℕ) → piece ≡ octal_cell (word_at_offset (2 * n) bytes)
    → (front ++ flat_map octal_cell (words n bytes)) ++ piece ≡ front ++ flat_map octal_cell (words (n + 1) bytes)
unfolding words
cell_more front piece bytes n is =
    ap (λ (t : List ℕ). (front ++ flat_map octal_cell (words n bytes)) ++ t) is
    ∙ flat_map_more octal_cell front (words n bytes) (word_at_offset (2 * n) bytes)
    ∙ ap (λ (k : ℕ). front ++ flat_map octal_cell (words k bytes)) (sym (add-one n))

pub loop-n-preserved : goal.loop-n-preserved
loop-n-preserved g c = λ plain.
    let now = c.loop-n.invariant plain in
    let space = c.write_str.ensures.writes now.plain (search rules) in
    let digits = c.write_number.ensures space.plain (search rules) in
    put_three _ _ _ _ _ _ _ _ _ now space digits
    (cell_more (octal_offset c.args.self.now.offset) (32 ∷ c.octal_word.result) c.args.self.now.bytes c.loop-n.n
    (c.octal_word.ensures.digits ∙ ap octal_cell c.word_at_offset.ensures))
