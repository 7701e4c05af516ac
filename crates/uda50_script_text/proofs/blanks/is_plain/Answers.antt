use Rattle.std.proofs.Common.{take, get_or, sym, ◌∙◌}
use Rattle.std.proofs.lemmas.Bool.{and_parts}
use Rattle.std.proofs.lemmas.List.{take_more}
use Rattle.uda50_script_text.proofs.Plain.{plain_more}
use Rattle.uda50_script_text.proofs.blanks.is_plain.Goals as goal

pub loop-byte-preserved : goal.loop-byte-preserved
loop-byte-preserved c = λ plain.
    let parts = and_parts c.loop-byte.plain c.is_plain_after-plain.result plain in
    let now = c.loop-byte.invariant parts.0 in
    let byte = get_or c.args.bytes.now c.loop-byte.byte-index 0 in
    let more = plain_more (take c.loop-byte.byte-index c.args.bytes.now) c.loop-byte.before byte (sym c.is_plain_after-plain.ensures.plain ∙ parts.1) now.0 now.1 in
    rw (take_more c.args.bytes.now c.loop-byte.byte-index 0 c.loop-byte-test.true) more
