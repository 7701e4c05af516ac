use Rattle.std.proofs.Common.{◌++◌, List, get_or, ℕ, ap, sym, ◌∙◌}
use Rattle.uda_script.specs.Hexadecimal.{byte_text_at}
use Rattle.uda_script.proofs.Bytes.{byte_texts_from-more}
use Rattle.uda_script.proofs.hexadecimal.hexadecimal.Goals as goal

pub loop-place-preserved : goal.loop-place-preserved
loop-place-preserved c =
    let place = c.loop-place.place in let bytes = c.args.bytes.now in
    c.in_ok-push_byte.ensures ∙ ap (λ (t : List ℕ). t ++ byte_text_at place (get_or bytes place 0))
    c.loop-place.invariant ∙ sym (byte_texts_from-more bytes place c.loop-place-test.true)
