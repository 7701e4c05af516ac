use Rattle.std.proofs.Common.{length, sym, arith, ◌∙◌}
use Rattle.std.proofs.lemmas.List.{take_all}
use Rattle.uda_bus.proofs.CopyLaws.{padded_parts, padded_whole}
use Rattle.uda_bus.proofs.copy.copy_out.Goals as goal

pub returns-in-Some-clause-bytes : goal.returns-in-Some-clause-bytes
returns-in-Some-clause-bytes c =
    let found = c.in-Some.ensures.lookup.0 in
    padded_whole _ _ _ _ found.1 c.bytes_there-there.ensures.bytes (c.copy_from_slice.ensures.after ∙ found.2)

pub returns-clause-bytes : goal.returns-clause-bytes
returns-clause-bytes c =
    let there = c.bytes_there-there.result.now in
    padded_parts (length c.args.to.now) (length there) _ _ there _ _ (omega (arith, c.in_default.ensures.lookup.0))
    c.split_at_mut-first.ensures.back_len c.bytes_there-there.ensures.bytes (c.copy_from_slice-2.ensures.after ∙ sym (take_all (length there) there (omega arith)))
    (c.fill.ensures.after (λ y is. is))
