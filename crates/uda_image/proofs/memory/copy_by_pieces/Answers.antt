use Rattle.std.proofs.Common.{rules, ◌+◌, ◌-◌, ◌++◌, ℕ, List, take, sym, ap, ◌∙◌, arith, take-add}
use Rattle.std.proofs.lemmas.Slice.{take-put_mid}
use Rattle.uda_image.proofs.memory.copy_by_pieces.Goals as goal

pub loop-done-preserved : goal.loop-done-preserved
loop-done-preserved c =
    let done = c.loop-done.done in
    let end = done + c.min.result in
    let to = c.loop-done.to in
    let from = c.args.from.now in
    let piece = c.copy_from_slice.new.self in
    record {
      within = search rules;
      whole = search rules;
      copied = take-put_mid done (end - done) to piece end (search rules) (search rules)
          ∙ ap (λ (front : List ℕ). front ++ piece) c.loop-done.invariant.copied
          ∙ ap (λ (rest : List ℕ). take done from ++ rest) c.copy_from_slice.ensures.after
          ∙ sym (take-add done (end - done) from)
          ∙ ap (λ i. take i from) (omega arith);
    }
