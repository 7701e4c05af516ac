use Rattle.std.proofs.Common.{ℕ, ◌++◌, List, [], ◌∷◌, take, map, refl, sym, ap, ap₂, ◌∙◌, add-one, arith, append_assoc}
use Rattle.std.specs.List.{concat}
use Rattle.uda_saved.specs.Rows.{op_in}
use Rattle.uda_saved.specs.State.{op_bytes, op_of_byte, IsReadBack}
use Rattle.uda_saved.proofs.StateLaws.{texts_more, all_more}
use Rattle.uda_saved.proofs.state.put_ops.Goals as goal

pub loop-op-preserved : goal.loop-op-preserved
loop-op-preserved c =
    rw (add-one) (
      c.append_bytes.ensures.put ∙ ap₂ (λ (a b : List ℕ). a ++ b) c.loop-op.invariant.0
          (ap (λ (n : ℕ). n ∷ []) c.op_number.ensures.number)
          ∙ append_assoc c.args.bytes.now.items
          (concat (map op_bytes (take c.loop-op.op-index c.args.ops.now))) _
          ∙ ap (λ (t : List ℕ). c.args.bytes.now.items ++ t)
          (sym (texts_more op_bytes c.args.ops.now c.loop-op.op-index _ c.loop-op-test.true)),
      omega (arith, c.append_bytes.ensures.longer, c.loop-op.invariant.1),
      all_more (IsReadBack 1 op_of_byte op_bytes) c.args.ops.now c.loop-op.op-index _ c.loop-op-test.true
          c.loop-op.invariant.2
          (record {
            long = refl;
            back = ap op_in (sym c.op_number.ensures.number)
                ∙ c.op_number.ensures.back;
          }),
    )
