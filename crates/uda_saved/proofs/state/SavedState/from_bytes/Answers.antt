use Rattle.std.proofs.Common.{rules, sym, ap, ◌∙◌}
use Rattle.std.specs.Cmp.Lexicographic.{same_text, other_text}
use Rattle.uda_saved.specs.State.{state_bytes, IsRead}
use Rattle.uda_saved.specs.declared.state.SavedState.{SavedState}
use Rattle.uda_saved.proofs.state.SavedState.from_bytes.Goals as goal

pub returns-then-eq : goal.returns-then-eq
returns-then-eq c = record {
  effect = record {
    written = sym c.to_bytes.ensures.bytes ∙ sym c.as_slice.ensures.value
        ∙ same_text c.as_slice.result.now c.args.bytes.now c.if-eq.ensures;
    back = sym c.state_in-state.ensures;
  };
}

pub returns-else-eq : goal.returns-else-eq
returns-else-eq c = record { effect = (search rules, search rules, no_other) }
  where
    no_other : (s : SavedState) → IsRead c.args.bytes.now s → ⊥
    no_other s is =
        other_text c.as_slice.result.now c.args.bytes.now c.if-eq.ensures
        (c.as_slice.ensures.value ∙ c.to_bytes.ensures.bytes
        ∙ ap state_bytes (c.state_in-state.ensures ∙ is.back) ∙ is.written)
