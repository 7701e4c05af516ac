use Rattle.std.proofs.Common.{refl, sym, ◌∙◌}
use Rattle.uda_port.proofs.PossibleLaws.{none_of}
use Rattle.uda_port.proofs.port.Port.set_type.Goals as goal

pub returns-clause-free : goal.returns-clause-free
returns-clause-free g c = (
  λ _. (c.if-unit-ge4.false, rw (← c.self.view_is) (sym c.unit.ensures.info ∙ none_of _ (sym c.is_some.ensures ∙ c.if-is_some.false))),
  λ free. refl,
)
