use Rattle.std.proofs.Common.{rules, sym, ◌∙◌}
use Rattle.uda_port.proofs.PortSteps.{second_refused, takes_second}
use Rattle.uda_port.proofs.port.Port.second_word.Goals as goal

pub die-requires : goal.die-requires
die-requires g c =
    let refused = sym c.refuses_second.ensures ∙ c.if-refuses_second.true in (
      search rules,
      rw (← c.self.view_is)
          (second_refused _ _ c.args.first c.args.word (rw (← c.self.view_is) at c.requires.step) refused),
    )

pub invariant_of-self : goal.invariant_of-self
invariant_of-self g c =
    let taken = sym c.refuses_second.ensures ∙ c.if-refuses_second.false in
    rw c.raised_by_step-self-inside.ensures
    (takes_second c.self.inside c.args.first c.args.word (rw (← c.self.view_is) at c.requires.step) taken c.self.invariant)
