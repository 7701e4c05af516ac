use Rattle.std.proofs.Common.{rules, sym, ap, ◌∙◌, arith}
use Rattle.uda_port.specs.Possible.{is_step_3}
use Rattle.uda_port.proofs.PortSteps.{third_refused, area_refused}
use Rattle.uda_port.proofs.port.Port.third_word.Goals as goal

pub die-requires : goal.die-requires
die-requires g c =
    let refused = sym c.refuses_third.ensures ∙ c.if-refuses_third.true in (
      search rules,
      rw (← c.self.view_is)
          (third_refused _ _ c.args.first c.args.second c.args.word (rw (← c.self.view_is) at c.requires.step) refused),
    )

pub die-requires-then-not-is_in : goal.die-requires-then-not-is_in
die-requires-then-not-is_in g c = (
  search rules,
  rw (← c.self.view_is)
      (area_refused _ _ c.args.first c.args.second (rw (← c.self.view_is) at c.requires.step)),
)

pub set_rings-requires : goal.set_rings-requires
set_rings-requires g c =
    let taken = sym c.refuses_third.ensures ∙ c.if-refuses_third.false in
    let above = c.is_in.ensures.above c.if-not-is_in.false in
    let four = c.of_words-area.ensures.below in
    let within = c.of_words-area.ensures.base taken in (
      search rules,
      (
        c.of_words-area.ensures.valid,
        (
          omega (arith, above, four),
          (rw (← c.self.view_is) within, ap is_step_3 c.requires.step),
        ),
      ),
    )
