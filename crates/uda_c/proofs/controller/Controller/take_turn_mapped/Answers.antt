use Rattle.uda_c.proofs.FaithfulUnits.{effect_faithful}
use Rattle.uda_c.proofs.FittingUnits.{effect_fits}
use Rattle.uda_c.proofs.controller.Controller.take_turn_mapped.Goals as goal

pub invariant_of-self : goal.invariant_of-self
invariant_of-self c =
    let old = c.self.inside.port in
    let goes = c.turn.ensures.effect in (
      effect_faithful goes.missing goes.place (old, _) c.turn.result (c.turn.new.port, goes.bus_after) goes.effect
          c.self.invariant.0,
      effect_fits goes.missing goes.place (old, _) c.turn.result (c.turn.new.port, goes.bus_after) goes.effect
          c.self.invariant.1,
    )
