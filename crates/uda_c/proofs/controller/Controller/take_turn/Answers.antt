use Rattle.uda_c.proofs.FaithfulUnits.{turn_faithful}
use Rattle.uda_c.proofs.FittingUnits.{turn_fits}
use Rattle.uda_c.proofs.controller.Controller.take_turn.Goals as goal

pub invariant_of-self : goal.invariant_of-self
invariant_of-self c = (
  turn_faithful c.turn_at.result.turn c.self.inside.port c.args.memory.now c.turn_at.new.self
      c.turn_at.new.memory c.turn_at.ensures.effect c.self.invariant.0,
  turn_fits c.turn_at.result.turn c.self.inside.port c.args.memory.now c.turn_at.new.self
      c.turn_at.new.memory c.turn_at.ensures.effect c.self.invariant.1,
)
