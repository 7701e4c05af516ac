use Rattle.uda_c.proofs.FaithfulUnits.{word_faithful}
use Rattle.uda_c.proofs.FittingUnits.{word_fits}
use Rattle.uda_c.proofs.controller.Controller.write_sa.Goals as goal

pub invariant_of-self : goal.invariant_of-self
invariant_of-self c = (
  word_faithful c.self.inside.port c.args.memory.now c.args.word c.write_sa_in.new.self c.write_sa_in.new.memory
      c.write_sa_in.ensures.effect c.self.invariant.0,
  word_fits c.self.inside.port c.args.memory.now c.args.word c.write_sa_in.new.self c.write_sa_in.new.memory
      c.write_sa_in.ensures.effect c.self.invariant.1,
)
