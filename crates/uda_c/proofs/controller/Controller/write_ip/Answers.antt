use Rattle.uda_c.proofs.FaithfulUnits.{start_faithful}
use Rattle.uda_c.proofs.FittingUnits.{start_fits}
use Rattle.uda_c.proofs.controller.Controller.write_ip.Goals as goal

pub invariant_of-self : goal.invariant_of-self
invariant_of-self c = (
  start_faithful c.self.inside.port c.write_ip.new.self c.write_ip.ensures.restarts c.self.invariant.0,
  start_fits c.self.inside.port c.write_ip.new.self c.write_ip.ensures.restarts c.self.invariant.1,
)
