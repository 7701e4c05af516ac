use Rattle.uda_c.proofs.FaithfulUnits.{asked_faithful}
use Rattle.uda_c.proofs.FittingUnits.{asked_fits}
use Rattle.uda_c.proofs.controller.Controller.read_ip.Goals as goal

pub invariant_of-self : goal.invariant_of-self
invariant_of-self c = (
  asked_faithful c.self.inside.port c.read_ip.new.self c.read_ip.ensures.starts_polling c.self.invariant.0,
  asked_fits c.self.inside.port c.read_ip.new.self c.read_ip.ensures.starts_polling c.self.invariant.1,
)
