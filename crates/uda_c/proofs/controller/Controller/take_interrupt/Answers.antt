use Rattle.std.proofs.Common.{ap}
use Rattle.uda_port.specs.Interrupt.{served}
use Rattle.uda_port.specs.Port.{PortState}
use Rattle.uda_c.proofs.FaithfulUnits.{same_faithful}
use Rattle.uda_c.proofs.FittingUnits.{served_fits}
use Rattle.uda_c.proofs.controller.Controller.take_interrupt.Goals as goal

pub invariant_of-self : goal.invariant_of-self
invariant_of-self c = (
  same_faithful c.self.inside.port c.take_interrupt.new.self
      (ap (λ (p : PortState). p.exec) c.take_interrupt.ensures.request_cleared) c.self.invariant.0,
  served_fits c.self.inside.port c.take_interrupt.new.self (served c.self.inside.port.interrupts)
      c.take_interrupt.ensures.request_cleared c.self.invariant.1,
)
