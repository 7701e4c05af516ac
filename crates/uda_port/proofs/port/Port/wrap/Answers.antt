use Rattle.uda_port.proofs.PortSteps.{wraps}
use Rattle.uda_port.proofs.port.Port.wrap.Goals as goal

pub invariant_of-self : goal.invariant_of-self
invariant_of-self g c =
    wraps c.self.inside c.args.word _ (rw (← c.self.view_is) at c.requires.step) c.in-Compatible.is c.self.invariant
