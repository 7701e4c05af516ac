use Rattle.uda_port.proofs.PortSteps.{dies}
use Rattle.uda_port.proofs.port.Port.die.Goals as goal

pub invariant_of-self : goal.invariant_of-self
invariant_of-self g c = rw c.raised-self-inside.ensures
    (dies c.self.inside c.args.cause (rw (← c.self.view_is) at c.requires.dies) c.self.invariant)
