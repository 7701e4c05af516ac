use Rattle.uda_port.proofs.PortSteps.{goes}
use Rattle.uda_port.proofs.port.Port.fourth_word.Goals as goal

pub invariant_of-self : goal.invariant_of-self
invariant_of-self g c = goes c.self.inside (rw (← c.self.view_is) at c.requires.step) c.self.invariant
