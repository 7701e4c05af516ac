use Rattle.uda_port.proofs.Saving.{consistent}
use Rattle.uda_port.proofs.port.Port.keep.Goals as goal

pub returns-clause-possible : goal.returns-clause-possible
returns-clause-possible g c = rw (← c.self.view_is) (consistent c.self.inside c.self.invariant)
