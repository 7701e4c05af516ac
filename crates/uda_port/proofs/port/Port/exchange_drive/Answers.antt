use Rattle.std.proofs.Common.{arith}
use Rattle.uda_port.proofs.port.Port.exchange_drive.Goals as goal

pub invariant_of-self : goal.invariant_of-self
invariant_of-self g c = grind (arith, c.self.invariant, c.set_drive-old.ensures.set)
