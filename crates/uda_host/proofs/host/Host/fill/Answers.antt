use Rattle.std.proofs.Common.{arith}
use Rattle.uda_host.proofs.Hosts.{buffer_filled}
use Rattle.uda_host.proofs.host.Host.fill.Goals as goal

pub invariant_of-self : goal.invariant_of-self
invariant_of-self g c = buffer_filled c.self.invariant _ _ (λ meet. omega arith)
