use Rattle.std.proofs.Common.{subst}
use Rattle.uda_host.specs.Host.{IsConsistent}
use Rattle.uda_host.proofs.Hosts.{consistent}
use Rattle.uda_host.proofs.host.Host.credits.Goals as goal

pub returns-clause-consistent : goal.returns-clause-consistent
returns-clause-consistent g c = subst IsConsistent c.self.view_is (consistent c.self.invariant)
