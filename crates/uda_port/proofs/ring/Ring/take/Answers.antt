-- Ring order, from the effect on the next descriptor.
use Rattle.std.proofs.Common.{rules}
use Rattle.uda_port.proofs.RingLaws.{takes_first}
use Rattle.uda_port.proofs.ring.Ring.take.Goals as goal

pub returns-clause-order : goal.returns-clause-order
returns-clause-order c =
    takes_first c.args.fetching _ _ c.in_ok-fetched.fetched _ _ c.requires.below c.requires.place (search rules)
