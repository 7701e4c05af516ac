-- Ring order, from the effect on the next descriptor.
use Rattle.uda_port.proofs.RingLaws.{none_posted, not_owned_posted, first_stays}
use Rattle.uda_port.proofs.ring.Ring.fetch_in.Goals as goal

pub returns-in-OwnedByHost-clause-order : goal.returns-in-OwnedByHost-clause-order
returns-in-OwnedByHost-clause-order c =
    let host = c.in-OwnedByHost.ensures.next in
    not_owned_posted c.args.memory.now c.args.self.now host.next c.next.ensures.place host.is_next host.not_owned

pub returns-in-OutsideMemory-clause-order : goal.returns-in-OutsideMemory-clause-order
returns-in-OutsideMemory-clause-order c =
    none_posted c.args.memory.now c.args.self.now c.next.ensures.place c.in-OutsideMemory.ensures.next

pub returns-in-None-clause-order : goal.returns-in-None-clause-order
returns-in-None-clause-order c =
    first_stays c.args.memory.now c.args.self.now _ c.next.ensures.place c.in-OwnedByPort.ensures.next
