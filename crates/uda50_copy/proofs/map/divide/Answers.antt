use Rattle.std.proofs.Common.{arith, ◌<◌, length}
use Rattle.std.proofs.lemmas.Grind.{common_steps}
use Rattle.uda50_copy.proofs.Spans.{all_later}
use Rattle.uda50_copy.proofs.map.divide.Goals as goal

pub returns-then-block-next-clause-after : goal.returns-then-block-next-clause-after
returns-then-block-next-clause-after c =
    let some : 0 < length c.loop-next.after.items = grind (arith, common_steps) in
    all_later c.loop-next.before.items c.loop-next.after.items c.in-Some-front.next.now c.args.block
    (rw c.loop-next.invariant c.requires.consecutive) c.in-Some-front.ensures.lookup some c.if-block-next.true
