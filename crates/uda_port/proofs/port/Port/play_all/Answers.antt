use Rattle.uda_port.proofs.PlayLaws.{played_on}
use Rattle.uda_port.proofs.port.Port.play_all.Goals as goal

pub loop-event-preserved : goal.loop-event-preserved
loop-event-preserved g c new memory_after rest =
    c.loop-event.invariant new memory_after
    (played_on _ _ _ _ _ _ _ new memory_after c.loop-event-test.true c.play_one.ensures rest)
