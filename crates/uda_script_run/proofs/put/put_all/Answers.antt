use Rattle.uda_script_run.proofs.Puts.{leaves_less, leaves_same}
use Rattle.uda_script_run.proofs.put.put_all.Goals as goal
use Rattle.uda_script_run.proofs.put.put_all.Goals.{in-Ok, in-Err+else-ne}

pub loop-preserved : goal.loop-preserved
loop-preserved g c =
    elim c.match-write.branch [
      | in-Ok w ↦ rw w.rest-is (leaves_less _ _ _ _ c.loop.rest.now w.in-Ok.count c.loop.invariant
          w.in-Ok.ensures.bytes)
      | in-Err+else-ne w ↦ rw w.rest-is (leaves_same _ _ _ _ _ c.loop.invariant w.in-Err.ensures.bytes)
    ]
