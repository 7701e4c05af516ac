use Rattle.std.proofs.Common.{◌-◌}
use Rattle.uda_exec.proofs.AtOnce.{Erasing}
use Rattle.uda_exec.proofs.block_transfer.erase_at_once.Given as goal

abbrev pub invariant-loop-done : goal.invariant-loop-done
invariant-loop-done g l = Erasing l.n l.count l.done (g.S.BlockStore.state l.fn.store)
    (g.S.BlockStore.state l.store)

abbrev pub decreases-loop-done : goal.decreases-loop-done
decreases-loop-done g l = l.count - l.done
