use Rattle.std.proofs.Common.{◌-◌}
use Rattle.uda_exec.proofs.Words.{block_count}
use Rattle.uda_exec.proofs.Steps.{OnTheWay}
use Rattle.uda_exec.proofs.block_transfer.move_blocks.Given as goal

abbrev pub invariant-loop-done : goal.invariant-loop-done
invariant-loop-done g l = OnTheWay l.t l.done (g.S.BlockStore.state l.fn.store)
    (g.S.BlockStore.state l.store) l.fn.memory l.memory

abbrev pub decreases-loop-done : goal.decreases-loop-done
decreases-loop-done g l = block_count l.t - l.done
