use Rattle.std.proofs.Common.{◌-◌}
use Rattle.uda_exec.specs.Commands.{block_count}
use Rattle.uda_exec.proofs.Comparisons.{Comparing}
use Rattle.uda_exec.proofs.compare.compare_blocks.Given as goal

abbrev pub invariant-loop-done : goal.invariant-loop-done
invariant-loop-done g l = Comparing l.t l.done (g.S.BlockStore.state l.fn.store) l.memory
    (g.S.BlockStore.state l.store)

abbrev pub decreases-loop-done : goal.decreases-loop-done
decreases-loop-done g l = block_count l.t - l.done
