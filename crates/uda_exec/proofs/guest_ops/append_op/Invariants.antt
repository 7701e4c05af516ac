use Rattle.std.proofs.Common.{◌-◌, length}
use Rattle.uda_exec.proofs.Comparisons.{Padded}
use Rattle.uda_exec.proofs.guest_ops.append_op.Given as goal

abbrev pub invariant-loop-ops : goal.invariant-loop-ops
invariant-loop-ops l = Padded l.initial.ops.items l.place l.ops.items

abbrev pub decreases-loop-ops : goal.decreases-loop-ops
decreases-loop-ops l = l.place - length l.ops.items
