use Rattle.std.proofs.Common.{slice_index}
use Rattle.uda_exec.specs.Compare.{AreSame}
use Rattle.uda_exec.proofs.compare.first_difference.Given as goal

abbrev pub invariant-loop-at : goal.invariant-loop-at
invariant-loop-at l = AreSame l.at (λ i. slice_index l.block i) (λ i. slice_index l.window i)
