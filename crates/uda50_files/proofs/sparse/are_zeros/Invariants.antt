use Rattle.std.proofs.Common.{◌≤◌, ◌-◌, length}
use Rattle.uda50_files.specs.Zeros.{AreAtMost}
use Rattle.uda50_files.proofs.sparse.are_zeros.Given as goal

abbrev pub invariant-loop-at : goal.invariant-loop-at
invariant-loop-at l = record { within : l.at ≤ length l.bytes; zeros : AreAtMost 0 l.at l.bytes }

abbrev pub decreases-loop-at : goal.decreases-loop-at
decreases-loop-at l = length l.bytes - l.at
