use Rattle.std.proofs.Common.{◌≤◌, ◌-◌}
use Rattle.uda50_files.proofs.target_zeros.TargetZeros.first_piece.Given as goal

abbrev pub invariant-loop-at : goal.invariant-loop-at
invariant-loop-at l = record { later : l.from ≤ l.at; within : l.at ≤ l.end }

abbrev pub decreases-loop-at : goal.decreases-loop-at
decreases-loop-at l = l.end - l.at
