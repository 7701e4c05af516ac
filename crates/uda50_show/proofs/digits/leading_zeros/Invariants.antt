use Rattle.std.proofs.Common.{◌≡◌, ◌-◌, ◌<◌, ◌≤◌, ℕ, get_or}
use Rattle.uda50_show.proofs.digits.leading_zeros.Given as goal

abbrev pub invariant-loop-zeros : goal.invariant-loop-zeros
invariant-loop-zeros l = record {
  within : l.zeros ≤ l.last;
  zeros : (n : ℕ) → n < l.zeros → get_or l.digits n 0 ≡ 48;
}

abbrev pub decreases-loop-zeros : goal.decreases-loop-zeros
decreases-loop-zeros l = l.last - l.zeros
