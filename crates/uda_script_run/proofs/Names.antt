-- The lengths of names of statuses.
use Rattle.std.proofs.Common.{ℕ, ◌≤◌, length, arith}
use Rattle.std.proofs.lemmas.Bool.Decides.{nat_tests}
use Rattle.uda_disk.specs.Status.{status_name}

pub short_name : (word : ℕ) → length (status_name word) ≤ 29
unfolding status_name
short_name word = grind (arith, nat_tests)
