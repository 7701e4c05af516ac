-- The number that a tally represents.
use Rattle.std.specs.Prelude.{ℕ, ◌+◌}
use Rattle.uda_port.specs.declared.tally.Count.{Count, Zero, Next'}

-- the sum of the steps
abbrev pub count_of : Count → ℕ
count_of Zero = 0
count_of (Next' _ before amount) = count_of before + amount
