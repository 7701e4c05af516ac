-- The laws of registers, in memory and in a slice.
use Rattle.std.proofs.Common.{◌≡◌, ℕ, ◌+◌, ◌<◌, List, length, Option, None, IfSome, is_some, nat_lt, get_or, arith, Bor}
use Rattle.std.specs.List.{slice_get}
use Rattle.std.specs.Option.{option_copied}
use Rattle.std.proofs.lemmas.Option.{slice_get_cases}
use Rattle.std.proofs.lemmas.Grind.{common_steps}
use Rattle.std.proofs.lemmas.Bool.Decides.{nat_tests}
use Rattle.uda_bus.specs.Longs.{long_in}

-- there is no longword that ends past the end
pub long_in_none : (memory : List ℕ) (at : ℕ) → length memory < at + 4 → long_in memory at ≡ None
unfolding long_in
long_in_none memory at past = grind (arith, nat_tests)

-- a register that a slice has
pub copied_get : (r : Option (Bor ℕ)) (xs : List ℕ) (i : ℕ) → is_some r ≡ nat_lt i (length xs)
    → IfSome r (λ x. x.now ≡ get_or xs i x.now) → option_copied r ≡ slice_get xs i
copied_get r xs i there is = grind (arith, common_steps, slice_get_cases)
