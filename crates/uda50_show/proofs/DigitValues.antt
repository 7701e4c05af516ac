-- The values of characters as digits.
use Rattle.std.proofs.Common.{◌≡◌, ℕ, zero, suc, ◌-◌, ◌<◌, Bool, true, ◌&&◌, T, eqb, get_or, arith, inl, inr, eq-zero-or-pos, eqb→eq}
use lib.Ieee.Fits.{and_l, and_r}
use Rattle.std.specs.Char.{digit_value}
use Rattle.uda50_show.specs.declared.reader.TheConstants.{DIGIT_VALUES}

-- the table has the values of all characters below a number
abbrev has_values : ℕ → Bool
has_values zero = true
has_values (suc n) = eqb (get_or DIGIT_VALUES n 0) (digit_value n) && has_values n

below : (limit n : ℕ) → T (has_values limit) → n < limit → get_or DIGIT_VALUES n 0 ≡ digit_value n
below zero n has less = absurd (omega arith)
below (suc limit) n has less =
    elim (eq-zero-or-pos (limit - n)) [
      | inl same ↦ let e : n ≡ limit = omega arith in rw e (eqb→eq _ _ (and_l _ (has_values limit) has))
      | inr more ↦ below limit n (and_r _ (has_values limit) has) (omega arith)
    ]

pub value_at : (n : ℕ) → n < 256 → get_or DIGIT_VALUES n 0 ≡ digit_value n
value_at n less = below 256 n tt less
