-- The number that digits mean.
use Rattle.std.proofs.Common.{◌≡◌, ◌≢◌, ℕ, ◌+◌, ◌-◌, ◌*◌, ◌<◌, ◌≤◌, true, false, List, [], ◌∷◌, length, get_or, drop, suc, drop-cons, Some, None, refl, arith}
use Rattle.std.specs.Char.{is_ascii_digit}
use Rattle.std.specs.List.{list_all}
use Rattle.std.proofs.lemmas.Grind.{common_steps}
use Rattle.uda_grammar.specs.Words.{is_decimal, value_behind, number_of}

-- more digits make no number less
pub value_behind-ge : (value : ℕ) (digits : List ℕ) → value ≤ value_behind value digits
value_behind-ge value [] = omega arith
value_behind-ge value (digit ∷ rest) = omega (arith, value_behind-ge (10 * value + (digit - 48)) rest)

number_of-undecimal : (most : ℕ) (word : List ℕ) → is_decimal word ≡ false → number_of most word ≡ None
number_of-undecimal most word h = rw h refl

-- a word with another byte is no number
pub number_of-stray : (most : ℕ) (word : List ℕ) → list_all is_ascii_digit word ≡ false → number_of most word
    ≡ None
number_of-stray most [] h = refl
number_of-stray most (digit ∷ []) h = number_of-undecimal most (digit ∷ []) (grind (arith, common_steps))
number_of-stray most (digit ∷ next ∷ rest) h = number_of-undecimal most (digit ∷ next ∷ rest)
    (grind (arith, common_steps))

-- nor is one with a leading zero
pub number_of-zero : (most : ℕ) (word : List ℕ) → 1 < length word → get_or word 0 0 ≡ 48 → number_of most word
    ≡ None
number_of-zero most [] h e = refl
number_of-zero most (digit ∷ []) h e = absurd (omega arith)
number_of-zero most (digit ∷ next ∷ rest) h e = number_of-undecimal most (digit ∷ next ∷ rest) (rw e refl)

-- nor is one of more
pub number_of-large : (most : ℕ) (word : List ℕ) → most < value_behind 0 word → number_of most word ≡ None
number_of-large most word h = grind (arith, common_steps)

-- and all others are
pub is_decimal-digits : (word : List ℕ) → 0 < length word → (1 < length word → get_or word 0 0 ≢ 48)
    → list_all is_ascii_digit word ≡ true → is_decimal word ≡ true
is_decimal-digits [] h z d = absurd (omega arith)
is_decimal-digits (digit ∷ []) h z d = grind (arith, common_steps)
is_decimal-digits (digit ∷ next ∷ rest) h z d =
    let first : digit ≢ 48 = z (omega arith) in
    grind (arith, common_steps, first)

pub number_of-some : (most : ℕ) (word : List ℕ) → is_decimal word ≡ true → value_behind 0 word ≤ most
    → number_of most word ≡ Some (value_behind 0 word)
number_of-some most word d h = grind (arith, common_steps)

-- if the digits up to one mean too much, so do all
pub number_of-spill : (most value : ℕ) (word : List ℕ) (i : ℕ) → i < length word
    → most < 10 * value + (get_or word i 0 - 48) → value_behind value (drop i word) ≡ value_behind 0 word
    → number_of most word ≡ None
number_of-spill most value word i within large same =
    let reached : value_behind (10 * value + (get_or word i 0 - 48)) (drop (suc i) word)
    ≡ value_behind 0 word = rw (drop-cons word i 0) at same in
    number_of-large most word
    (omega (arith, value_behind-ge (10 * value + (get_or word i 0 - 48)) (drop (suc i) word)))
