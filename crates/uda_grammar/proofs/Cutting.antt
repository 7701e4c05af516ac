-- A list cut at the first element that passes a test.
use Rattle.std.proofs.Common.{◌≡◌, ℕ, ◌+◌, ◌-◌, ◌<◌, Bool, true, false, cond, List, [], ◌∷◌, ◌≤◌, length, take, drop, Option, Some, None, refl, nat_lt, arith}
use Rattle.std.specs.List.{position, position_or_len, slice_split}
use Rattle.std.proofs.lemmas.List.Splits.{slice_split_first, slice_split_none, length-slice_split}
use Rattle.std.proofs.lemmas.List.Sums.{fails_before_first}
use Rattle.std.proofs.lemmas.List.Elements.{All-from_get_or}
use Rattle.std.proofs.lemmas.Grind.{common_steps}
use Rattle.std.specs.Prelude.{◌==◌}
use Rattle.uda_grammar.specs.Parts.{parts, parts_behind}

-- what the test that `position` makes says
chosen : (b : Bool) (n i : ℕ) → cond b (Some n) None ≡ Some i → (b ≡ true) × (n ≡ i)
chosen true n i e = (refl, cc)
chosen false n i e = absurd (cc)

refused : (b : Bool) (n : ℕ) → cond b (Some n) None ≡ None → b ≡ false
refused true n e = absurd (cc)
refused false n e = refl

pub slice_split_found : (p : ℕ → Bool) (xs : List ℕ) (i : ℕ) → position p xs ≡ Some i → slice_split p xs
    ≡ take i xs ∷ slice_split p (take (length xs - (i + 1)) (drop (i + 1) xs))
slice_split_found p xs i e =
    let h = chosen (nat_lt (position_or_len p xs) (length xs)) (position_or_len p xs) i e in
    let within : position_or_len p xs < length xs = grind (arith, h.0) in
    let tail : take (length xs - (i + 1)) (drop (i + 1) xs) ≡ drop (i + 1) xs = grind (arith, common_steps) in
    rw (tail, ← h.1) (slice_split_first p xs 0 within)

pub slice_split_absent : (p : ℕ → Bool) (xs : List ℕ) → position p xs ≡ None → slice_split p xs ≡ xs ∷ []
slice_split_absent p xs e =
    let h = refused (nat_lt (position_or_len p xs) (length xs)) (position_or_len p xs) e in
    let past : length xs ≤ position_or_len p xs = grind (arith, h) in
    slice_split_none p xs (All-from_get_or (λ x. p x ≡ false) xs 0
    (λ k below. fails_before_first p xs k 0 (omega arith)))

-- a text has at least one part
pub parts_nonempty : (separator : ℕ) (text : List ℕ) → 0 < length (parts separator text)
parts_nonempty separator text = omega (arith, length-slice_split (λ byte. byte == separator) text)

-- and at least two if a separator is in it
pub behind_nonempty : (separator : ℕ) (behind : Option (List ℕ)) (rest : List ℕ) → behind ≡ Some rest
    → 0 < length (parts_behind separator behind)
behind_nonempty separator behind rest e = rw e (parts_nonempty separator rest)
