-- Buffers that are free or not: one is taken, and one is returned.
use Rattle.std.proofs.Common.{◌≡◌, ◌≢◌, ℕ, zero, suc, ◌+◌, ◌<◌, ◌⊎◌, Bool, true, false, List, [], ◌∷◌, length, set, get_or, Some, None, refl, sym, ap, ◌∙◌, inl, inr, arith}
use Rattle.std.specs.Prelude.{Option, slice_get, ◌||◌, is_none}
use Rattle.std.specs.List.{position, position_or_len}
use Rattle.std.proofs.lemmas.List.Quantifiers.{position-Some}
use Rattle.std.proofs.lemmas.List.Sums.{fails_before_first}
use Rattle.std.proofs.lemmas.Bool.{cases_lt, cases_eq, lt-ltb}
use Rattle.uda_disk.proofs.Slots.{slice_get-set_same, slice_get-set_other}
use Rattle.std.proofs.lemmas.List.Folds.{list_any_at}
use Rattle.std.proofs.lemmas.Option.{slice_get_within, slice_get-get_or, get_or_from_slice_get}
use Rattle.uda_disk.specs.Request.{Request}
use Rattle.uda_driver.specs.Outstanding.{occupied_count, clashes_with, clashes_with_any}
use Rattle.uda_driver.specs.DriverStep.{HasFreeBuffer}
use Rattle.uda_driver.specs.declared.outstanding.Outstanding.{Outstanding}

-- ---- one buffer is set

-- an item of a list in which an item was set is that item, or was in it before
pub set_at : {A : Type 0} (xs : List A) (i k : ℕ) (a b : A) → i < length xs → slice_get (set xs i a) k
    ≡ Some b → ((k ≡ i) × (a ≡ b)) ⊎ ((k ≢ i) × (slice_get xs k ≡ Some b))
set_at xs i k a b within stands = elim (cases_eq k i) [
  | inl same ↦ (let both : Some a ≡ Some b = sym (slice_get-set_same xs i a within)
      ∙ ap (slice_get (set xs i a)) (sym same) ∙ stands in let is : a ≡ b = cc in inl (same, is))
  | inr other ↦ inr (other, sym (slice_get-set_other xs i k a other) ∙ stands)
]

-- after a buffer is freed, each outstanding request has another buffer and was outstanding before
pub freed_at : (out : List (Option Outstanding)) (number k : ℕ) (one : Outstanding) → number < length out
    → slice_get (set out number None) k ≡ Some (Some one) → (k ≢ number) × (slice_get out k ≡ Some (Some one))
freed_at out number k one within stands = elim (set_at out number k None (Some one) within stands) [
  | inl it ↦ (let is = it.1 in absurd (cc))
  | inr it ↦ it
]

-- ---- the number of outstanding requests

pub count-taken : (out : List (Option Outstanding)) (number : ℕ) (one : Outstanding) → slice_get out number ≡ Some None
    → occupied_count (set out number (Some one)) ≡ occupied_count out + 1
count-taken [] number one free = absurd (cc)
count-taken (None ∷ rest) zero one free = omega arith
count-taken (Some other ∷ rest) zero one free = absurd (cc)
count-taken (None ∷ rest) (suc number) one free = count-taken rest number one free
count-taken (Some other ∷ rest) (suc number) one free = omega (arith, count-taken rest number one free)

pub count-freed : (out : List (Option Outstanding)) (number : ℕ) (one : Outstanding) → slice_get out number ≡ Some (Some one)
    → occupied_count (set out number None) + 1 ≡ occupied_count out
count-freed [] number one stands = absurd (cc)
count-freed (None ∷ rest) zero one stands = absurd (cc)
count-freed (Some other ∷ rest) zero one stands = omega arith
count-freed (None ∷ rest) (suc number) one stands = count-freed rest number one stands
count-freed (Some other ∷ rest) (suc number) one stands = omega (arith, count-freed rest number one stands)

-- while fewer requests are outstanding than there are buffers, one is free
pub some_free : (out : List (Option Outstanding)) → occupied_count out < length out → HasFreeBuffer out
some_free [] few = absurd (omega arith)
some_free (None ∷ rest) few = record { number = 0; stands = refl }
some_free (Some one ∷ rest) few =
    let it = some_free rest (omega arith) in record { number = suc it.number; stands = it.stands }

-- ---- conflicts

pub clashing_out : (r : Request) (out : List (Option Outstanding)) → clashes_with_any r out ≡ true → 0 < occupied_count out
clashing_out r [] met = absurd (cc)
clashing_out r (None ∷ rest) met = clashing_out r rest met
clashing_out r (Some one ∷ rest) met = omega arith

pub no_clash_at : (r : Request) (out : List (Option Outstanding)) (number : ℕ) (one : Outstanding) → clashes_with_any r out
    ≡ false → slice_get out number ≡ Some (Some one) → clashes_with r (Some one) ≡ false
no_clash_at r out number one none stands = by (clashes_with r (Some one)) refl
  where
    by : (met : Bool) → clashes_with r (Some one) ≡ met → met ≡ false
    by false is = refl
    by true is =
        let some = list_any_at (clashes_with r) out number None
        (slice_get_within out number (Some one) stands)
        (ap (clashes_with r) (get_or_from_slice_get out number (Some one) None stands) ∙ is) in
        sym some ∙ none

-- one more conflicts if it does itself, or if one of the others does
pub clashes-taken : (r : Request) (out : List (Option Outstanding)) (number : ℕ) (one : Outstanding) → slice_get out number
    ≡ Some None
    → clashes_with_any r (set out number (Some one)) ≡ clashes_with r (Some one) || clashes_with_any r out
clashes-taken r [] number one free = absurd (cc)
clashes-taken r (None ∷ rest) zero one free = refl
clashes-taken r (Some other ∷ rest) zero one free = absurd (cc)
clashes-taken r (slot ∷ rest) (suc number) one free =
    ap (λ (b : Bool). clashes_with r slot || b) (clashes-taken r rest number one free)
    ∙ between (clashes_with r slot) (clashes_with r (Some one)) (clashes_with_any r rest)
  where
    between : (a b c : Bool) → a || (b || c) ≡ b || (a || c)
    between true true c = refl
    between true false c = refl
    between false b c = refl

-- ---- the first buffer that passes a test

-- a buffer that passes isn't missed
pub never_missed : (p : Option Outstanding → Bool) (out : List (Option Outstanding)) (number : ℕ) (slot : Option Outstanding)
    → slice_get out number ≡ Some slot → p slot ≡ true → None ≡ position p out → ⊥
never_missed p out number slot stands passes none = elim (cases_lt (position_or_len p out) (length out)) [
  | inl low ↦ (let is : None ≡ Some (position_or_len p out) = none
      ∙ rw (lt-ltb (position_or_len p out) (length out) low) refl in cc)
  | inr past ↦
      let fails = fails_before_first p out number None
      (omega (arith, past, slice_get_within out number slot stands)) in
      let same = get_or_from_slice_get out number slot None stands in
      let both : true ≡ false = sym passes ∙ ap p (sym same) ∙ fails in absurd (cc)
]

-- what the first that passes holds
pub record IsFound (p : Option Outstanding → Bool) (out : List (Option Outstanding)) (number : ℕ)
    (slot : Option Outstanding) : Type 0 where
  pub low : number < length out
  pub stands : slice_get out number ≡ Some slot
  pub passes : p slot ≡ true

pub is_found : (p : Option Outstanding → Bool) (out : List (Option Outstanding)) (number : ℕ) (d slot : Option Outstanding)
    → Some number ≡ position p out → slot ≡ get_or out number d → IsFound p out number slot
is_found p out number d slot is same =
    let it = position-Some p out number d (sym is) in
    record {
      low = it.0;
      stands = slice_get-get_or out number d it.0 ∙ ap Some (sym same);
      passes = ap p same
          ∙ it.1;
    }

pub found_free : (out : List (Option Outstanding)) (number : ℕ) → Some number ≡ position (λ slot. is_none slot) out
    → IsFound (λ slot. is_none slot) out number None
found_free out number is = by (get_or out number None)
    (is_found (λ slot. is_none slot) out number None _ is refl)
  where
    by : (slot : Option Outstanding) → IsFound (λ s. is_none s) out number slot
        → IsFound (λ s. is_none s) out number None
    by None found = found
    by (Some one) found = let passes = found.passes in absurd (cc)
