-- An item of a list set to another.
use Rattle.std.proofs.Common.{◌≡◌, ◌≢◌, ℕ, ◌<◌, zero, suc, List, ◌∷◌, length, length-set, set, Some, refl, sym, ap, ◌∙◌, arith}
use Rattle.std.specs.Prelude.{slice_get}
use Rattle.std.proofs.lemmas.List.{get_or-set_same, set-get_or}
use Rattle.std.proofs.lemmas.Option.{slice_get-get_or, get_or_from_slice_get}

pub slice_get-set_same : {A : Type 0} (xs : List A) (i : ℕ) (a : A) → i < length xs → slice_get (set xs i a) i
    ≡ Some a
slice_get-set_same xs i a h = slice_get-get_or (set xs i a) i a (omega (arith, length-set xs i a))
    ∙ ap Some (get_or-set_same xs i a a h)

pub slice_get-set_other : {A : Type 0} (xs : List A) (i j : ℕ) (a : A) → j ≢ i → slice_get (set xs i a) j
    ≡ slice_get xs j
slice_get-set_other (x ∷ xs) zero zero a h = absurd (h refl)
slice_get-set_other (x ∷ xs) (suc i) (suc j) a h = slice_get-set_other xs i j a (λ e. h (ap suc e))
slice_get-set_other _ _ _ a h = refl

-- an item set to itself
pub set-itself : {A : Type 0} (xs : List A) (i : ℕ) (a : A) → slice_get xs i ≡ Some a → set xs i a ≡ xs
set-itself xs i a h = ap (λ x. set xs i x) (sym (get_or_from_slice_get xs i a a h)) ∙ set-get_or xs i a
