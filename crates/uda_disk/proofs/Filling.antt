-- A block of which the first bytes are set.
use Rattle.std.proofs.Common.{◌≡◌, ℕ, ◌+◌, ◌-◌, ◌<◌, min, inl, inr, List, ◌++◌, length, get_or, take, drop, replicate, refl, sym, ap, ◌∙◌, arith, length-append, length-drop}
use Rattle.std.proofs.lemmas.Bool.{cases_lt}
use Rattle.std.proofs.lemmas.List.{same_lists, length-replicate, length-take-le, get_or-take, get_or-drop, get_or-replicate, get_or_append_left, get_or-append_right}
use Rattle.uda_disk.specs.Request.{first_block}

-- the first bytes, and zeros up to the end of a block
pub front_filled : (bytes front : List ℕ) (n : ℕ) → n ≡ min (length bytes) 512 → front ≡ take n bytes
    → front ++ drop n (replicate 512 0) ≡ first_block bytes
front_filled bytes front n count is =
    let zeros : List ℕ = replicate 512 0 in
    let none : length zeros ≡ 512 = length-replicate {A = ℕ} 512 0 in
    let size : length front ≡ n = ap length is ∙ length-take-le n bytes (omega (arith, count)) in
    let left : length (front ++ drop n zeros) ≡ 512 = length-append front (drop n zeros)
    ∙ omega (arith, count, size, none, length-drop n zeros) in
    let right : length (take 512 (bytes ++ zeros)) ≡ 512 = length-take-le 512 (bytes ++ zeros)
    (omega (arith, length-append bytes zeros, none)) in
    same_lists _ _ (left ∙ sym right) (λ k d below.
    let inside : k < 512 = omega (arith, left) in
    elim (cases_lt k n) [
      | inl low ↦ get_or_append_left front (drop n zeros) d k (omega (arith, size))
          ∙ ap (λ (b : List ℕ). get_or b k d) is ∙ get_or-take n bytes k d low
          ∙ sym (get_or-take 512 (bytes ++ zeros) k d inside ∙ get_or_append_left bytes zeros d k
          (omega (arith, count)))
      | inr high ↦ get_or-append_right front (drop n zeros) n k d size high ∙ get_or-drop n zeros (k - n) d
          ∙ get_or-replicate 512 (n + (k - n)) 0 d (omega arith)
          ∙ sym (get_or-take 512 (bytes ++ zeros) k d inside ∙ get_or-append_right bytes zeros
          (length bytes) k d refl (omega (arith, count)) ∙ get_or-replicate 512 (k - length bytes) 0 d
          (omega arith))
    ])
