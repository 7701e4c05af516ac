-- A slice that is filled read by read.
use Rattle.std.proofs.Common.{◌≡◌, ℕ, ◌+◌, ◌≤◌, List, ◌++◌, length, take, drop, sym, ap, ◌∙◌, subst, le_refl, drop_at, length-take-le}
use Rattle.std.specs.Prelude.{Option}
use Rattle.std.proofs.lemmas.Slice.{take-put_mid_below}
use Rattle.std.specs.Io.KnownBytes.{Consumes, Keeps}
use Rattle.std.proofs.KnownBytes.{Consumes-trans, Consumes-kept}
use borrow.Rule.Slice.PartMut.{put_mid, post_of}
use lib.Seq.{take-add, take-append-le}

-- the front and the bytes read after it
take_filled : (a k n : ℕ) (xs ys : List ℕ) → a ≤ length xs → n ≤ length ys → take a xs ++ take n ys
    ≡ take (a + n) (put_mid a k xs ys)
take_filled a k n xs ys within fits =
    let rest : drop a (put_mid a k xs ys) ≡ ys ++ post_of a k xs =
    drop_at (take a xs) (ys ++ post_of a k xs) a (length-take-le a xs within) in
    let read : take n (drop a (put_mid a k xs ys)) ≡ take n ys = ap (take n) rest
    ∙ take-append-le n ys (post_of a k xs) fits in
    ap (λ (l : List ℕ). l ++ take n ys) (sym (take-put_mid_below a k xs ys a (le_refl a) within))
    ∙ ap (λ (l : List ℕ). take a (put_mid a k xs ys) ++ l) (sym read)
    ∙ sym (take-add a n (put_mid a k xs ys))

pub fills_more : (a k n : ℕ) (xs ys : List ℕ) (left now next : Option (List ℕ)) → a ≤ length xs
    → n ≤ length ys → Consumes left now (take a xs) → Consumes now next (take n ys)
    → Consumes left next (take (a + n) (put_mid a k xs ys))
fills_more a k n xs ys left now next within fits so_far more =
    subst (λ (l : List ℕ). Consumes left next l) (take_filled a k n xs ys within fits)
    (Consumes-trans left now next (take a xs) (take n ys) so_far more)

pub fills_same : (a k : ℕ) (xs ys : List ℕ) (left now next : Option (List ℕ)) → a ≤ length xs
    → Consumes left now (take a xs) → Keeps now next → Consumes left next (take a (put_mid a k xs ys))
fills_same a k xs ys left now next within so_far same =
    subst (λ (l : List ℕ). Consumes left next l) (sym (take-put_mid_below a k xs ys a (le_refl a) within))
    (Consumes-kept left now next (take a xs) so_far same)
