-- Ranges of a list that are cut out, written over and joined.
use Rattle.std.proofs.Common.{◌≡◌, ℕ, ◌+◌, ◌<◌, ◌≤◌, suc, List, [], ◌∷◌, ◌++◌, length, get_or, take, drop, replicate, sym, ap, ◌∙◌, arith, length-append, length-drop, length-take, drop-drop, append-nil}
use Rattle.std.specs.List.{concat}
use Rattle.std.proofs.Math.Seq.{take-suc}
use Rattle.std.proofs.lemmas.List.{length-replicate, take_all, replicate-append-replicate}
use Rattle.std.proofs.lemmas.List.Folds.{concat-append}
use Rattle.uda_mem.specs.Put.{part, put}
use Rattle.uda_mem.proofs.PutLaws.{put-put_next}

-- the blocks up to one more, joined
pub concat-next : (xs : List (List ℕ)) (k : ℕ) (d bytes grown : List ℕ) → k < length xs
    → bytes ≡ concat (take k xs) → grown ≡ bytes ++ get_or xs k d → grown ≡ concat (take (k + 1) xs)
concat-next xs k d bytes grown h was is =
    let next : suc k ≡ k + 1 = omega arith in
    is ∙ ap (λ l. l ++ get_or xs k d) was
    ∙ ap (λ l. concat (take k xs) ++ l) (sym (append-nil (get_or xs k d)))
    ∙ sym (concat-append (take k xs) (get_or xs k d ∷ []))
    ∙ ap concat (sym (take-suc xs k d h))
    ∙ ap (λ n. concat (take n xs)) next

pub part-range : {A : Type 0} → (xs : List A) (at n k : ℕ) → k ≡ n → take k (drop at xs) ≡ part xs at n
unfolding part
part-range xs at n k e = ap (λ m. take m (drop at xs)) e

-- the rest of the list after a range of a slice
pub put-range : {A : Type 0} → (xs : List A) (at n : ℕ) (ys : List A) → n ≡ length ys
    → at + length ys ≤ length xs → take at xs ++ (ys ++ drop n (drop at xs)) ≡ put xs at ys
unfolding put
put-range xs at n ys e h =
    ap (λ zs. take at xs ++ (ys ++ zs)) (drop-drop n at xs ∙ ap (λ m. drop m xs) (omega arith))
    ∙ sym (take_all (length xs) (take at xs ++ (ys ++ drop (at + length ys) xs))
    (simp (length-append, length-take, length-drop) (omega arith)))

-- one more of what was put k times
pub put-next : {A : Type 0} → (xs now after : List A) (at k : ℕ) (y : A) → now ≡ put xs at (replicate k y)
    → after ≡ put now (at + k) (y ∷ []) → after ≡ put xs at (replicate (k + 1) y)
put-next xs now after at k y was is =
    let place : at + k ≡ at + length (replicate k y) = ap (λ n. at + n) (sym (length-replicate k y)) in
    is ∙ ap (λ l. put l (at + k) (y ∷ [])) was
    ∙ put-put_next xs at (replicate k y) (y ∷ []) (at + k) place
    ∙ ap (put xs at) (replicate-append-replicate k 1 y)

-- one more of a list of which k were put
pub put-more : {A : Type 0} → (xs now after ys : List A) (at k : ℕ) (y d : A) → k < length ys
    → y ≡ get_or ys k d → now ≡ put xs at (take k ys) → after ≡ put now (at + k) (y ∷ [])
    → after ≡ put xs at (take (k + 1) ys)
put-more xs now after ys at k y d low own was is =
    let place : at + k ≡ at + length (take k ys) = omega (arith, length-take k ys) in
    let next : suc k ≡ k + 1 = omega arith in
    is ∙ ap (λ l. put l (at + k) (y ∷ [])) was
    ∙ put-put_next xs at (take k ys) (y ∷ []) (at + k) place
    ∙ ap (λ x. put xs at (take k ys ++ x ∷ [])) own
    ∙ ap (put xs at) (sym (take-suc ys k d low) ∙ ap (λ n. take n ys) next)
