-- A list cut into chunks of n items.
use Rattle.std.proofs.Common.{◌≡◌, ℕ, zero, suc, ◌+◌, ◌*◌, ◌<◌, ◌≤◌, List, ◌∷◌, ◌++◌, length, take, drop, set, Some, refl, sym, ap, ◌∙◌, arith, length-drop, append_assoc, add_comm, replicate}
use Rattle.std.specs.Prelude.{slice_get}
use Rattle.std.specs.List.{concat, splice}
use Rattle.std.specs.Simd.{first_chunks}
use Rattle.std.proofs.Math.Seq.{take-add}
use Rattle.std.proofs.Math.Nat.{mul-suc}
use Rattle.std.proofs.lemmas.List.{drop-drop, take_at, drop_at, take-append-drop, nil_from_length, length-take-le, length-replicate, replicate-append-replicate}

module _ {A : Type 0} where
  pub slice_get-first_chunks : (n k : ℕ) (xs : List A) (i : ℕ) → i < k
      → slice_get (first_chunks n k xs) i ≡ Some (take n (drop (n * i) xs))
  slice_get-first_chunks n zero xs i h = absurd (omega arith)
  slice_get-first_chunks n (suc k) xs zero h =
      let start : n * 0 ≡ 0 = omega arith in
      ap (λ m. Some (take n (drop m xs))) (sym start)
  slice_get-first_chunks n (suc k) xs (suc i) h =
      let start : n + n * i ≡ n * suc i = sym (mul-suc n i ∙ add_comm (n * i) n) in
      slice_get-first_chunks n k (drop n xs) i (omega arith)
      ∙ ap (λ ys. Some (take n ys)) (drop-drop (n * i) n xs ∙ ap (λ m. drop m xs) start)

  -- the first chunk, and the others, of a list that begins with n items
  first_chunks-append : (n k : ℕ) (chunk xs : List A) → length chunk ≡ n
      → first_chunks n (suc k) (chunk ++ xs) ≡ chunk ∷ first_chunks n k xs
  first_chunks-append n k chunk xs e =
      ap (λ c. c ∷ first_chunks n k (drop n (chunk ++ xs))) (take_at chunk xs n e)
      ∙ ap (λ rest. chunk ∷ first_chunks n k rest) (drop_at chunk xs n e)

  -- items written over one chunk change only that chunk
  pub first_chunks-splice : (n k : ℕ) (xs ys : List A) (i : ℕ) → i < k → k * n ≤ length xs → length ys ≡ n
      → first_chunks n k (splice xs (n * i) (n * i + n) ys) ≡ set (first_chunks n k xs) i ys
  first_chunks-splice n zero xs ys i h room e = absurd (omega arith)
  first_chunks-splice n (suc k) xs ys zero h room e =
      let start : n * 0 ≡ 0 = omega arith in
      let next : 0 + n ≡ n = omega arith in
      ap (λ m. first_chunks n (suc k) (splice xs m (m + n) ys)) start
      ∙ ap (λ m. first_chunks n (suc k) (splice xs 0 m ys)) next ∙ first_chunks-append n k ys (drop n xs) e
  first_chunks-splice n (suc k) xs ys (suc i) h room e =
      let start : n * suc i ≡ n + n * i = mul-suc n i ∙ add_comm (n * i) n in
      let whole : length (take n xs) ≡ n = length-take-le n xs (omega arith) in
      let later : k * n ≤ length (drop n xs) = simp length-drop (omega arith) in
      let behind : drop (n * i + n) (drop n xs) ≡ drop (n + n * i + n) xs =
      drop-drop (n * i + n) n xs ∙ ap (λ m. drop m xs) (omega arith) in
      ap (λ m. first_chunks n (suc k) (splice xs m (m + n) ys)) start
      ∙ ap (λ front. first_chunks n (suc k) (front ++ (ys ++ drop (n + n * i + n) xs)))
      (take-add n (n * i) xs)
      ∙ ap (λ tail. first_chunks n (suc k) ((take n xs ++ take (n * i) (drop n xs)) ++ (ys ++ tail)))
      (sym behind)
      ∙ ap (first_chunks n (suc k))
      (append_assoc (take n xs) (take (n * i) (drop n xs)) (ys ++ drop (n * i + n) (drop n xs)))
      ∙ first_chunks-append n k (take n xs) (splice (drop n xs) (n * i) (n * i + n) ys) whole
      ∙ ap (λ chunks. take n xs ∷ chunks) (first_chunks-splice n k (drop n xs) ys i (omega arith) later e)

  -- of equal items every chunk is the same
  pub first_chunks-replicate : (n k : ℕ) (x : A)
      → first_chunks n k (replicate (n * k) x) ≡ replicate k (replicate n x)
  first_chunks-replicate n zero x = refl
  first_chunks-replicate n (suc k) x =
      let count : n * suc k ≡ n + n * k = mul-suc n k ∙ add_comm (n * k) n in
      ap (λ m. first_chunks n (suc k) (replicate m x)) count
      ∙ ap (first_chunks n (suc k)) (sym (replicate-append-replicate n (n * k) x))
      ∙ first_chunks-append n k (replicate n x) (replicate (n * k) x) (length-replicate n x)
      ∙ ap (λ chunks. replicate n x ∷ chunks) (first_chunks-replicate n k x)

-- the chunks of a list that they fill, joined, are the list
pub concat-first_chunks : (n k : ℕ) (xs : List ℕ) → length xs ≡ k * n → concat (first_chunks n k xs) ≡ xs
concat-first_chunks n zero xs e = sym (nil_from_length xs (omega arith))
concat-first_chunks n (suc k) xs e =
    let rest : length (drop n xs) ≡ k * n = simp length-drop (omega arith) in
    ap (λ ys. take n xs ++ ys) (concat-first_chunks n k (drop n xs) rest) ∙ take-append-drop n xs
