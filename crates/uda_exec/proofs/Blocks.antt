-- The blocks of a range of bytes, and the bytes of a range of blocks.
use Rattle.std.proofs.Common.{◌≡◌, ℕ, inl, inr, zero, suc, ◌+◌, ◌-◌, ◌*◌, ◌<◌, ◌≤◌, List, [], ◌∷◌, ◌++◌, length, take, drop, replicate, ap, ◌∙◌, arith, append-nil, length-append, length-drop}
use Rattle.std.specs.List.{concat}
use Rattle.std.specs.Prelude.{All}
use Rattle.std.proofs.Math.Seq.{take-append-add}
use Rattle.std.proofs.lemmas.List.Folds.{concat-append}
use Rattle.uda_disk.proofs.Callers.{length-concat}
use Rattle.std.proofs.lemmas.List.Elements.{All-nil, All-take, All-drop}
use Rattle.std.proofs.lemmas.Bool.{cases_lt}
use Rattle.std.proofs.lemmas.List.{drop-take, drop-drop, take_all, take-take, take-append-le, length-replicate, length-take-le}
use Rattle.uda_mem.specs.Put.{part, put}
use Rattle.uda_mem.proofs.PutLaws.{length-part, length-part-le, put-part}
use Rattle.uda_image.specs.StoreLaws.{All-first_chunks}
use Rattle.uda_disk.specs.Request.{blocks_for, in_blocks, first_block}
use Rattle.uda_exec.specs.Commands.{bytes_at}

-- the first block of 512 bytes or more is the first 512 bytes
pub first_block-whole : (memory : List ℕ) (at n : ℕ) → 512 ≤ n → at + n ≤ length memory
    → first_block (part memory at n) ≡ part memory at 512
unfolding part
first_block-whole memory at n h room =
    let size : length (take n (drop at memory)) ≡ n = length-take-le n (drop at memory)
    (omega (arith, length-drop at memory)) in
    take-append-le 512 (take n (drop at memory)) (replicate 512 0) (omega (arith, size))
    ∙ take-take 512 n (drop at memory) h

-- the front of a part
pub take-part : {A : Type 0} (xs : List A) (at n m : ℕ) → m ≤ n → take m (part xs at n) ≡ part xs at m
unfolding part
take-part xs at n m h = take-take m n (drop at xs) h

-- a part of a part
pub part-part : {A : Type 0} (xs : List A) (at n i m : ℕ) → i + m ≤ n → part (part xs at n) i m
    ≡ part xs (at + i) m
unfolding part
part-part xs at n i m h =
    let more : n ≡ i + (n - i) = omega arith in
    rw (more, drop-take i (n - i) (drop at xs), drop-drop i at xs)
    (take-take m (n - i) (drop (at + i) xs) (omega arith))

-- blocks of 512 bytes each
abbrev pub AreBlocks : List (List ℕ) → Type 0
AreBlocks blocks = All (λ block. length block ≡ 512) blocks

pub length-concat_blocks : (blocks : List (List ℕ)) → AreBlocks blocks → length (concat blocks)
    ≡ 512 * length blocks
length-concat_blocks blocks h = length-concat blocks h

pub AreBlocks-part : (blocks : List (List ℕ)) (at n : ℕ) → (0 < n → AreBlocks blocks)
    → AreBlocks (part blocks at n)
unfolding part
AreBlocks-part blocks at zero h = All-nil (λ block. length block ≡ 512)
AreBlocks-part blocks at (suc n) h = All-take (λ block. length block ≡ 512) (suc n) (drop at blocks)
    (All-drop (λ block. length block ≡ 512) at blocks (h (omega arith)))

pub AreBlocks-take : (blocks : List (List ℕ)) (n : ℕ) → AreBlocks blocks → AreBlocks (take n blocks)
AreBlocks-take blocks n h = All-take (λ block. length block ≡ 512) n blocks h

pub length-concat_take : (blocks : List (List ℕ)) (k : ℕ) → AreBlocks blocks → k ≤ length blocks
    → length (concat (take k blocks)) ≡ 512 * k
length-concat_take blocks k are few = length-concat (take k blocks) (AreBlocks-take blocks k are)
    ∙ ap (λ n. 512 * n) (length-take-le k blocks few)

pub concat_push : (front : List (List ℕ)) (block : List ℕ) → concat (front ++ block ∷ []) ≡ concat front ++ block
concat_push front block = simp (concat-append, append-nil)

-- the first `count` of bytes in front and more
pub take_behind : (count n : ℕ) (front more : List ℕ) → length front ≡ n → n ≤ count
    → take count (front ++ more) ≡ front ++ take (count - n) more
take_behind count n front more size fits =
    let reach : count ≡ length front + (count - n) = omega arith in
    ap (λ (i : ℕ). take i (front ++ more)) reach ∙ take-append-add front more (count - n)

pub AreBlocks-in_blocks : (bytes : List ℕ) → AreBlocks (in_blocks bytes)
AreBlocks-in_blocks bytes =
    let zeros : List ℕ = replicate 512 0 in
    let none : length zeros ≡ 512 = length-replicate {A = ℕ} 512 0 in
    All-first_chunks (blocks_for (length bytes)) (bytes ++ zeros)
    (omega (arith, length-append bytes zeros, none))

-- ---- the bytes of a buffer

pub length-bytes_at : (memory : List ℕ) (at n : ℕ) → length (bytes_at memory at n) ≡ n
length-bytes_at memory at n =
    let there : List ℕ = part memory at n in
    length-append there (replicate (n - length there) 0)
    ∙ omega (arith, length-part memory at n, length-replicate {A = ℕ} (n - length there) 0)

pub bytes_at-within : (memory : List ℕ) (at n : ℕ) → at + n ≤ length memory → bytes_at memory at n
    ≡ part memory at n
bytes_at-within memory at n room =
    let there : List ℕ = part memory at n in
    let none : n - length there ≡ 0 = omega (arith, length-part-le memory at n room) in
    ap (λ (k : ℕ). there ++ replicate k 0) none ∙ append-nil there

-- no change: the first bytes of a block are those that are there
pub put_back : (memory : List ℕ) (at m : ℕ) → at + m ≤ length memory
    → put memory at (take m (bytes_at memory at 512)) ≡ memory
put_back memory at m room =
    let there : List ℕ = part memory at 512 in
    let size = length-part memory at 512 in
    elim (cases_lt 512 m) [
      | inl more ↦ ap (λ (b : List ℕ). put memory at (take m b)) (bytes_at-within memory at 512 (omega arith))
          ∙ ap (put memory at) (take_all m there (omega (arith, size))) ∙ put-part memory at 512
      | inr few ↦ ap (put memory at) (take-append-le m there _ (omega (arith, size)) ∙ take-part memory at 512 m few)
          ∙ put-part memory at m
    ]
