-- Several blocks of an image in memory, read and written at once.
use Rattle.std.proofs.Common.{◌≡◌, ℕ, zero, suc, ◌+◌, ◌-◌, ◌*◌, ◌/◌, ◌<◌, ◌≤◌, min, inl, inr, List, ◌∷◌, ◌++◌, length, get_or, take, drop, refl, sym, ap, ◌∙◌, arith, add_comm}
use Rattle.std.specs.List.{concat}
use Rattle.std.specs.Simd.{first_chunks}
use Rattle.std.proofs.Math.Seq.{take-add}
use Rattle.std.proofs.Math.Nat.{mul-suc}
use Rattle.std.proofs.lemmas.Bool.{cases_lt}
use Rattle.std.proofs.lemmas.List.{same_lists, drop-drop}
use Rattle.std.proofs.lemmas.Option.{get_or_from_slice_get}
use Rattle.uda_mem.specs.Put.{put, part}
use Rattle.uda_mem.proofs.PutLaws.{length-put, get_or-put_before, get_or-put_at, get_or-put_behind, part-put_apart, part-put_inside}
use Rattle.uda_image.specs.Limits.{store_limit}
use Rattle.uda_image.specs.Image.{block_count_of, blocks_of}
use Rattle.uda_image.specs.StoreLaws.{length-first_chunks}
use Rattle.uda_image.proofs.Chunk.{slice_get-first_chunks}

-- the blocks joined are the bytes that they were cut from
pub concat-chunks : (count : ℕ) (bytes : List ℕ) → concat (first_chunks 512 count bytes)
    ≡ take (512 * count) bytes
concat-chunks zero bytes = refl
concat-chunks (suc count) bytes =
    let size : 512 + 512 * count ≡ 512 * suc count = sym (mul-suc 512 count ∙ add_comm (512 * count) 512) in
    ap (λ (b : List ℕ). take 512 bytes ++ b) (concat-chunks count (drop 512 bytes))
    ∙ sym (take-add 512 (512 * count) bytes) ∙ ap (λ i. take i bytes) size

pub take-chunks : (count k : ℕ) (bytes : List ℕ) → count ≤ k → take count (first_chunks 512 k bytes)
    ≡ first_chunks 512 count bytes
take-chunks zero k bytes h = refl
take-chunks (suc count) zero bytes h = absurd (omega arith)
take-chunks (suc count) (suc k) bytes h = ap (λ (bs : List (List ℕ)). take 512 bytes ∷ bs)
    (take-chunks count k (drop 512 bytes) (omega arith))

drop-chunks : (n m k : ℕ) (bytes : List ℕ) → k ≡ n + m → drop n (first_chunks 512 k bytes)
    ≡ first_chunks 512 m (drop (512 * n) bytes)
drop-chunks zero m k bytes e = ap (λ i. first_chunks 512 i bytes) (omega arith)
drop-chunks (suc n) m zero bytes e = absurd (omega arith)
drop-chunks (suc n) m (suc k) bytes e =
    let size : 512 + 512 * n ≡ 512 * suc n = sym (mul-suc 512 n ∙ add_comm (512 * n) 512) in
    drop-chunks n m k (drop 512 bytes) (omega arith) ∙ ap (λ (b : List ℕ). first_chunks 512 m b)
    (drop-drop (512 * n) 512 bytes ∙ ap (λ i. drop i bytes) size)

-- count of the blocks that bytes are cut into, from block n
pub concat-part_chunks : (k : ℕ) (bytes : List ℕ) (n count : ℕ) → n + count ≤ k
    → concat (part (first_chunks 512 k bytes) n count) ≡ part bytes (512 * n) (512 * count)
unfolding part
concat-part_chunks k bytes n count h =
    ap (λ (bs : List (List ℕ)). concat (take count bs)) (drop-chunks n (k - n) k bytes (omega arith))
    ∙ ap concat (take-chunks count (k - n) (drop (512 * n) bytes) (omega arith))
    ∙ concat-chunks count (drop (512 * n) bytes)

-- count blocks from block n
pub concat-part_blocks : (bytes : List ℕ) (n count : ℕ) → n + count ≤ block_count_of bytes
    → concat (part (blocks_of bytes) n count) ≡ part bytes (512 * n) (512 * count)
unfolding blocks_of
concat-part_blocks bytes n count h = concat-part_chunks (block_count_of bytes) bytes n count h

pub block_count-put : (bytes : List ℕ) (at : ℕ) (from : List ℕ) → block_count_of (put bytes at from)
    ≡ block_count_of bytes
unfolding block_count_of
block_count-put bytes at from = ap (λ m. min (m / 512) store_limit) (length-put bytes at from)

pub get_or-chunks : (k : ℕ) (bytes : List ℕ) (i : ℕ) (d : List ℕ) → i < k
    → get_or (first_chunks 512 k bytes) i d ≡ part bytes (512 * i) 512
unfolding part
get_or-chunks k bytes i d h = get_or_from_slice_get (first_chunks 512 k bytes) i
    (take 512 (drop (512 * i) bytes)) d (slice_get-first_chunks 512 k bytes i h)

-- bytes written over whole blocks are those blocks
pub chunks-put : (k : ℕ) (bytes : List ℕ) (n count : ℕ) (from : List ℕ) → n + count ≤ k
    → k * 512 ≤ length bytes → length from ≡ 512 * count
    → first_chunks 512 k (put bytes (512 * n) from) ≡ put (first_chunks 512 k bytes) n
    (first_chunks 512 count from)
chunks-put k bytes n count from inside room size =
    let old : List (List ℕ) = first_chunks 512 k bytes in
    let more : List (List ℕ) = first_chunks 512 count from in
    let long : length old ≡ k = length-first_chunks k bytes in
    let many : length more ≡ count = length-first_chunks count from in
    let left : length (first_chunks 512 k (put bytes (512 * n) from)) ≡ k =
    length-first_chunks k (put bytes (512 * n) from) in
    same_lists _ _ (left ∙ sym (length-put old n more ∙ long)) (λ i d below.
    let within : i < k = omega (arith, left) in
    let held : i < length old = omega (arith, long) in
    get_or-chunks k (put bytes (512 * n) from) i d within ∙ elim (cases_lt i n) [
      | inl low ↦ part-put_apart bytes (512 * n) from (512 * i) 512 (λ meet. omega arith)
          ∙ sym (get_or-put_before old n more i d held low ∙ get_or-chunks k bytes i d within)
      | inr high ↦ elim (cases_lt i (n + count)) [
        | inl to ↦ part-put_inside bytes (512 * n) from (512 * i) 512 (omega arith) (omega arith)
            (omega arith)
            ∙ ap (λ j. part from j 512) (omega arith)
            ∙ sym (get_or-put_at old n more i d held high (omega (arith, many))
            ∙ get_or-chunks count from (i - n) d (omega arith))
        | inr past ↦ part-put_apart bytes (512 * n) from (512 * i) 512 (λ meet. omega arith)
            ∙ sym (get_or-put_behind old n more i d held (omega (arith, many))
            ∙ get_or-chunks k bytes i d within)
      ]
    ])

room : (bytes : List ℕ) → block_count_of bytes * 512 ≤ length bytes
unfolding block_count_of
room bytes = omega arith

pub blocks_of-put : (bytes : List ℕ) (n count : ℕ) (from : List ℕ) → n + count ≤ block_count_of bytes
    → length from ≡ 512 * count
    → blocks_of (put bytes (512 * n) from) ≡ put (blocks_of bytes) n (first_chunks 512 count from)
unfolding blocks_of
blocks_of-put bytes n count from h size =
    ap (λ k. first_chunks 512 k (put bytes (512 * n) from)) (block_count-put bytes (512 * n) from)
    ∙ chunks-put (block_count_of bytes) bytes n count from h (room bytes) size

pub ruleset at_once_laws = (concat-part_blocks, block_count-put, blocks_of-put)
