-- Proofs of the trait's laws, for the `impl`s to name.
use Rattle.std.proofs.Common.{◌≡◌, ◌*◌, ◌≤◌, ℕ, zero, suc, min, List, length, drop, take, true, false}
use Rattle.std.proofs.Common.{refl, ap, arith, length-drop}
use Rattle.std.specs.List.{All}
use Rattle.std.specs.Simd.{first_chunks}
use Rattle.std.proofs.lemmas.List.{length-take-le}
use Rattle.std.proofs.lemmas.List.Elements.{All-nil, All-cons}
use Rattle.uda_image.specs.Limits.{store_limit}
use Rattle.uda_image.specs.Store.{HasWholeBlocks}
use Rattle.uda_image.specs.Image.{block_count_of, blocks_of}

-- a size that is cut off at the limit is within it
pub min-le : (size : ℕ) → min size store_limit ≤ store_limit
min-le size = omega arith

-- the laws of blocks say nothing of a store that is neither faithful nor sound
pub no_image : {size : ℕ} {blocks : List (List ℕ)} → false ≡ true → HasWholeBlocks size blocks
no_image h = absurd (cc)

-- the blocks of bytes in memory are within the limit of stores
pub block_count-le : (bytes : List ℕ) → block_count_of bytes ≤ store_limit
unfolding block_count_of
block_count-le bytes = omega arith

pub length-first_chunks : (k : ℕ) (bytes : List ℕ) → length (first_chunks 512 k bytes) ≡ k
length-first_chunks zero bytes = refl
length-first_chunks (suc k) bytes = ap suc (length-first_chunks k (drop 512 bytes))

-- if there are enough bytes, each block is whole
pub All-first_chunks : (k : ℕ) (bytes : List ℕ) → k * 512 ≤ length bytes
    → All (λ block. length block ≡ 512) (first_chunks 512 k bytes)
All-first_chunks zero bytes h = All-nil (λ block. length block ≡ 512)
All-first_chunks (suc k) bytes h =
    let first : length (take 512 bytes) ≡ 512 = length-take-le 512 bytes (omega arith) in
    let room : k * 512 ≤ length (drop 512 bytes) = simp length-drop (omega arith) in
    All-cons (λ block. length block ≡ 512) (take 512 bytes) (first_chunks 512 k (drop 512 bytes)) first
    (All-first_chunks k (drop 512 bytes) room)

-- the blocks of an image in memory are well formed
pub HasWholeBlocks-blocks_of : (bytes : List ℕ) → HasWholeBlocks (block_count_of bytes) (blocks_of bytes)
unfolding blocks_of block_count_of
HasWholeBlocks-blocks_of bytes = record {
  counted = length-first_chunks (block_count_of bytes) bytes;
  whole = All-first_chunks (block_count_of bytes) bytes (omega arith);
}
