-- The blocks of an image in memory, and what a write to one of them leaves.
use Rattle.std.proofs.Common.{◌≡◌, ℕ, ◌*◌, ◌/◌, ◌%◌, ◌<◌, ◌≤◌, min, List, length, Some, replicate, ap, ◌∙◌, arith, length-append, length-drop, length-take}
use Rattle.std.specs.Prelude.{slice_get, slice_set}
use Rattle.std.proofs.lemmas.List.{length-replicate}
use Rattle.std.specs.List.{concat}
use Rattle.std.specs.Simd.{first_chunks}
use Rattle.uda_image.specs.Limits.{store_limit}
use Rattle.uda_image.specs.Image.{block_count_of, blocks_of, block_of, with_block, half_written}
use Rattle.uda_image.proofs.Chunk.{slice_get-first_chunks, first_chunks-splice, first_chunks-replicate, concat-first_chunks}

-- the bytes of an image that was made fill its blocks
block_count-whole : (bytes : List ℕ) → length bytes % 512 ≡ 0 → length bytes / 512 ≤ store_limit
    → block_count_of bytes ≡ length bytes / 512
unfolding block_count_of
block_count-whole bytes whole within = omega arith

pub blocks_of-whole : (bytes : List ℕ) → length bytes % 512 ≡ 0 → length bytes / 512 ≤ store_limit
    → blocks_of bytes ≡ first_chunks 512 (length bytes / 512) bytes
unfolding blocks_of
blocks_of-whole bytes whole within = ap (λ k. first_chunks 512 k bytes) (block_count-whole bytes whole within)

pub concat-blocks_of : (bytes : List ℕ) → length bytes % 512 ≡ 0 → length bytes / 512 ≤ store_limit
    → concat (blocks_of bytes) ≡ bytes
concat-blocks_of bytes whole within =
    ap concat (blocks_of-whole bytes whole within)
    ∙ concat-first_chunks 512 (length bytes / 512) bytes (omega arith)

room : (bytes : List ℕ) → block_count_of bytes * 512 ≤ length bytes
unfolding block_count_of
room bytes = omega arith

pub slice_get-blocks_of : (bytes : List ℕ) (n : ℕ) → n < block_count_of bytes
    → slice_get (blocks_of bytes) n ≡ Some (block_of bytes n)
unfolding blocks_of block_of
slice_get-blocks_of bytes n h = slice_get-first_chunks 512 (block_count_of bytes) bytes n h

length-with_block : (bytes : List ℕ) (n : ℕ) (block : List ℕ) → n < block_count_of bytes → length block ≡ 512
    → length (with_block bytes n block) ≡ length bytes
unfolding with_block block_count_of
length-with_block bytes n block h e = simp (length-append, length-take, length-drop) (omega arith)

pub block_count-with_block : (bytes : List ℕ) (n : ℕ) (block : List ℕ) → n < block_count_of bytes
    → length block ≡ 512 → block_count_of (with_block bytes n block) ≡ block_count_of bytes
unfolding block_count_of
block_count-with_block bytes n block h e =
    ap (λ m. min (m / 512) store_limit) (length-with_block bytes n block h e)

-- bytes that replace a block change only that block
pub blocks_of-with_block : (bytes : List ℕ) (n : ℕ) (block : List ℕ) → n < block_count_of bytes
    → length block ≡ 512 → blocks_of (with_block bytes n block) ≡ slice_set (blocks_of bytes) n block
unfolding blocks_of with_block
blocks_of-with_block bytes n block h e =
    ap (λ k. first_chunks 512 k (with_block bytes n block)) (block_count-with_block bytes n block h e)
    ∙ first_chunks-splice 512 (block_count_of bytes) bytes block n h (room bytes) e

pub length-half_written : (old new : List ℕ) → length old ≡ 512 → length new ≡ 512
    → length (half_written old new) ≡ 512
unfolding half_written
length-half_written old new h e = simp (length-append, length-take, length-drop) (omega arith)

pub length-block_of : (bytes : List ℕ) (n : ℕ) → n < block_count_of bytes → length (block_of bytes n) ≡ 512
unfolding block_of block_count_of
length-block_of bytes n h = simp (length-take, length-drop) (omega arith)

-- an image of zeros
pub block_count-zeros : (blocks : ℕ) → blocks ≤ store_limit
    → block_count_of (replicate (512 * blocks) 0) ≡ blocks
unfolding block_count_of
block_count-zeros blocks h = simp length-replicate (omega arith)

pub blocks_of-zeros : (blocks : ℕ) → blocks ≤ store_limit
    → blocks_of (replicate (512 * blocks) 0) ≡ replicate blocks (replicate 512 0)
unfolding blocks_of
blocks_of-zeros blocks h =
    ap (λ k. first_chunks 512 k (replicate (512 * blocks) 0)) (block_count-zeros blocks h)
    ∙ first_chunks-replicate 512 blocks 0

pub ruleset image_laws = (
  blocks_of-whole,
  concat-blocks_of,
  slice_get-blocks_of,
  length-block_of,
  block_count-with_block,
  blocks_of-with_block,
  length-half_written,
  block_count-zeros,
  blocks_of-zeros,
)
