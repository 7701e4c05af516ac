-- The laws of images in memory.
use Rattle.std.specs.Prelude.{◌≡◌, ◌≢◌, ◌<◌, ◌≤◌, ◌-◌, ℕ, zero, suc, List, length}
use Rattle.std.proofs.Common.{refl, arith, length-append, length-drop, length-take}
use Rattle.uda_mem.specs.Put.{put}
use Rattle.uda_mem.proofs.PutLaws.{length-put}
pub use Rattle.uda_image.proofs.ImageLaws.{image_laws}
pub use Rattle.uda_image.proofs.AtOnceLaws.{at_once_laws}
use Rattle.uda_image.specs.Limits.{store_limit}
use Rattle.uda_image.specs.Image.{block_count_of, with_block, failures_by}
use Rattle.uda_image.specs.StoreLaws.{block_count-le}

pub within_limit : (bytes : List ℕ) → block_count_of bytes ≤ store_limit
within_limit = block_count-le

-- a write keeps the number of bytes
pub length_with_block : (bytes : List ℕ) (n : ℕ) (block : List ℕ) → n < block_count_of bytes
    → length block ≡ 512
    → length (with_block bytes n block) ≡ length bytes
unfolding with_block block_count_of
length_with_block bytes n block h e = simp (length-append, length-take, length-drop) (omega arith)

pub length_put : (bytes : List ℕ) (at : ℕ) (from : List ℕ) → length (put bytes at from) ≡ length bytes
length_put = length-put

-- a call that doesn't fail keeps the count of those that failed
pub failures_stay : (left : ℕ) → left ≢ 1 → failures_by (left - 1) ≡ failures_by left
failures_stay zero h = refl
failures_stay (suc zero) h = absurd (h refl)
failures_stay (suc (suc left)) h = let before : suc (suc left) - 1 ≡ suc left = omega arith in rw before refl
