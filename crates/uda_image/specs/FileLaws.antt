-- The laws of files as stores.
use Rattle.std.proofs.Common.{◌≡◌, ◌*◌, ℕ, List, [], ◌∷◌, ◌++◌, ◌∙◌, length, replicate, Some, true, refl, sym, ap, subst, arith, length-append}
use Rattle.std.proofs.lemmas.List.{length-take-le, length-replicate, take-append-le, take_all}
use Rattle.uda_mem.proofs.PutLaws.{length-put}
use Rattle.uda_image.specs.FileCall.{FileCall, read, written, asked, declined, failed, failed_write}
use Rattle.uda_image.specs.Store.{HasWholeBlocks}
use Rattle.uda_image.specs.File.{fitted, block_left, holding_after}
use Rattle.uda_image.specs.Image.{block_count_of, blocks_of, OpenImage, file_block_count, holding, IsAsKnown, HoldsKnownBytes}
use Rattle.uda_image.specs.StoreLaws.{HasWholeBlocks-blocks_of, min-le}

pub length-fitted : (blocks : ℕ) (bytes : List ℕ) → length (fitted blocks bytes) ≡ 512 * blocks
unfolding fitted
length-fitted blocks bytes = length-take-le (512 * blocks) (bytes ++ replicate (512 * blocks) 0)
    (omega (arith, length-append bytes (replicate (512 * blocks) 0), length-replicate {A = ℕ} (512 * blocks) 0))

-- bytes of that many blocks stay as they are
pub fitted-whole : (blocks : ℕ) (bytes : List ℕ) → length bytes ≡ 512 * blocks → fitted blocks bytes ≡ bytes
unfolding fitted
fitted-whole blocks bytes long =
    take-append-le (512 * blocks) bytes (replicate (512 * blocks) 0) (omega (arith, long))
    ∙ take_all (512 * blocks) bytes (omega (arith, long))

-- no call changes the number of bytes
pub length-holding : (blocks : ℕ) (held left : List ℕ) (calls : List FileCall)
    → length (holding_after blocks held left calls).bytes ≡ 512 * blocks
length-holding blocks held left [] = length-fitted blocks held
length-holding blocks held left (read n bytes ∷ calls) = length-holding blocks held left calls
length-holding blocks held left (written n bytes ∷ calls) =
    length-put (holding_after blocks held left calls).bytes (512 * n) bytes ∙ length-holding blocks held left calls
length-holding blocks held left (asked bytes ∷ calls) = length-holding blocks held left calls
length-holding blocks held left (declined bytes ∷ calls) = length-holding blocks held left calls
length-holding blocks held left (failed ∷ calls) = length-holding blocks held left calls
length-holding blocks held left (failed_write n ∷ calls) =
    let old = holding_after blocks held left calls in
    length-put old.bytes (512 * n) (block_left left old.failed_writes) ∙ length-holding blocks held left calls

pub count-holding : (image : OpenImage) → block_count_of (holding image).bytes ≡ file_block_count image
unfolding block_count_of
count-holding image =
    let long = length-holding (file_block_count image) image.held image.blocks_left image.calls in
    omega (arith, long, min-le image.size)

-- an open image without calls, whose file holds the bytes that are supposed, is honest and holds them
pub known_at_first : (image : OpenImage) → image.calls ≡ [] → length image.held ≡ 512 * file_block_count image
    → image.content ≡ Some image.held → IsAsKnown image
known_at_first image none long is =
    rw (is, none) (fitted-whole (file_block_count image) image.held long, refl)

-- the same, and no call on the file fails
pub holds_at_first : (image : OpenImage) → image.calls ≡ [] → length image.held ≡ 512 * file_block_count image
    → image.content ≡ Some image.held → image.never_fails ≡ true → HoldsKnownBytes image
holds_at_first image none long is never = record {
  content = rw none (is ∙ ap Some (sym (fitted-whole (file_block_count image) image.held long)));
  honest = rw none refl;
  never_fails = never;
}

-- an open image is well formed
pub file_blocks : (image : OpenImage) → HasWholeBlocks (file_block_count image) (blocks_of (holding image).bytes)
file_blocks image = subst (λ (size : ℕ). HasWholeBlocks size (blocks_of (holding image).bytes)) (count-holding image)
    (HasWholeBlocks-blocks_of (holding image).bytes)
