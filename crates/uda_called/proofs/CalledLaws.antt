-- The laws of images that a program reads and writes by calls of its own.
use Rattle.std.proofs.Common.{◌≡◌, ◌+◌, ◌-◌, ◌*◌, ◌/◌, ◌%◌, ◌<◌, ◌≤◌, ℕ, List, [], length, take, drop, replicate, Option, Some, refl, sym, ap, ap₂, ◌∙◌, arith}
use Rattle.std.specs.Prelude.{slice_set}
use Rattle.std.proofs.lemmas.List.{set-get_or, take-take, take_all, drop-take, drop-drop, take-replicate, length-take, length-replicate}
use Rattle.std.proofs.lemmas.Option.{get_or_from_slice_get}
use Rattle.uda_mem.specs.Put.{put, part}
use Rattle.uda_mem.proofs.PutLaws.{length-put, length-part-le, part-put_at}
use Rattle.uda_image.specs.AtOnce.{ReadsBlocks, WritesBlocks}
use Rattle.uda_image.specs.File.{fitted}
use Rattle.uda_image.specs.Image.{block_count_of, block_of, blocks_of}
use Rattle.uda_image.specs.Limits.{store_limit}
use Rattle.uda_image.specs.Store.{KeepsAttributes, ReadsBlock, WritesBlock, FailsToWrite}
use Rattle.uda_image.proofs.AtOnceLaws.{block_count-put, blocks_of-put, concat-part_blocks}
use Rattle.uda_image.proofs.FileSteps.{block_within, put-is-with_block}
use Rattle.uda_image.proofs.ImageLaws.{slice_get-blocks_of, blocks_of-with_block, length-block_of}
use Rattle.uda_called.specs.declared.lent.BorrowedBytes.{BorrowedBytes}
use Rattle.uda_called.specs.CalledImage.{CalledBlocks, called_state, IsKept, none_ready, bytes_in, with_lent, with_blocks_lent, with_none_lent, with_used, with_written, with_failure, zero_image}

-- nothing is ready
pub kept_begun : (size : ℕ) (lent : List ℕ) (image : CalledBlocks) (first : ℕ) → IsKept size lent image
    → first ≤ size → IsKept size [] (record image { ready = none_ready first })
unfolding part
kept_begun size lent image first is within = record {
  size_is = is.size_is;
  whole = is.whole;
  ordered = omega arith;
  lent_within = omega (arith, within);
  checked_within = omega (arith, within);
  writable_within = omega (arith, within);
  lent_is = refl;
}

-- blocks were used
pub kept_used : (size : ℕ) (lent : List ℕ) (image : CalledBlocks) (n : ℕ) → IsKept size lent image
    → image.ready.first ≤ n → IsKept size lent (with_used n image)
kept_used size lent image n is there = record {
  size_is = is.size_is;
  whole = is.whole;
  ordered = there;
  lent_within = is.lent_within;
  checked_within = is.checked_within;
  writable_within = is.writable_within;
  lent_is = is.lent_is;
}

-- bytes were written, and no block is lent
pub kept_written : (size : ℕ) (lent : List ℕ) (image : CalledBlocks) (n count : ℕ) (from : List ℕ)
    → IsKept size lent image → image.ready.next ≤ n → IsKept size lent (with_written n count from image)
unfolding part
kept_written size lent image n count from is there = record {
  size_is = is.size_is ∙ sym (block_count-put image.bytes (512 * n) from);
  whole = length-put image.bytes (512 * n) from ∙ is.whole;
  ordered = omega (arith, is.ordered, there);
  lent_within = omega (arith, is.lent_within);
  checked_within = is.checked_within;
  writable_within = is.writable_within;
  lent_is = refl;
}

-- the bytes were given back
pub kept_none_lent : (size : ℕ) (lent : List ℕ) (image : CalledBlocks) → IsKept size lent image
    → IsKept size [] (with_none_lent image)
unfolding part
kept_none_lent size lent image is = record {
  size_is = is.size_is;
  whole = is.whole;
  ordered = is.ordered;
  lent_within = omega (arith, is.lent_within);
  checked_within = is.checked_within;
  writable_within = is.writable_within;
  lent_is = refl;
}

-- the blocks of these bytes are lent
pub kept_lent : (size : ℕ) (lent : List ℕ) (image : CalledBlocks) (some : Option BorrowedBytes)
    → IsKept size lent image → length (bytes_in some) % 512 ≡ 0
    → image.ready.first + length (bytes_in some) / 512 ≤ size
    → IsKept size (bytes_in some) (with_lent image.ready.first some image)
unfolding part
kept_lent size lent image some is whole room =
    let from = bytes_in some in
    let at = 512 * image.ready.first in
    let size_is : 512 * (length from / 512) ≡ length from = omega (arith, whole) in
    let inside : at + length from ≤ length image.bytes = omega (arith, whole, room, is.whole) in
    let bytes = put image.bytes at from in
    record {
      size_is = is.size_is ∙ sym (block_count-put image.bytes at from);
      whole = length-put image.bytes at from ∙ is.whole;
      ordered = is.ordered;
      lent_within = room;
      checked_within = is.checked_within;
      writable_within = is.writable_within;
      lent_is = ap (λ n. take n from) size_is ∙ take_all (length from) from (omega arith)
          ∙ sym (ap (part bytes at) size_is ∙ part-put_at image.bytes at (length from) from inside refl);
    }

-- a new image: what follows from no calls is zeros
new_bytes : (blocks : ℕ) → fitted blocks [] ≡ replicate (512 * blocks) 0
unfolding fitted
new_bytes blocks = take-replicate (512 * blocks) (512 * blocks) 0 (omega arith)

pub new_image : (blocks : ℕ)
    → record { bytes = fitted blocks []; failures = 0; ready = none_ready 0 } ≡ zero_image blocks
new_image blocks = ap (λ (b : List ℕ). record (zero_image blocks) { bytes = b }) (new_bytes blocks)

pub kept_new : (blocks failures : ℕ) → blocks ≤ store_limit
    → IsKept blocks [] (record { bytes = fitted blocks []; failures = failures; ready = none_ready 0 })
unfolding part block_count_of
kept_new blocks failures limit =
    let size : length (fitted blocks []) ≡ 512 * blocks =
    ap length (new_bytes blocks) ∙ length-replicate {A = ℕ} (512 * blocks) 0 in
    record {
      size_is = omega (arith, size, limit);
      whole = size;
      ordered = omega arith;
      lent_within = omega arith;
      checked_within = omega arith;
      writable_within = omega arith;
      lent_is = refl;
    }

-- a part of a part
part-part : (xs : List ℕ) (at n i m : ℕ) → i + m ≤ n → part (part xs at n) i m ≡ part xs (at + i) m
unfolding part
part-part xs at n i m within =
    ap (λ k. take m (drop i (take k (drop at xs)))) (omega arith)
    ∙ ap (take m) (drop-take i (n - i) (drop at xs))
    ∙ take-take m (n - i) (drop i (drop at xs)) (omega arith)
    ∙ ap (take m) (drop-drop i at xs)

pub length_lent : (size : ℕ) (lent : List ℕ) (image : CalledBlocks) → IsKept size lent image
    → 512 * image.ready.lent ≤ length lent
unfolding part
length_lent size lent image is =
    let long : length (take (512 * image.ready.lent) lent) ≡ 512 * image.ready.lent =
    ap length is.lent_is ∙ length-part-le image.bytes (512 * image.ready.first) (512 * image.ready.lent)
    (omega (arith, is.whole, is.lent_within)) in
    omega (arith, long, length-take (512 * image.ready.lent) lent)

-- lent blocks
pub lent_part : (size : ℕ) (lent : List ℕ) (image : CalledBlocks) (n count : ℕ) → IsKept size lent image
    → image.ready.first ≤ n → n + count ≤ image.ready.first + image.ready.lent
    → part lent (512 * (n - image.ready.first)) (512 * count) ≡ part image.bytes (512 * n) (512 * count)
lent_part size lent image n count is from to =
    let at = 512 * (n - image.ready.first) in
    ap (λ i. part lent i (512 * count)) (omega arith)
    ∙ sym (part-part lent 0 (512 * image.ready.lent) at (512 * count) (omega (arith, to)))
    ∙ ap (λ (b : List ℕ). part b at (512 * count)) is.lent_is
    ∙ part-part image.bytes (512 * image.ready.first) (512 * image.ready.lent) at (512 * count) (omega (arith, to))
    ∙ ap (λ i. part image.bytes i (512 * count)) (omega (arith, from))

-- ---- calls of the store

module _ (image : CalledBlocks) (n : ℕ) where
  pub reads_one : n < block_count_of image.bytes → (to : List ℕ) → to ≡ block_of image.bytes n
      → ReadsBlock (called_state image) n (called_state (with_used (n + 1) image)) to
  reads_one there to is = record {
    value = slice_get-blocks_of image.bytes n there ∙ ap Some (sym is);
    state_stays = refl;
    calls = record { before = tt; sooner = refl };
  }

  pub reads_many : (count : ℕ) → n + count ≤ block_count_of image.bytes → (to : List ℕ)
      → to ≡ part image.bytes (512 * n) (512 * count)
      → ReadsBlocks (called_state image) n count (called_state (with_used (n + count) image)) to
  reads_many count there to is = record {
    value = is ∙ sym (concat-part_blocks image.bytes n count there);
    state_stays = refl;
    calls = record { before = tt; sooner = refl };
  }

  -- a write that fails leaves its block as it was
  pub fails_to_write : n < block_count_of image.bytes
      → FailsToWrite (called_state image) n (called_state (with_failure image))
  fails_to_write there =
      let block = block_of image.bytes n in
      let same : slice_set (blocks_of image.bytes) n block ≡ blocks_of image.bytes =
      ap (slice_set (blocks_of image.bytes) n)
      (sym (get_or_from_slice_get (blocks_of image.bytes) n block block (slice_get-blocks_of image.bytes n there)))
      ∙ set-get_or (blocks_of image.bytes) n block in
      record {
        left = block;
        whole = length-block_of image.bytes n there;
        written = ap (λ (b : List (List ℕ)). record (called_state (with_failure image)) { blocks = b }) (sym same);
        calls = record { now = tt; over = refl };
      }

  pub written_keeps : (count : ℕ) (from : List ℕ)
      → KeepsAttributes (called_state image) (called_state (with_written n count from image))
  written_keeps count from = record {
    size_stays = block_count-put image.bytes (512 * n) from;
    faithful_stays = refl;
    honest_before = λ h. h;
    never_fails_stays = refl;
    lent_stays = refl;
  }

  pub writes_one : n < block_count_of image.bytes → (from : List ℕ) → length from ≡ 512
      → WritesBlock (called_state image) n (called_state (with_written n 1 from image)) from
  writes_one there from long = record {
    written = ap₂ (λ (b : List (List ℕ)) size.
        record (called_state (with_written n 1 from image)) { blocks = b; size = size })
        (ap blocks_of (put-is-with_block image.bytes n from (block_within image.bytes n there) long)
        ∙ blocks_of-with_block image.bytes n from there long)
        (block_count-put image.bytes (512 * n) from);
    calls = record { before = tt; sooner = refl };
  }

  pub writes_many : (count : ℕ) → n + count ≤ block_count_of image.bytes → (from : List ℕ) → length from ≡ 512 * count
      → WritesBlocks (called_state image) n count (called_state (with_written n count from image)) from
  writes_many count there from long = record {
    written = ap₂ (λ (b : List (List ℕ)) size.
        record (called_state (with_written n count from image)) { blocks = b; size = size })
        (blocks_of-put image.bytes n count from there long) (block_count-put image.bytes (512 * n) from);
    calls = record { before = tt; sooner = refl };
  }

-- the store after blocks were lent
pub lent_blocks : (image : CalledBlocks) (first : ℕ) (some : Option BorrowedBytes) → length (bytes_in some) % 512 ≡ 0
    → first + length (bytes_in some) / 512 ≤ block_count_of image.bytes
    → called_state (with_lent first some image) ≡ with_blocks_lent first some (called_state image)
lent_blocks image first some whole room =
    let from = bytes_in some in
    ap₂ (λ (b : List (List ℕ)) size. record (called_state (with_lent first some image)) { blocks = b; size = size })
    (blocks_of-put image.bytes first (length from / 512) from room (omega (arith, whole)))
    (block_count-put image.bytes (512 * first) from)
