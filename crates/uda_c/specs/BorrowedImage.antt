-- Images in memory that a C program lends, as stores of blocks.
use Rattle.std.specs.Prelude.{◌≡◌, ◌≤◌, ◌/◌, ◌%◌, ℕ, true, List, length, Option, Some, None, is_none}
use Rattle.uda_image.specs.Store.{StoreState, NeverFails}
use Rattle.uda_image.specs.Image.{block_count_of, blocks_of, failures_by}
use Rattle.uda_image.specs.Limits.{store_limit}

-- Bytes that are lent as an image, and the number of calls up to and including the failing one. The number is
-- 0 after that call, and None if no call was set to fail.
pub record BorrowedBlocks : Type 0 where
  pub bytes : List ℕ
  pub left : Option ℕ

-- bytes that are whole blocks, at most as many as a store may have
abbrev pub IsWhole : List ℕ → Type 0
IsWhole bytes = (length bytes % 512 ≡ 0) × (length bytes / 512 ≤ store_limit)

-- the number of calls that have failed
abbrev pub failures_of : Option ℕ → ℕ
failures_of None = 0
failures_of (Some left) = failures_by left

-- neither reads nor writes fail, unless a call was set to fail
abbrev pub never_fails_by : Option ℕ → NeverFails
never_fails_by call = record { reads = is_none call; writes = is_none call }

-- The image as a store. It is faithful. It is infallible if no call was set to fail, and otherwise only that
-- call fails.
abbrev pub borrowed_state : BorrowedBlocks → StoreState
borrowed_state image = record {
  blocks = blocks_of image.bytes;
  size = block_count_of image.bytes;
  faithful = true;
  honest = true;
  never_fails = never_fails_by image.left;
  failures = failures_of image.left;
  failing_call = image.left;
  ready = None;
}

-- the store whose call of this number from now on fails, and no other; None if none fails
abbrev pub with_failing_call : Option ℕ → StoreState → StoreState
with_failing_call call store =
    record store { never_fails = never_fails_by call; failures = failures_of call; failing_call = call }
