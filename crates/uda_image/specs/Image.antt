-- Images in memory: the bytes of all blocks, one block after another.
use Rattle.std.specs.Prelude.{◌≡◌, ℕ, zero, suc, ◌+◌, ◌*◌, ◌/◌, min, ◌&&◌, Bool, true, false, List, ◌++◌, take, drop}
use Rattle.std.specs.Prelude.{length, Option, Some, None, IfSome}
use Rattle.std.specs.List.{splice}
use Rattle.std.specs.Simd.{first_chunks}
use Rattle.uda_image.specs.Limits.{store_limit}
use Rattle.uda_image.specs.Store.{StoreState}
use Rattle.uda_image.specs.File.{Holding, holding_after}
use Rattle.uda_image.specs.FileCall.{FileCall}

-- the number of whole blocks in the bytes of an image, at most as many as a store has
unfoldable pub block_count_of : List ℕ → ℕ
block_count_of bytes = min (length bytes / 512) store_limit

-- the blocks in the bytes of an image
unfoldable pub blocks_of : List ℕ → List (List ℕ)
blocks_of bytes = first_chunks 512 (block_count_of bytes) bytes

-- block n of an image's bytes
unfoldable pub block_of : List ℕ → ℕ → List ℕ
block_of bytes n = take 512 (drop (512 * n) bytes)

-- an image's bytes with block n replaced by other bytes
unfoldable pub with_block : List ℕ → ℕ → List ℕ → List ℕ
with_block bytes n block = splice bytes (512 * n) (512 * n + 512) block

-- an image in memory as a store: it is faithful and never fails
abbrev pub image_state : List ℕ → StoreState
image_state bytes = record {
  blocks = blocks_of bytes;
  size = block_count_of bytes;
  faithful = true;
  honest = true;
  never_fails = record { reads = true; writes = true };
  failures = 0;
  failing_call = None;
  ready = None;
}

-- a block of which a write stopped in the middle: its first 256 bytes are new, and its last 256 old
unfoldable pub half_written : List ℕ → List ℕ → List ℕ
half_written old new = take 256 new ++ drop 256 old

-- an image in memory of which one call fails: its bytes, and the number of calls up to and including the
-- one that fails; the number is 0 after that call, and always 0 if no call fails
pub record Failing : Type 0 where
  pub bytes : List ℕ
  pub left : ℕ

-- the count of failed calls by the number of calls left: it grows by one at the call that fails, the last
-- of those left, and stays at every other. Only its growth counts: an image of which no call fails has 1
-- throughout
abbrev pub failures_by : ℕ → ℕ
failures_by zero = 1
failures_by (suc left) = 0

-- such an image as a store: it is faithful, and only that call fails
abbrev pub failing_state : Failing → StoreState
failing_state image = record {
  blocks = blocks_of image.bytes;
  size = block_count_of image.bytes;
  faithful = true;
  honest = true;
  never_fails = record { reads = false; writes = false };
  failures = failures_by image.left;
  failing_call = Some image.left;
  ready = None;
}

-- A file that is open as an image: its number of blocks when it was opened, whether it was opened for
-- writing, and whether it was written since it was opened or last synced. Of the file itself: the bytes that it
-- holds, if they are known, whether no read and no write of these fails, and whether it isn't synced. Then what is
-- supposed of it: the bytes that it held when it was opened, the blocks that failed writes leave, and whether it is
-- known that these were its bytes and that no call fails. Last the calls on it since it was opened, the newest first
pub record OpenImage : Type 0 where
  pub size : ℕ
  pub writable : Bool
  pub written : Bool
  pub content : Option (List ℕ)
  pub never_fails : Bool
  pub unsynced : Bool
  pub held : List ℕ
  pub blocks_left : List ℕ
  pub known : Bool
  pub calls : List FileCall

-- the number of blocks of an open image
abbrev pub file_block_count : OpenImage → ℕ
file_block_count image = min image.size store_limit

-- what follows from the calls on an open image
abbrev pub holding : OpenImage → Holding
holding image = holding_after (file_block_count image) image.held image.blocks_left image.calls

-- an open image over known bytes: the file holds what follows from its calls, has been honest, and fails no call
pub record HoldsKnownBytes (image : OpenImage) : Type 0 where
  pub content : image.content ≡ Some (holding image).bytes
  pub honest : (holding image).honest ≡ true
  pub never_fails : image.never_fails ≡ true

-- A file as a store. If its bytes are known, it is faithful, and no call fails except a write to a file that was opened
-- for reading only. Otherwise it promises nothing, and its calls decide whether it has been honest
abbrev pub file_state : OpenImage → StoreState
file_state image = record {
  blocks = blocks_of (holding image).bytes;
  size = file_block_count image;
  faithful = image.known;
  honest = (holding image).honest;
  never_fails = record { reads = image.known; writes = image.writable && image.known };
  failures = (holding image).failures;
  failing_call = None;
  ready = None;
}

-- if the bytes of the file are known: the image has been honest, and holds those bytes
abbrev pub IsAsKnown : OpenImage → Type 0
IsAsKnown image = IfSome image.content (λ bytes.
    ((holding image).bytes ≡ bytes) × ((holding image).honest ≡ true))
