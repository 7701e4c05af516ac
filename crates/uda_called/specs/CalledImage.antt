-- Images that a program reads and writes by calls of its own.
-- MSCP Basic Disk Functions Manual: a unit is an array of logical blocks of 512 bytes, numbered from 0.
use Rattle.std.specs.Prelude.{◌≡◌, ◌≤◌, ℕ, ◌+◌, ◌*◌, ◌/◌, ◌%◌, ◌-◌, Bool, true, false, ◌&&◌, nat_eq, nat_le, min, List, [], ◌∷◌, length, replicate, Option, Some, None, option_map}
use Rattle.std.specs.Prelude.{if◌then◌else◌}
use Rattle.std.specs.Simd.{first_chunks}
use Rattle.uda_mem.specs.Put.{put, part}
use Rattle.uda_image.specs.Image.{block_count_of, blocks_of}
use Rattle.uda_image.specs.File.{Holding, holding_after}
use Rattle.uda_image.specs.FileCall.{written}
use Rattle.uda_image.specs.Store.{StoreState, ReadyBlocks, LentBytes}
use Rattle.uda_image.specs.declared.trace.FileTrace.{FileTrace}
use Rattle.uda_called.specs.declared.image.Ready.{Ready}
use Rattle.uda_called.specs.declared.lent.BorrowedBytes.{BorrowedBytes}

-- such an image: the bytes of its blocks, one after another, how many of its calls have failed, and which blocks are
-- ready
pub record CalledBlocks : Type 0 where
  pub bytes : List ℕ
  pub failures : ℕ
  pub ready : ReadyBlocks

-- The image as a store. It is faithful, and it isn't known which of its calls fails.
abbrev pub called_state : CalledBlocks → StoreState
called_state image = record {
  blocks = blocks_of image.bytes;
  size = block_count_of image.bytes;
  faithful = true;
  honest = true;
  never_fails = record { reads = false; writes = false };
  failures = image.failures;
  failing_call = None;
  ready = Some image.ready;
}

-- no block is ready; the first that will be is this one
abbrev pub none_ready : ℕ → ReadyBlocks
none_ready first = record { first = first; next = first; lent = 0; checked = 0; writable = 0; bytes = None }

-- an image of zeros
abbrev pub zero_image : ℕ → CalledBlocks
zero_image blocks = record { bytes = replicate (512 * blocks) 0; failures = 0; ready = none_ready 0 }

-- nothing is ready, and what will be is so from this block on
abbrev pub begun_at : ℕ → CalledBlocks → CalledBlocks
begun_at first image = record image { ready = none_ready first }

-- count blocks follow the first `these` of those that are ready, in an image of this size
abbrev pub has_room : ReadyBlocks → ℕ → ℕ → ℕ → Bool
has_room ready size these count = nat_le (ready.first + these + count) size

-- the bytes that a program lends, as a store has them
abbrev pub as_lent : BorrowedBytes → LentBytes
as_lent lent = record { at = lent.at; count = lent.len; values = lent.held }

-- the values of the bytes that a program lends, of which there may be none
abbrev pub bytes_in : Option BorrowedBytes → List ℕ
bytes_in (Some lent) = lent.held
bytes_in None = []

-- this many bytes can be lent from this block on: it is the first that is made ready, none is lent, they are whole
-- blocks, and the image has as many
abbrev pub can_lend : ReadyBlocks → ℕ → ℕ → ℕ → Bool
can_lend ready size first bytes =
    nat_eq ready.lent 0
    && (nat_eq first ready.first && (nat_eq (bytes % 512) 0 && has_room ready size 0 (bytes / 512)))

-- the blocks of these bytes are lent
abbrev pub ready_lent : Option BorrowedBytes → ReadyBlocks → ReadyBlocks
ready_lent from ready =
    record ready { lent = length (bytes_in from) / 512; bytes = option_map as_lent from }

-- the blocks of these bytes are lent, from this one on
abbrev pub with_lent : ℕ → Option BorrowedBytes → CalledBlocks → CalledBlocks
with_lent first from image = record image {
  bytes = put image.bytes (512 * first) (bytes_in from);
  ready = ready_lent from image.ready;
}

-- the store after that
abbrev pub with_blocks_lent : ℕ → Option BorrowedBytes → StoreState → StoreState
with_blocks_lent first from store = record store {
  blocks = put store.blocks first (first_chunks 512 (length (bytes_in from) / 512) (bytes_in from));
  ready = option_map (ready_lent from) store.ready;
}

-- no bytes are lent, and no block
abbrev pub with_none_lent : CalledBlocks → CalledBlocks
with_none_lent image = record image { ready = record image.ready { lent = 0; bytes = None } }

-- as many blocks follow those that are checked, or writable
abbrev pub can_check : ReadyBlocks → ℕ → ℕ → Bool
can_check ready size count = has_room ready size ready.checked count

abbrev pub can_allow : ReadyBlocks → ℕ → ℕ → Bool
can_allow ready size count = has_room ready size ready.writable count

-- this many more blocks are checked, or writable
abbrev pub ready_checked : ℕ → ReadyBlocks → ReadyBlocks
ready_checked count ready = record ready { checked = ready.checked + count }

abbrev pub ready_writable : ℕ → ReadyBlocks → ReadyBlocks
ready_writable count ready = record ready { writable = ready.writable + count }

abbrev pub with_checked : ℕ → CalledBlocks → CalledBlocks
with_checked count image = record image { ready = ready_checked count image.ready }

abbrev pub with_writable : ℕ → CalledBlocks → CalledBlocks
with_writable count image = record image { ready = ready_writable count image.ready }

-- count blocks from block n are among these ready ones, and none of them was used yet
abbrev pub are_ready : ReadyBlocks → ℕ → ℕ → ℕ → Bool
are_ready ready these n count = nat_le ready.next n && nat_le (n + count) (ready.first + these)

-- the image after blocks were used: those before block n aren't ready any more
abbrev pub with_used : ℕ → CalledBlocks → CalledBlocks
with_used n image = record image { ready = record image.ready { next = n } }

-- the image after a call that failed
abbrev pub with_failure : CalledBlocks → CalledBlocks
with_failure image = record image { failures = image.failures + 1 }

-- the image after count blocks from block n were written with these bytes: no block is lent any more
abbrev pub with_written : ℕ → ℕ → List ℕ → CalledBlocks → CalledBlocks
with_written n count from image = record image {
  bytes = put image.bytes (512 * n) from;
  ready = record image.ready { next = n + count; lent = 0 };
}

-- how many of count blocks from block n on are checked and weren't used yet
abbrev pub checked_from : ReadyBlocks → ℕ → ℕ → ℕ
checked_from ready n count =
    if nat_le ready.next n then min count (ready.first + ready.checked - n) else 0

-- ---- how an image is kept

-- what follows from the calls on an image of this many blocks
abbrev pub holding_by : ℕ → FileTrace → Holding
holding_by size trace = holding_after size trace.held trace.blocks_left trace.calls

-- the record of an image after bytes were lent from this block on: then it has these bytes, as after a write
abbrev pub noted_lent : ℕ → List ℕ → FileTrace → FileTrace
noted_lent first bytes trace = record trace { calls = written first bytes ∷ trace.calls }

abbrev pub ready_blocks : Ready → Option BorrowedBytes → ReadyBlocks
ready_blocks ready lent = record {
  first = ready.first;
  next = ready.next;
  lent = ready.lent;
  checked = ready.checked;
  writable = ready.writable;
  bytes = option_map as_lent lent;
}

abbrev pub image_by : ℕ → Ready → Option BorrowedBytes → FileTrace → CalledBlocks
image_by size ready lent trace = record {
  bytes = (holding_by size trace).bytes;
  failures = (holding_by size trace).failures;
  ready = ready_blocks ready lent;
}

-- The ready blocks are on the unit, and the lent blocks have the first of the bytes that the program lends.
pub record IsKept (size : ℕ) (lent : List ℕ) (image : CalledBlocks) : Type 0 where
  pub size_is : size ≡ block_count_of image.bytes
  pub whole : length image.bytes ≡ 512 * size
  pub ordered : image.ready.first ≤ image.ready.next
  pub lent_within : image.ready.first + image.ready.lent ≤ size
  pub checked_within : image.ready.first + image.ready.checked ≤ size
  pub writable_within : image.ready.first + image.ready.writable ≤ size
  pub lent_is : part lent 0 (512 * image.ready.lent)
      ≡ part image.bytes (512 * image.ready.first) (512 * image.ready.lent)
