-- The blocks that the next turn uses of an image that C reads and writes, and how C makes them ready.
use Rattle.std.specs.Prelude.{◌≡◌, ◌≢◌, ℕ, ◌+◌, ◌≤◌, ◌==◌, ◌/◌, ◌%◌, Bool, true, length, Option, Some, None}
use Rattle.std.specs.Prelude.{nat_lt, slice_get, option_map, if◌then◌else◌}
use Rattle.uda_image.specs.Limits.{store_limit}
use Rattle.uda_image.specs.Store.{LentBytes}
use Rattle.uda_called.specs.CalledImage.{bytes_in, as_lent}
use Rattle.uda_called.specs.declared.lent.BorrowedBytes.{BorrowedBytes}
use Rattle.uda_exec.specs.declared.block_use.BlockAccess.{BlockAccess}
use Rattle.uda_exec.specs.declared.block_use.BlockAccess.TheVariants.{Reads, Checks, Writes}
use Rattle.uda_exec.specs.declared.block_use.BlockUse.{BlockUse}
use Rattle.uda_exec.specs.Drives.{DriveState}
use Rattle.uda_c.specs.declared.block_range.Prepared.{Prepared}
use Rattle.uda_c.specs.declared.block_range.BlockRange.{BlockRange}
use Rattle.uda_c.specs.declared.call_status.CallStatus.{CallStatus}
use Rattle.uda_c.specs.declared.call_status.CallStatus.TheVariants.{Done, NoSuchUnit, AlreadyAttached, NotAttached, BadLength, TooLarge}
use Rattle.uda_c.specs.ControllerState.{ControllerState}
use Rattle.uda_c.specs.Controllers.{controller_with, has_image, unit_answer, is_called_at, with_store}
use Rattle.uda_disk.specs.Units.{UnitState}
use Rattle.uda_c.specs.UnitImage.{store_lent, lent_from, zero_state, store_begun, lend_answer, allow_answer, store_prepared, ReadyAnswer}

-- the number of a use in C
abbrev pub access_code : BlockAccess → ℕ
access_code Reads = 1
access_code Checks = 2
access_code Writes = 3

abbrev pub range_of : BlockUse → BlockRange
range_of used =
    record { access = access_code used.access; unit = used.unit; first = used.first; count = used.count }

abbrev pub NO_BLOCKS : BlockRange
NO_BLOCKS = record { access = 0; unit = 0; first = 0; count = 0 }

-- the use with this number
abbrev pub access_numbered : ℕ → Option BlockAccess
access_numbered number =
    if number == 1 then Some Reads else if number == 2 then Some Checks else if number == 3 then Some Writes else None

-- ---- an image that C reads and writes

-- the status of an image of this many blocks
abbrev pub size_answer : ℕ → CallStatus
size_answer blocks = if blocks == 0 then BadLength else if nat_lt store_limit blocks then TooLarge else Done

-- the status of such an image for a unit
abbrev pub called_answer : ControllerState → ℕ → ℕ → CallStatus
called_answer c unit blocks =
    if nat_lt 3 unit then NoSuchUnit else if has_image c unit then AlreadyAttached else size_answer blocks

abbrev pub called_drive : ℕ → Bool → DriveState
called_drive blocks hard = record { store = zero_state blocks; hard = hard }

-- an image of this many blocks, with this protection, becomes a unit's; or nothing changes
pub record AttachesCalled (old : ControllerState) (image : ℕ × (ℕ × Bool)) (answer : CallStatus)
    (new : ControllerState) : Type 0 where
  pub answer_is : answer ≡ called_answer old image.0 image.1.0
  pub attached : answer ≡ Done
      → new ≡ record (controller_with old image.0 (Some (called_drive image.1.0 image.1.1))) { called = true }
  pub refused : answer ≢ Done → new ≡ old

-- ---- the blocks that the next turn uses

-- those of an image that C reads and writes
abbrev pub range_reported : ControllerState → Option BlockUse → BlockRange
range_reported c None = NO_BLOCKS
range_reported c (Some used) = if is_called_at c used.unit then range_of used else NO_BLOCKS

-- of a unit's image that C reads and writes no block is ready, and what is made ready next is so from this block on
abbrev pub with_none_ready : ControllerState → ℕ → ℕ → ControllerState
with_none_ready c unit first = if is_called_at c unit then with_store c unit (store_begun first) else c

-- the same of the unit of these blocks, if there are any
abbrev pub blocks_dropped : ControllerState → BlockRange → ControllerState
blocks_dropped c blocks = if blocks.count == 0 then c else with_none_ready c blocks.unit blocks.first

-- ---- bytes that C has lent for ready blocks

-- those of an image, if blocks can be made ready from this one on
abbrev pub lent_in_unit : ℕ → Option (Option UnitState) → Option LentBytes
lent_in_unit first (Some (Some unit)) = lent_from first unit.store
lent_in_unit first _ = None

abbrev pub lent_at : ControllerState → ℕ → ℕ → Option LentBytes
lent_at c unit first = lent_in_unit first (slice_get c.port.exec.units unit)

-- those of blocks that are used in this way: only blocks that are read have any
abbrev pub lent_by : Option BlockAccess → Option LentBytes → Option LentBytes
lent_by (Some Reads) lent = lent
lent_by _ lent = None

-- those that C has lent for these blocks
abbrev pub lent_for : ControllerState → BlockRange → Option LentBytes
lent_for c blocks =
    if blocks.count == 0 then None else lent_by (access_numbered blocks.access) (lent_at c blocks.unit blocks.first)

-- ---- blocks that C makes ready

-- the number of blocks of a unit's image
abbrev pub size_in : Option (Option UnitState) → ℕ
size_in (Some (Some unit)) = unit.store.size
size_in _ = 0

abbrev pub size_at : ControllerState → ℕ → ℕ
size_at c unit = size_in (slice_get c.port.exec.units unit)

-- the status of lending as many bytes from a block of a unit's image on
abbrev pub lend_answer_in : ℕ → ℕ → Option (Option UnitState) → CallStatus
lend_answer_in first bytes (Some (Some unit)) = lend_answer first bytes unit.store
lend_answer_in first bytes _ = NotAttached

-- the status of making the next blocks of a unit's image ready which C prepared in this way
abbrev pub allow_answer_in : Prepared → ℕ → Option (Option UnitState) → CallStatus
allow_answer_in prepared count (Some (Some unit)) = allow_answer prepared count unit.store
allow_answer_in prepared count _ = NotAttached

-- blocks of a unit's image are lent from one on: they are whole blocks of it, and the image has the bytes; or nothing
-- changes
pub record LendsBlocks (old : ControllerState) (place : ℕ × ℕ) (from : Option BorrowedBytes) (answer : CallStatus)
    (new : ControllerState) : Type 0 where
  pub no_image : unit_answer old place.0 ≢ Done → answer ≡ unit_answer old place.0
  pub kind : unit_answer old place.0 ≡ Done → ReadyAnswer (is_called_at old place.0) answer
  pub answers : unit_answer old place.0 ≡ Done
      → answer ≡ lend_answer_in place.1 (length (bytes_in from)) (slice_get old.port.exec.units place.0)
  pub fits : answer ≡ Done
      → (length (bytes_in from) % 512 ≡ 0) × (place.1 + length (bytes_in from) / 512 ≤ size_at old place.0)
  pub lent : answer ≡ Done → new ≡ with_store old place.0 (store_lent true place.1 from)
  pub has : answer ≡ Done → lent_at new place.0 place.1 ≡ option_map as_lent from
  pub refused : answer ≢ Done → new ≡ old

-- the next blocks of a unit's image are ready, which C prepared in this way: the image has as many; or nothing changes
pub record AllowsBlocks (old : ControllerState) (asked : ℕ × ℕ) (prepared : Prepared)
    (answer : CallStatus) (new : ControllerState) : Type 0 where
  pub no_image : unit_answer old asked.0 ≢ Done → answer ≡ unit_answer old asked.0
  pub kind : unit_answer old asked.0 ≡ Done → ReadyAnswer (is_called_at old asked.0) answer
  pub answers : unit_answer old asked.0 ≡ Done
      → answer ≡ allow_answer_in prepared asked.1 (slice_get old.port.exec.units asked.0)
  pub fits : answer ≡ Done → asked.1 ≤ size_at old asked.0
  pub allowed : answer ≡ Done → new ≡ with_store old asked.0 (store_prepared true prepared asked.1)
  pub refused : answer ≢ Done → new ≡ old
