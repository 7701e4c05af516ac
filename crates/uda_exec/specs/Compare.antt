-- The effect of Compare Host Data: it reads the blocks of its range and compares them with its buffer.
-- MSCP Basic Disk Functions Manual: Compare Host Data, status and event codes.
use Rattle.std.specs.Prelude.{◌≡◌, ◌≢◌, ℕ, ◌+◌, ◌*◌, ◌/◌, ◌%◌, ◌<◌, true, List, [], length, set}
use Rattle.std.specs.Prelude.{Option, Some, None, slice_get, slice_index, slice_index_or}
use Rattle.uda_packet.specs.declared.command.Command.{Command}
use Rattle.uda_packet.specs.declared.command.Op.{Op}
use Rattle.uda_packet.specs.declared.end.Kind.TheVariants.{Read}
use Rattle.uda_packet.specs.declared.reply.Reply.{Reply}
use Rattle.uda_packet.specs.declared.reply.ReplyBody.TheVariants.{Compare}
use Rattle.uda_packet.specs.declared.transfer.Transfer.{Transfer}
use Rattle.uda_packet.specs.Transfer.{transfer_of}
use Rattle.uda_image.specs.Store.{StoreState, is_sound}
use Rattle.uda_disk.specs.declared.refusal.Refusal.{Refusal}
use Rattle.uda_disk.specs.RequestEffect.{refusal_status}
use Rattle.uda_disk.specs.Status.{SUCCESS, COMPARE_ERROR, DRIVE_ERROR, UNIT_UNKNOWN, NO_VOLUME}
use Rattle.uda_disk.specs.Units.{UnitState, Units, attributes_of}
use Rattle.uda_exec.specs.Commands.{block_count}
use Rattle.uda_exec.specs.BufferChecks.{transfer_refusal}
use Rattle.uda_exec.specs.SetUnit.{guest_reply}
use Rattle.uda_exec.specs.declared.compare.Verdict.{Verdict}
use Rattle.uda_exec.specs.declared.compare.Verdict.TheVariants.{Equal, Differs, Lost}

-- the range and the buffer to compare, as of a Read; a command without a range compares nothing
abbrev pub compared_by : Option Transfer → Transfer
compared_by None = record { kind = Read; bytes = 0; lbn = 0; buffer = 0 }
compared_by (Some t) = record t { kind = Read }

abbrev pub compared : Op → Transfer
compared o = compared_by (transfer_of o)

-- byte i of a transfer's range of blocks, and byte i of its buffer
abbrev pub byte_stored : Transfer → List (List ℕ) → ℕ → ℕ
byte_stored t blocks i = slice_index (slice_index_or blocks (t.lbn + i / 512) []) (i % 512)

abbrev pub byte_held : Transfer → List ℕ → ℕ → ℕ
byte_held t memory i = slice_index memory (t.buffer + i)

-- the first n bytes are the same
abbrev pub AreSame : ℕ → (ℕ → ℕ) → (ℕ → ℕ) → Type 0
AreSame n f g = (i : ℕ) → i < n → f i ≡ g i

-- byte n is the first that differs
pub record DiffersAt (n : ℕ) (f g : ℕ → ℕ) : Type 0 where
  pub same : AreSame n f g
  pub other : f n ≢ g n

-- ---- the result of a comparison

abbrev pub verdict_status : Verdict → ℕ
verdict_status Equal = SUCCESS
verdict_status (Differs n) = COMPARE_ERROR
verdict_status (Lost k) = DRIVE_ERROR

-- the bytes that count as equal: all of them, those before the first difference, or those of the blocks
-- before the failing one
abbrev pub bytes_equal : ℕ → Verdict → ℕ
bytes_equal count Equal = count
bytes_equal count (Differs n) = n
bytes_equal count (Lost k) = 512 * k

-- a difference is at a byte of the transfer, and a failure at a block of it
abbrev pub FitsTransfer : Transfer → Verdict → Type 0
FitsTransfer t Equal = Unit {0}
FitsTransfer t (Differs n) = n < t.bytes
FitsTransfer t (Lost k) = k < block_count t

-- all bytes are the same; or the first difference is there; or all bytes before the failing block are the
-- same
abbrev pub IsVerdict : Transfer → Verdict → (ℕ → ℕ) → (ℕ → ℕ) → Type 0
IsVerdict t Equal f g = AreSame t.bytes f g
IsVerdict t (Differs n) f g = DiffersAt n f g
IsVerdict t (Lost k) f g = AreSame (512 * k) f g

abbrev pub failures_in : Verdict → ℕ
failures_in Equal = 0
failures_in (Differs n) = 0
failures_in (Lost k) = 1

-- The blocks of a store that is sound afterwards were compared with memory. No block changes, and the store failed once more
-- exactly if a block failed.
pub record ComparesBlocks (t : Transfer) (v : Verdict) (old : StoreState) (memory : List ℕ) (new : StoreState)
    : Type 0 where
  pub verdict : IsVerdict t v (byte_stored t old.blocks) (byte_held t memory)
  pub blocks_stay : new.blocks ≡ old.blocks
  pub failures_are : new.failures ≡ old.failures + failures_in v

-- ---- the command

abbrev pub compare_reply : Command → ℕ → ℕ → Reply
compare_reply c status bytes = guest_reply c status (Compare bytes)

-- an accepted Compare: whatever the store, only the store's state changes
pub record ComparesOn (c : Command) (v : Verdict) (unit : UnitState) (memory : List ℕ) (r : Reply)
    (unit_after : UnitState) : Type 0 where
  pub reply_is : r ≡ compare_reply c (verdict_status v) (bytes_equal (compared c.op).bytes v)
  pub fits : FitsTransfer (compared c.op) v
  pub attributes_stay : attributes_of unit_after ≡ attributes_of unit
  pub mode_stays : unit_after.mode ≡ unit.mode
  pub sound_before : is_sound unit_after.store ≡ true → is_sound unit.store ≡ true
  pub blocks : unit.store.faithful ≡ true
      → ComparesBlocks (compared c.op) v unit.store memory unit_after.store
  pub blocks_if_sound : is_sound unit_after.store ≡ true
      → ComparesBlocks (compared c.op) v unit.store memory unit_after.store

-- a rejected Compare changes nothing
abbrev pub ComparesUnit : Option Refusal → Command → UnitState → List ℕ → Reply → UnitState → Type 0
ComparesUnit (Some refusal) c unit memory r unit_after =
    (r ≡ compare_reply c (refusal_status refusal) 0) × (unit_after ≡ unit)
ComparesUnit None c unit memory r unit_after = (v : Verdict) × ComparesOn c v unit memory r unit_after

-- the comparison by the state of the command's unit; the checks of a unit are those of a Read
abbrev pub ComparesSlot : Option (Option UnitState) → Command → Units → List ℕ → Reply → Units → Type 0
ComparesSlot None c units memory r units_after = (r ≡ compare_reply c UNIT_UNKNOWN 0) × (units_after ≡ units)
ComparesSlot (Some None) c units memory r units_after =
    (r ≡ compare_reply c NO_VOLUME 0) × (units_after ≡ units)
ComparesSlot (Some (Some unit)) c units memory r units_after =
    (unit_after : UnitState) × ((units_after ≡ set units c.unit (Some unit_after))
    × ComparesUnit (transfer_refusal (compared c.op) (length memory) unit.store.size unit.mode) c unit memory
    r unit_after)

-- MSCP: Compare Host Data. Memory and all units except the command's own are unchanged.
pub record ComparesUnits (c : Command) (units : Units) (memory : List ℕ) (r : Reply) (units_after : Units)
    (memory_left : List ℕ) : Type 0 where
  pub slot : ComparesSlot (slice_get units c.unit) c units memory r units_after
  pub memory_stays : memory_left ≡ memory
