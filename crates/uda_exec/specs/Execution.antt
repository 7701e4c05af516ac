-- The effect of one execution: an eligible pending command is removed and executed.
-- MSCP Basic Disk Functions Manual: command ordering, end messages.
use Rattle.std.specs.Prelude.{◌≡◌, ◌≢◌, ℕ, ◌+◌, ◌≤◌, Bool, true, false, ◌&&◌, List, length, Option, Some, None}
use Rattle.std.specs.Prelude.{slice_get, nat_lt, remove, if◌then◌else◌}
use Rattle.uda_image.specs.Store.{CallsSucceed, FailsAtCall, is_sound}
use Rattle.uda_packet.specs.declared.command.Command.{Command}
use Rattle.uda_packet.specs.declared.command.Op.{Op}
use Rattle.uda_packet.specs.declared.end.End.{End}
use Rattle.uda_packet.specs.declared.end.EndBody.{EndBody}
use Rattle.uda_packet.specs.declared.end.EndBody.TheVariants.{Moved}
use Rattle.uda_packet.specs.Opcode.{opcode_of, answered_opcode}
use Rattle.uda_disk.specs.Request.{Act}
use Rattle.uda_disk.specs.RequestEffect.{CheckResult, TransferOutcome, Done, Lost, is_lost, answer_by, is_accepted, disk_by, IsWithinRange}
use Rattle.uda_disk.specs.RequestEffect.{transfer_status, transfer_bytes}
use Rattle.uda_disk.specs.Units.{UnitState, Units, disk_of, disks_of, is_faithful, is_infallible, failures_at}
use Rattle.uda_disk.specs.Units.{failing_call_at, is_sound_at, AreSoundBefore, AreWellFormedIfSound, IsWellFormedIfSound}
use Rattle.uda_disk.specs.Units.{attributes_of, unit_attributes, modes_of}
use Rattle.uda_exec.specs.Disks.{ExecState}
use Rattle.uda_exec.specs.Commands.{is_transfer, blocks_asked, bytes_asked, buffer_start, memory_write_length}
use Rattle.uda_exec.specs.Transfers.{ChangesAt}
use Rattle.uda_exec.specs.Effect.{World, FailureFits, passes_checks, effect, check_in, end_for, memory_by, reply}
use Rattle.uda_exec.specs.Effect.{plain_body}
use Rattle.uda_exec.specs.Order.{IsEligible}

-- the command at index j is removed: it is eligible, and the others keep their order
pub record TakesOut (old : List Command) (j : ℕ) (c : Command) (new : List Command) : Type 0 where
  pub stands : slice_get old j ≡ Some c
  pub may : IsEligible old j
  pub taken : new ≡ remove old j

-- the byte count of an end message, if it has one
abbrev pub bytes_of : EndBody → ℕ
bytes_of (Moved kind bytes) = bytes
bytes_of _ = 0

-- the body is that of the command's opcode, and its byte count is at most the command's
pub record IsBodyOf (op : Op) (body : EndBody) : Type 0 where
  pub opcode : answered_opcode body ≡ opcode_of op
  pub within : bytes_of body ≤ bytes_asked op

-- the end message belongs to the command: its reference, its unit, the body of its opcode
pub record Answers (c : Command) (e : End) : Type 0 where
  pub reference : e.reference ≡ c.reference
  pub unit : e.unit ≡ c.unit
  pub body : IsBodyOf c.op e.body

abbrev pub world_of : Units → List ℕ → World
world_of units memory = record { memory = memory; disks = disks_of units }

-- the calls of a store for this many blocks, by the outcome: if the call that will fail is known, the failure
-- is at that call
abbrev pub CallsStore : TransferOutcome → ℕ → Option ℕ → Option ℕ → Type 0
CallsStore Done blocks old new = CallsSucceed blocks old new
CallsStore (Lost k left) blocks old new = FailsAtCall k old new

-- the number of blocks for which a command calls its unit's store
abbrev pub blocks_called : Command → Bool → ℕ
blocks_called c acting = if acting then blocks_asked c.op else 0

-- A command succeeds or fails. The store of its unit failed once more exactly if the command fails. The
-- command never fails if that store is infallible.
pub record TakesEffect (c : Command) (units : Units) (memory : List ℕ) (e : End) (units_after : Units)
    (memory_left : List ℕ) : Type 0 where
  pub outcome : TransferOutcome
  pub fits : FailureFits outcome (blocks_asked c.op) (passes_checks c (world_of units memory))
  pub effect_is : (e, world_of units_after memory_left) ≡ effect outcome c (world_of units memory)
  pub failures_are : failures_at (slice_get units_after c.unit)
      ≡ failures_at (slice_get units c.unit) + (if is_lost outcome then 1 else 0)
  pub calls : CallsStore outcome (blocks_called c (passes_checks c (world_of units memory)))
      (failing_call_at (slice_get units c.unit)) (failing_call_at (slice_get units_after c.unit))
  pub infallible : is_infallible (slice_get units c.unit) ≡ true → outcome ≡ Done

-- if a command calls a store, that store is faithful; only accepted transfers of one block or more call one
abbrev pub StoreIsFaithful : Command → Units → List ℕ → Type 0
StoreIsFaithful c units memory = nat_lt 0 (blocks_asked c.op) && passes_checks c (world_of units memory) ≡ true
    → is_faithful (slice_get units c.unit) ≡ true

-- if a command calls a store, that store is sound afterwards
abbrev pub StoreIsSound : Command → Units → List ℕ → Units → Type 0
StoreIsSound c units memory units_after =
    nat_lt 0 (blocks_asked c.op) && passes_checks c (world_of units memory) ≡ true
    → is_sound_at (slice_get units_after c.unit) ≡ true

-- the blocks of a unit's store are whole, if it is sound
abbrev pub HasWholeStore : Option (Option UnitState) → Type 0
HasWholeStore (Some unit) = IsWellFormedIfSound unit
HasWholeStore None = Unit {0}

-- a transfer succeeded, or failed at a block of its range, and its end message reports that
pub record EndsTransfer (c : Command) (e : End) : Type 0 where
  pub outcome : TransferOutcome
  pub count : IsWithinRange (blocks_asked c.op) outcome
  pub end_is :
      e ≡ reply c (transfer_status outcome) (plain_body c.op (transfer_bytes outcome (bytes_asked c.op)))

-- a rejected command leaves the units unchanged, and an accepted transfer succeeds or fails
pub record EffectByChecks (c : Command) (acting : Bool) (units : Units) (e : End) (units_after : Units)
    : Type 0 where
  pub idle : acting ≡ false → units_after ≡ units
  pub ends : is_transfer c.op ≡ true → acting ≡ true → EndsTransfer c e

-- A command was executed. For every store:
-- - The end message belongs to the command.
-- - Memory changes only in a Read's buffer.
-- - No other unit changes, and the fixed attributes of the command's own unit don't change.
-- - A transfer leaves the mode unchanged; if it is accepted, it succeeds or fails.
-- - A rejected command changes no unit. A command that calls no store, and one with a faithful store, has its
--   complete effect. So has one whose store is sound afterwards.
-- - A store that is sound afterwards was sound before. Units that were well formed if sound still are, and an accepted
--   command's unit was.
pub record Executes (c : Command) (units : Units) (memory : List ℕ) (e : End) (units_after : Units)
    (memory_left : List ℕ) : Type 0 where
  pub answers : Answers c e
  pub memory_stays : ChangesAt memory (buffer_start c.op) (memory_write_length c.op) memory_left
  pub memory_is_kept : memory_write_length c.op ≡ 0 → memory_left ≡ memory
  pub others_stay : (u : ℕ) → u ≢ c.unit → slice_get units_after u ≡ slice_get units u
  pub all_attributes_stay : unit_attributes units_after ≡ unit_attributes units
  pub modes_stay : is_transfer c.op ≡ true → modes_of units_after ≡ modes_of units
  pub by_checks : EffectByChecks c (passes_checks c (world_of units memory)) units e units_after
  pub takes_effect : StoreIsFaithful c units memory → TakesEffect c units memory e units_after memory_left
  pub sound_before : AreSoundBefore units units_after
  pub whole_before : passes_checks c (world_of units memory) ≡ true → HasWholeStore (slice_get units c.unit)
  pub well_formed_if_sound : AreWellFormedIfSound units → AreWellFormedIfSound units_after
  pub takes_effect_if_sound : StoreIsSound c units memory units_after
      → TakesEffect c units memory e units_after memory_left

-- the command at index j is executed and removed, with its additional operation
pub record ExecutesAt (j : ℕ) (old : ExecState) (memory : List ℕ) (e : End) (new : ExecState)
    (memory_left : List ℕ) : Type 0 where
  pub command : Command
  pub taken : TakesOut old.pending j command new.pending
  pub ops_left : new.guest_ops ≡ remove old.guest_ops j
  pub executes : Executes command old.units memory e new.units memory_left

-- a command with this action has its complete effect on its unit, for this result of its checks
pub record TakesEffectOn (c : Command) (act : Act) (b : CheckResult) (unit : UnitState) (memory : List ℕ) (e : End)
    (unit_after : UnitState) (memory_left : List ℕ) : Type 0 where
  pub outcome : TransferOutcome
  pub fits : FailureFits outcome (blocks_asked c.op) (is_accepted b)
  pub end_is : e ≡ end_for c (answer_by outcome act b)
  pub memory_is : memory_left ≡ memory_by outcome c.op act b memory
  pub disk_is : disk_of unit_after ≡ disk_by outcome act b (disk_of unit)
  pub failures_are : unit_after.store.failures ≡ unit.store.failures + (if is_lost outcome then 1 else 0)
  pub calls :
      CallsStore outcome (blocks_called c (is_accepted b)) unit.store.failing_call unit_after.store.failing_call
  pub infallible : is_infallible (Some (Some unit)) ≡ true → outcome ≡ Done

-- the result of the checks of a command with this action on its unit
abbrev pub check_on : Command → Act → UnitState → List ℕ → CheckResult
check_on c act unit memory = check_in c.op act (length memory) (Some (Some (disk_of unit)))

-- a command with this action is executed by its unit: what holds for every store, and what for a faithful or a sound
-- one
pub record ServesUnit (c : Command) (act : Act) (unit : UnitState) (memory : List ℕ) (e : End)
    (unit_after : UnitState) (memory_left : List ℕ) : Type 0 where
  pub answers : Answers c e
  pub memory_stays : ChangesAt memory (buffer_start c.op) (memory_write_length c.op) memory_left
  pub attributes_stay : attributes_of unit_after ≡ attributes_of unit
  pub mode_stays : is_transfer c.op ≡ true → unit_after.mode ≡ unit.mode
  pub unit_stays : is_accepted (check_on c act unit memory) ≡ false → unit_after ≡ unit
  pub ends : is_transfer c.op ≡ true → is_accepted (check_on c act unit memory) ≡ true → EndsTransfer c e
  pub takes_effect : (nat_lt 0 (blocks_asked c.op) && is_accepted (check_on c act unit memory) ≡ true
      → unit.store.faithful ≡ true)
      → TakesEffectOn c act (check_on c act unit memory) unit memory e unit_after memory_left
  pub sound_before : is_sound unit_after.store ≡ true → is_sound unit.store ≡ true
  pub takes_effect_if_sound : (nat_lt 0 (blocks_asked c.op) && is_accepted (check_on c act unit memory) ≡ true
      → is_sound unit_after.store ≡ true)
      → TakesEffectOn c act (check_on c act unit memory) unit memory e unit_after memory_left
