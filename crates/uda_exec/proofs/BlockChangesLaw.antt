-- A command changes only blocks that it uses.
use Rattle.std.proofs.Common.{◌≡◌, ℕ, ◌*◌, ◌+◌, Bool, true, false, List, [], length, set, replicate, Option, Some, None, refl, sym, ap, ap₂, ◌∙◌, arith}
use Rattle.std.specs.Prelude.{◌≢◌, ◌&&◌, ◌==◌, nat_lt, is_none, option_map, unwrap_or, slice_get, if◌then◌else◌}
use Rattle.std.specs.List.{concat}
use Rattle.std.proofs.lemmas.Bool.{eqb-true, eqb-false}
use Rattle.std.proofs.lemmas.Bool.Decides.{nat_tests}
use Rattle.std.proofs.lemmas.List.{nil_from_length, set-get_or, set_past, length-replicate}
use Rattle.std.proofs.lemmas.List.Elements.{All-nil}
use Rattle.std.proofs.lemmas.Option.{unwrap_or-slice_get, slice_get_within, slice_get-map}
use Rattle.uda_mem.proofs.PutLaws.{put-nil}
use Rattle.uda_packet.specs.declared.end.Kind.TheVariants.{Erase, Read, Write}
use Rattle.uda_packet.specs.declared.guest_command.GuestCommand.{GuestCommand}
use Rattle.uda_packet.specs.declared.guest_command.GuestOp.{GuestOp}
use Rattle.uda_packet.specs.declared.guest_command.GuestOp.TheVariants as guest
use Rattle.uda_packet.specs.declared.reply.Reply.{Reply}
use Rattle.uda_disk.specs.Units.{Units, failures_at, is_sound_at}
use Rattle.uda_disk.specs.Laws.{blocks_in, blocks_at}
use Rattle.uda_disk.proofs.Callers.{joined_and_cut}
use Rattle.uda_disk.proofs.Slots.{slice_get-set_same, slice_get-set_other}
use Rattle.uda_exec.specs.BlockUse.{access_by, transfer_by, used_by, range_of, bytes_written}
use Rattle.uda_exec.specs.BufferUse.{guest_at}
use Rattle.uda_exec.specs.Compare.{compared_by, compared, ComparesSlot, ComparesUnit, ComparesUnits, failures_in, FitsTransfer}
use Rattle.uda_exec.specs.declared.compare.Verdict.{Verdict}
use Rattle.uda_exec.specs.declared.compare.Verdict.TheVariants as verdict
use Rattle.uda_exec.specs.Drives.{info_at}
use Rattle.uda_exec.specs.Execution.{TakesEffect}
use Rattle.uda_exec.specs.GuestExecution.{ExecutesAs}
use Rattle.uda_exec.specs.GuestOps.{op_at}
use Rattle.uda_exec.specs.Laws.{OnlyUsedBlocksChange}
use Rattle.uda_exec.specs.SetUnit.{unit_set}
use Rattle.uda_exec.specs.BlockChanges.{use_on, are_written, LeavesUnit, ChangesUnit, ChangesOnly}
use Rattle.uda_exec.proofs.Steps.{AreBlocks-due_by, length-due_by, nothing_if}
use Rattle.uda_exec.proofs.Written.{length-written}
use Rattle.uda_exec.proofs.Transferred.{asks_it, still, passes_if, check_on-transfer, extent-asks, free-still}
use Rattle.uda_exec.proofs.Units.{slot_in}
use Rattle.uda_exec.proofs.Words.{due_by, put, Command, Op, Kind, Transfer, transfer_of, changes_blocks, Refusal, Disk, Act, in_blocks, lbn_of, blocks_due, UnitState, disk_of, disks_of, block_count, blocks_asked, asks_by, act_of, due, blocks_moved, blocks_written, disk_after, is_lost, is_accepted, Accepted, check_by, check_on, check_in, transfer_refusal, TransferOutcome, Done, Lost, IsWithinRange, World, passes_checks, world_of, End, Executes}

-- ---- the unit of a list

abbrev make : Command → GuestOp → GuestCommand
make c o = record { command = c; op = o }

-- the blocks of a unit, and of its slot
abbrev unit_blocks : Units → ℕ → List (List ℕ)
unit_blocks units u = blocks_at (disks_of units) u

abbrev slot_blocks : Option (Option UnitState) → List (List ℕ)
slot_blocks slot = blocks_in (option_map (option_map disk_of) slot)

at_slot : (units : Units) (u : ℕ) → unit_blocks units u ≡ slot_blocks (slice_get units u)
at_slot units u = ap blocks_in (slice_get-map (option_map disk_of) units u)

same_slot : (old new : Units) (u : ℕ) → slice_get new u ≡ slice_get old u → LeavesUnit u old new
same_slot old new u same = record {
  blocks_stay = at_slot new u ∙ ap slot_blocks same ∙ sym (at_slot old u);
  failures_stay = ap failures_at same;
}

same_units : (old new : Units) (u : ℕ) → new ≡ old → LeavesUnit u old new
same_units old new u same = same_slot old new u (rw same refl)

-- a unit with a drive
blocks_here : (units : Units) (u : ℕ) (unit : UnitState) → slice_get units u ≡ Some (Some unit)
    → unit_blocks units u ≡ unit.store.blocks
blocks_here units u unit here = at_slot units u ∙ ap slot_blocks here

leaves_if : (old new : Units) (u : ℕ) (unit unit_after : UnitState) → slice_get old u ≡ Some (Some unit)
    → slice_get new u ≡ Some (Some unit_after) → unit_after.store.blocks ≡ unit.store.blocks
    → unit_after.store.failures ≡ unit.store.failures → LeavesUnit u old new
leaves_if old new u unit unit_after here there blocks failures = record {
  blocks_stay = rw (blocks_here old u unit here, blocks_here new u unit_after there) blocks;
  failures_stay = rw (here, there) failures;
}

-- units that don't change
pub leaves_all : (bytes : List ℕ) (old new : Units) → new ≡ old → ChangesOnly None bytes old new
leaves_all bytes old new same u sound = same_units old new u same

-- whether blocks that a command uses are of this unit
use_other : (c : Command) (o : GuestOp) (u : ℕ) → (u == c.unit) ≡ false → (t : Option Transfer)
    → use_on u (range_of (Some (make c o)) t) ≡ None
use_other c o u other None = refl
use_other c o u other (Some t) = rw other refl

use_own : (c : Command) (o : GuestOp) (u : ℕ) → (u == c.unit) ≡ true → (t : Option Transfer)
    → use_on u (range_of (Some (make c o)) t) ≡ range_of (Some (make c o)) t
use_own c o u own None = refl
use_own c o u own (Some t) = rw own refl

-- ---- the blocks that a transfer writes

moved_none : (o : TransferOutcome) → blocks_moved o [] ≡ []
moved_none Done = refl
moved_none (Lost k left) = set_past [] k left (omega arith)

module _ (t : Transfer) (memory : List ℕ) (blocks : List (List ℕ)) (o : TransferOutcome) where
  written_by : (kind : Kind) → t.kind ≡ kind
      → blocks_written (asks_by kind t memory) (blocks_moved o (due (asks_by kind t memory) blocks))
      ≡ blocks_moved o (in_blocks (bytes_written (Some t) memory))
  written_by Erase is = rw is (ap (blocks_moved o) (sym (joined_and_cut (due_by Erase t [] memory)
      (AreBlocks-due_by t [] memory (λ some. All-nil (λ b. length b ≡ 512)) Erase))))
  written_by Write is = rw is (ap (blocks_moved o) (sym (joined_and_cut (due_by Write t [] memory)
      (AreBlocks-due_by t [] memory (λ some. All-nil (λ b. length b ≡ 512)) Write))))
  written_by _ is = rw is (sym (moved_none o))

-- a transfer without blocks has no bytes to write
no_bytes : (t : Transfer) (memory : List ℕ) → block_count t ≡ 0 → bytes_written (Some t) memory ≡ []
no_bytes t memory few =
    let due_none : blocks_due t [] memory ≡ [] =
    nil_from_length (blocks_due t [] memory) (length-due_by t [] memory t.kind (λ reads some. absurd (omega arith))
    ∙ few) in
    ap concat (nothing_if (changes_blocks t.kind) (blocks_due t [] memory) due_none)

-- a transfer that passes its checks is on its unit, and has as many bytes to write as its blocks have
kind_writes : (kind : Kind) → changes_blocks kind ≡ are_written (access_by kind)
kind_writes Write = refl
kind_writes _ = refl

size_is : (t : Transfer) (memory : List ℕ)
    → length (bytes_written (Some t) memory) ≡ (if are_written (access_by t.kind) then 512 * block_count t else 0)
size_is t memory = rw (← kind_writes t.kind) (length-written (Some t) memory)

-- ---- a command of the strict profile, on its own unit

module _ (c : Command) (units units_after : Units) (memory memory_left : List ℕ) (e : End)
    (x : Executes c units memory e units_after memory_left)
    (it : TakesEffect c units memory e units_after memory_left) where
  abbrev own_unit : Option Transfer → Type 0
  own_unit used =
      ChangesUnit (range_of (Some (make c guest.Basic)) used) (bytes_written used memory) c.unit units units_after

  -- a rejected command changes nothing
  rejected : passes_checks c (world_of units memory) ≡ false → LeavesUnit c.unit units units_after
  rejected idle = same_units units units_after c.unit (x.by_checks.idle idle)

  rejected_as : (act : Act) (slot : Option (Option UnitState)) → act_of c.op memory ≡ Some act
      → slice_get units c.unit ≡ slot
      → is_accepted (check_in c.op act (length memory) (option_map (option_map disk_of) slot)) ≡ false
      → LeavesUnit c.unit units units_after
  rejected_as act slot asks here idle = rejected (rw (asks, slot_in units c.unit slot here) idle)

  -- a command without blocks succeeds
  succeeds : (o : TransferOutcome) → blocks_asked c.op ≡ 0 → IsWithinRange (blocks_asked c.op) o → is_lost o ≡ false
  succeeds Done none within = refl
  succeeds (Lost k left) none within = absurd (omega (arith, within.0))

  module _ (act : Act) (unit : UnitState) (asks : act_of c.op memory ≡ Some act)
      (here : slice_get units c.unit ≡ Some (Some unit))
      (free : check_on c act unit memory ≡ Accepted (disk_of unit)) where
    abbrev now_written : List (List ℕ)
    now_written = blocks_written act (blocks_moved it.outcome (due act unit.store.blocks))

    own_blocks : unit_blocks units_after c.unit ≡ put (unit_blocks units c.unit) (lbn_of act) now_written
    own_blocks =
        let disk = slot_in units c.unit (Some (Some unit)) here in
        let left : Option Disk = Some (disk_after it.outcome act (disk_of unit)) in
        let effect = rw (asks, disk, free) at it.effect_is in
        ap (λ (p : End × World). blocks_at p.1.disks c.unit) effect
        ∙ rw (
          slice_get-set_same (disks_of units) c.unit left
              (slice_get_within (disks_of units) c.unit (Some (disk_of unit)) disk),
          disk,
        ) refl

    -- nothing is written
    unwritten : blocks_asked c.op ≡ 0 → now_written ≡ [] → LeavesUnit c.unit units units_after
    unwritten none nothing =
        let blocks = rw nothing at own_blocks in
        let failures = rw (succeeds it.outcome none it.fits.count) at it.failures_are in
        record { blocks_stay = blocks ∙ put-nil (unit_blocks units c.unit) (lbn_of act); failures_stay = omega arith }

  -- a command that is no transfer
  still_by : (asked : Option Act) → act_of c.op memory ≡ asked → transfer_of c.op ≡ None
      → LeavesUnit c.unit units units_after
  still_by None asks none = rejected (rw asks refl)
  still_by (Some act) asks none = by_slot (slice_get units c.unit) refl
    where
      by_slot : (slot : Option (Option UnitState)) → slice_get units c.unit ≡ slot → LeavesUnit c.unit units units_after
      by_slot (Some (Some unit)) here =
          let s = still c.op memory act none asks in
          unwritten act unit asks here (free-still c act unit memory none s.no_extent) (rw none refl) (s.stores _)
      by_slot slot here = rejected_as act slot asks here refl

  -- a transfer on a unit with a drive
  module _ (t : Transfer) (is : transfer_of c.op ≡ Some t) (unit : UnitState)
      (here : slice_get units c.unit ≡ Some (Some unit)) where
    abbrev act : Act
    act = asks_by t.kind t memory

    abbrev refusal_of : Option Refusal
    refusal_of = transfer_refusal t (length memory) unit.store.size unit.mode

    checked : check_on c act unit memory ≡ check_by refusal_of (disk_of unit)
    checked = check_on-transfer c t unit memory is

    written_is : blocks_written act (blocks_moved it.outcome (due act unit.store.blocks))
        ≡ blocks_moved it.outcome (in_blocks (bytes_written (Some t) memory))
    written_is = written_by t memory unit.store.blocks it.outcome t.kind refl

    by_check : (r : Option Refusal) (some : Bool) → refusal_of ≡ r → nat_lt 0 (block_count t) ≡ some
        → own_unit (if is_none r && some then Some t else None)
    by_check (Some refusal) some found calls =
        rejected_as act (Some (Some unit)) (asks_it c t unit memory is) here (rw (checked, found) refl)
    by_check None true found calls =
        let passes = passes_if t (length memory) unit.store.size unit.mode found in
        record {
          on_unit = rw (slot_in units c.unit (Some (Some unit)) here) passes.on_unit;
          size = size_is t memory;
          outcome = it.outcome;
          within = rw is at it.fits.count;
          written = own_blocks act unit (asks_it c t unit memory is) here (rw (checked, found) refl)
              ∙ ap₂ (put (unit_blocks units c.unit)) (rw (extent-asks t memory t.kind) refl) written_is;
          failures_are = it.failures_are;
        }
    by_check None false found calls =
        let few : block_count t ≡ 0 = grind (arith, nat_tests) in
        unwritten act unit (asks_it c t unit memory is) here (rw (checked, found) refl) (rw is few)
        (written_is ∙ rw (no_bytes t memory few) (moved_none it.outcome))

  transfer_on : (t : Transfer) → transfer_of c.op ≡ Some t → (slot : Option (Option UnitState))
      → slice_get units c.unit ≡ slot → own_unit (used_by (Some t) (length memory) (info_at slot))
  transfer_on t is (Some (Some unit)) here = by_check t is unit here _ _ refl refl
  transfer_on t is slot here = rejected_as (asks_by t.kind t memory) slot (rw is refl) here refl

  on_own : (found : Option Transfer) → transfer_of c.op ≡ found
      → own_unit (used_by found (length memory) (info_at (slice_get units c.unit)))
  on_own None is = still_by (act_of c.op memory) refl is
  on_own (Some t) is = transfer_on t is (slice_get units c.unit) refl

-- ---- Set Unit Characteristics: it changes no store

set_own : (o : Op) (units : Units) (u : ℕ) (slot : Option (Option UnitState)) → slice_get units u ≡ slot
    → LeavesUnit u units (set units u (option_map (unit_set o) (unwrap_or slot None)))
set_own o units u (Some (Some unit)) here =
    leaves_if units _ u unit (unit_set o unit) here
    (slice_get-set_same units u (Some (unit_set o unit)) (slice_get_within units u (Some unit) here)) refl refl
set_own o units u slot here =
    let none = sym (ap (λ (s : Option (Option UnitState)). unwrap_or s None) here) ∙ unwrap_or-slice_get units u None in
    same_units units _ u (ap (set units u) none ∙ set-get_or units u None)

-- ---- Compare Host Data

-- the outcome of its reads
abbrev outcome_of : Verdict → TransferOutcome
outcome_of (verdict.Lost k) = Lost k (replicate 512 0)
outcome_of _ = Done

outcome_within : (t : Transfer) (v : Verdict) → FitsTransfer t v → IsWithinRange (block_count t) (outcome_of v)
outcome_within t (verdict.Lost k) fits = (fits, length-replicate {A = ℕ} 512 0)
outcome_within t _ fits = tt

failures_of : (v : Verdict) → failures_in v ≡ (if is_lost (outcome_of v) then 1 else 0)
failures_of (verdict.Lost k) = refl
failures_of _ = refl

failures_none : (t : Transfer) (v : Verdict) → block_count t ≡ 0 → FitsTransfer t v → failures_in v ≡ 0
failures_none t (verdict.Lost k) few fits = absurd (omega (arith, fits, few))
failures_none t _ few fits = refl

kind_compared : (o : Op) → (compared o).kind ≡ Read
kind_compared o = by_transfer (transfer_of o)
  where
    by_transfer : (found : Option Transfer) → (compared_by found).kind ≡ Read
    by_transfer None = refl
    by_transfer (Some t) = refl

module _ (c : Command) (units units_after : Units) (memory memory_left : List ℕ) (r : Reply)
    (x : ComparesUnits c units memory r units_after memory_left)
    (sound : is_sound_at (slice_get units_after c.unit) ≡ true) where
  abbrev t_of : Transfer
  t_of = compared c.op

  abbrev compared_unit : Option Transfer → Type 0
  compared_unit used =
      ChangesUnit (range_of (Some (make c guest.Compare)) used) (bytes_written used memory) c.unit units units_after

  module _ (unit unit_after : UnitState) (here : slice_get units c.unit ≡ Some (Some unit))
      (set_is : units_after ≡ set units c.unit (Some unit_after)) where
    there : slice_get units_after c.unit ≡ Some (Some unit_after)
    there = rw set_is (slice_get-set_same units c.unit (Some unit_after)
        (slice_get_within units c.unit (Some unit) here))

    compared_by_check : (found : Option Refusal) (some : Bool)
        → transfer_refusal t_of (length memory) unit.store.size unit.mode ≡ found
        → nat_lt 0 (block_count t_of) ≡ some → ComparesUnit found c unit memory r unit_after
        → compared_unit (if is_none found && some then Some t_of else None)
    compared_by_check (Some refusal) some is calls it = same_slot units units_after c.unit (rw (there, it.1) (sym here))
    compared_by_check None false is calls (v, it) =
        let kept = it.blocks_if_sound (sym (ap is_sound_at there) ∙ sound) in
        let few : block_count t_of ≡ 0 = grind (arith, nat_tests) in
        leaves_if units units_after c.unit unit unit_after here there kept.blocks_stay
        (omega (arith, kept.failures_are, failures_none t_of v few it.fits))
    compared_by_check None true is calls (v, it) =
        let kept = it.blocks_if_sound (sym (ap is_sound_at there) ∙ sound) in
        let passes = passes_if t_of (length memory) unit.store.size unit.mode is in
        let moved : blocks_moved (outcome_of v) (in_blocks (bytes_written (Some t_of) memory)) ≡ [] =
        rw (kind_compared c.op) (moved_none (outcome_of v)) in
        record {
          on_unit = rw (slot_in units c.unit (Some (Some unit)) here) passes.on_unit;
          size = size_is t_of memory;
          outcome = outcome_of v;
          within = outcome_within t_of v it.fits;
          written = rw (moved, blocks_here units c.unit unit here, blocks_here units_after c.unit unit_after there)
              (kept.blocks_stay ∙ sym (put-nil unit.store.blocks t_of.lbn));
          failures_are = rw (here, there) (kept.failures_are ∙ ap (λ (n : ℕ). unit.store.failures + n) (failures_of v));
        }

  on_slot : (slot : Option (Option UnitState)) → slice_get units c.unit ≡ slot
      → ComparesSlot slot c units memory r units_after
      → compared_unit (used_by (Some t_of) (length memory) (info_at slot))
  on_slot None here it = same_units units units_after c.unit it.1
  on_slot (Some None) here it = same_units units units_after c.unit it.1
  on_slot (Some (Some unit)) here (unit_after, both) =
      compared_by_check unit unit_after here both.0
      (transfer_refusal t_of (length memory) unit.store.size unit.mode) (nat_lt 0 (block_count t_of)) refl refl both.1

-- ---- any command

module _ (c : Command) (old new : Units) (memory memory_left : List ℕ) (r : Reply) where
  abbrev used_as : GuestOp → Option Transfer
  used_as o = used_by (transfer_by o c.op) (length memory) (info_at (slice_get old c.unit))

  compared_slot : (u : ℕ) → u ≢ c.unit → (slot : Option (Option UnitState)) → ComparesSlot slot c old memory r new
      → LeavesUnit u old new
  compared_slot u other None it = same_units old new u it.1
  compared_slot u other (Some None) it = same_units old new u it.1
  compared_slot u other (Some (Some unit)) (unit_after, both) =
      same_slot old new u (rw both.0 (slice_get-set_other old c.unit u (Some unit_after) other))

  on_other : (o : GuestOp) → ExecutesAs o c old memory r new memory_left → (u : ℕ) → u ≢ c.unit
      → LeavesUnit u old new
  on_other guest.Basic x u other = same_slot old new u (x.executes.others_stay u other)
  on_other guest.SetUnit x u other =
      same_slot old new u (rw x.units_are (slice_get-set_other old c.unit u _ other))
  on_other guest.Compare x u other = compared_slot u other (slice_get old c.unit) x.slot

  on_this : (o : GuestOp) → ExecutesAs o c old memory r new memory_left
      → is_sound_at (slice_get new c.unit) ≡ true
      → ChangesUnit (range_of (Some (make c o)) (used_as o)) (bytes_written (used_as o) memory) c.unit old new
  on_this guest.Basic x sound =
      on_own c old new memory memory_left x.end x.executes (x.executes.takes_effect_if_sound (λ calls. sound))
      (transfer_of c.op) refl
  on_this guest.SetUnit x sound = rw x.units_are (set_own c.op old c.unit (slice_get old c.unit) refl)
  on_this guest.Compare x sound =
      on_slot c old new memory memory_left r x sound (slice_get old c.unit) refl x.slot

  by_unit : (o : GuestOp) → ExecutesAs o c old memory r new memory_left → (u : ℕ)
      → is_sound_at (slice_get new u) ≡ true → (own : Bool) → (u == c.unit) ≡ own
      → ChangesUnit (use_on u (range_of (Some (make c o)) (used_as o))) (bytes_written (used_as o) memory) u old new
  by_unit o x u sound false is = rw (use_other c o u is (used_as o)) (on_other o x u (eqb-false u c.unit is))
  by_unit o x u sound true is =
      let same : u ≡ c.unit = eqb-true u c.unit is in
      rw (use_own c o u is (used_as o), same) (on_this o x (rw same at sound))

pub only_used_blocks_change : OnlyUsedBlocksChange
only_used_blocks_change j old new memory memory_left r x u sound =
    let c = x.command in
    let o = op_at old.guest_ops j in
    let found : guest_at old j ≡ Some (make c o) = ap (option_map (λ (c : Command). make c o)) x.taken.stands in
    rw found (by_unit c old.units new.units memory memory_left r o x.executes u sound (u == c.unit) refl)
