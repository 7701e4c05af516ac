-- What the execution of a command does to the modes of the units.
use Rattle.std.proofs.Common.{◌≡◌, ◌≢◌, ◌⊎◌, inl, inr, ℕ, zero, suc, Bool, true, false, List, [], ◌∷◌, length, set, Option, Some, None, refl, sym, ap, subst, ◌∙◌}
use Rattle.std.specs.Prelude.{◌||◌, ◌&&◌, not, nat_lt, option_map, slice_get, unwrap_or, is_some}
use Rattle.std.specs.Option.{option_map_or}
use Rattle.std.proofs.lemmas.Bool.{true≢false, cases_eq}
use Rattle.std.proofs.lemmas.Option.{slice_get-map, slice_get_within}
use Rattle.uda_disk.proofs.Slots.{slice_get-set_same, slice_get-set_other}
use Rattle.uda_disk.specs.declared.mode.Mode.{Mode}
use Rattle.uda_disk.specs.declared.refusal.Refusal.{Refusal}
use Rattle.uda_disk.specs.Disk.{Disk, Disks}
use Rattle.uda_disk.specs.Request as ask
use Rattle.uda_disk.specs.Request.{Act, extent_of}
use Rattle.uda_disk.specs.RequestEffect.{CheckResult, Rejected, Accepted, check_at, check_by, refusal_on, TransferOutcome, disk_after, disks_by, mode_after, answer_on, answer_by}
use Rattle.uda_disk.specs.Units.{UnitState, Units, disk_of, disks_of, modes_of}
use Rattle.uda_packet.specs.declared.command.Command.{Command}
use Rattle.uda_packet.specs.declared.end.End.{End}
use Rattle.uda_packet.specs.declared.guest_command.GuestOp.{GuestOp}
use Rattle.uda_packet.specs.declared.guest_command.GuestOp.TheVariants as guest
use Rattle.uda_packet.specs.declared.reply.Reply.{Reply}
use Rattle.uda_packet.specs.declared.transfer.Transfer.{Transfer}
use Rattle.uda_packet.specs.Reply.{basic_reply}
use Rattle.uda_packet.specs.Transfer.{transfer_of}
use Rattle.uda_exec.specs.BufferChecks.{check_with, is_odd, is_missing, with_buffer_checks, transfer_refusal}
use Rattle.uda_exec.specs.Commands.{act_of, blocks_asked, block_count, buffer_start, buffer_length}
use Rattle.uda_exec.specs.Compare.{compared, ComparesSlot, ComparesUnit}
use Rattle.uda_exec.specs.Disks.{ExecState}
use Rattle.uda_exec.specs.Effect.{World, effect_by, check_of, end_for, passes_checks}
use Rattle.uda_exec.specs.Execution.{Executes, TakesEffect, world_of}
use Rattle.uda_exec.specs.GuestExecution.{ExecutesAs}
use Rattle.uda_exec.specs.GuestOps.{op_at}
use Rattle.uda_exec.specs.SetUnit.{unit_set, with_protection, protection_asked}
use Rattle.uda_port.specs.declared.profile.Profile.{Profile}
use Rattle.uda_port.specs.declared.profile.Profile.TheVariants.{Strict, Compatible}
use Rattle.uda_port.specs.Guest.{is_online_now}
use Rattle.uda_port.specs.Turn.{ExecutesFor}

-- a unit, if there is one and it has a drive
abbrev Slot : Type 0
Slot = Option (Option UnitState)

-- whether a unit is online, by its mode
abbrev online_in : Option (Option Mode) → Bool
online_in (Some (Some mode)) = mode.online
online_in _ = false

-- whether an available unit isn't software-protected
abbrev rests_in : Option (Option Mode) → Bool
rests_in (Some (Some mode)) = mode.online || not mode.soft
rests_in _ = true

abbrev mode_of : Slot → Option (Option Mode)
mode_of slot = option_map (option_map (λ (unit : UnitState). unit.mode)) slot

abbrev pub online_at : Slot → Bool
online_at slot = online_in (mode_of slot)

abbrev pub rests_at : Slot → Bool
rests_at slot = rests_in (mode_of slot)

-- a unit comes online only by an Online, whose end message says so; and the end of being online ends its software write
-- protection
record Steps (r : Reply) (u : ℕ) (old new : Option (Option Mode)) : Type 0 where
  online : online_in new ≡ true → (online_in old ≡ true) ⊎ ((is_online_now r ≡ true) × (r.unit ≡ u))
  rests : rests_in old ≡ true → rests_in new ≡ true

stays : (r : Reply) (u : ℕ) (old new : Option (Option Mode)) → new ≡ old → Steps r u old new
stays r u old new same = record {
  online = λ is. inl (sym (ap online_in same) ∙ is);
  rests = λ is. ap rests_in same ∙ is;
}

-- ---- the disk of a unit

abbrev mode_in : Option (Option Disk) → Option (Option Mode)
mode_in slot = option_map (option_map (λ (disk : Disk). disk.mode)) slot

mode_kept : (slot : Slot) → mode_in (option_map (option_map disk_of) slot) ≡ mode_of slot
mode_kept None = refl
mode_kept (Some None) = refl
mode_kept (Some (Some unit)) = refl

disk_at : (units : Units) (u : ℕ) → mode_in (slice_get (disks_of units) u) ≡ mode_of (slice_get units u)
disk_at units u = ap mode_in (slice_get-map (option_map disk_of) units u) ∙ mode_kept (slice_get units u)

mode_at : (units : Units) (u : ℕ) → slice_get (modes_of units) u ≡ mode_of (slice_get units u)
mode_at units u = slice_get-map (option_map (λ (unit : UnitState). unit.mode)) units u

-- ---- a command of the strict profile

-- an accepted request acts on the disk of its unit
checked_by : (refusal : Option Refusal) (disk other : Disk) → check_by refusal disk ≡ Accepted other → disk ≡ other
checked_by None disk other is = cc
checked_by (Some refusal) disk other is = absurd (cc)

checked_at : (act : Act) (slot : Option (Option Disk)) (disk : Disk) → check_at act slot ≡ Accepted disk
    → slot ≡ Some (Some disk)
checked_at act None disk is = absurd (cc)
checked_at act (Some None) disk is = absurd (cc)
checked_at act (Some (Some found)) disk is =
    ap (λ (d : Disk). Some (Some d)) (checked_by (refusal_on (extent_of act) found.size found.mode) found disk is)

checked_with : (odd missing : Bool) (result : CheckResult) (disk : Disk) → check_with odd missing result ≡ Accepted disk
    → result ≡ Accepted disk
checked_with odd missing (Rejected refusal) disk is = absurd (cc)
checked_with odd missing (Accepted found) disk is =
    ap Accepted (checked_by (with_buffer_checks odd missing None) found disk is)

-- what an act does to a mode
acts : (act : Act) (outcome : TransferOutcome) (c : Command) (disk : Disk) (e : End)
    → e ≡ end_for c (answer_on outcome act disk)
    → Steps (basic_reply e) c.unit (Some (Some disk.mode)) (Some (Some (mode_after act disk.mode)))
acts ask.Available outcome c disk e is = record { online = λ on. absurd (true≢false (sym on)); rests = λ rests. refl }
acts (ask.Online protect) outcome c disk e is = by disk.mode.online refl
  where
    named : e.unit ≡ c.unit
    named = ap (λ (end : End). end.unit) is

    by : (online : Bool) → disk.mode.online ≡ online
        → Steps (basic_reply e) c.unit (Some (Some disk.mode)) (Some (Some (mode_after (ask.Online protect) disk.mode)))
    by true on = record {
      online = λ after. inl on;
      rests = λ rests. rw on (rw on at rests);
    }
    by false off = record {
      online = λ after. inr (rw (is, off) refl, named);
      rests = λ rests. rw off refl;
    }
acts ask.Status outcome c disk e is = stays _ c.unit _ _ refl
acts _ outcome c disk e is = stays _ c.unit _ _ refl

module _ (c : Command) (e : End) (outcome : TransferOutcome) (w : World) (disks_after : Disks) where
  abbrev old_at : Option (Option Mode)
  old_at = mode_in (slice_get w.disks c.unit)

  abbrev new_at : Option (Option Mode)
  new_at = mode_in (slice_get disks_after c.unit)

  by_check : (act : Act) (b : CheckResult) → check_of c act w ≡ b → e ≡ end_for c (answer_by outcome act b)
      → disks_after ≡ disks_by outcome (record { unit = c.unit; act = act }) b w.disks
      → Steps (basic_reply e) c.unit old_at new_at
  by_check act (Rejected refusal) check end disks =
      stays _ c.unit old_at new_at (ap (λ (ds : Disks). mode_in (slice_get ds c.unit)) disks)
  by_check act (Accepted disk) check end disks =
      let slot = checked_at act (slice_get w.disks c.unit) disk
      (checked_with (is_odd (buffer_start c.op)) (is_missing (buffer_start c.op) (buffer_length c.op) (length w.memory))
      (check_at act (slice_get w.disks c.unit)) disk check) in
      let there = slice_get_within w.disks c.unit (Some disk) slot in
      let put = ap (λ (ds : Disks). slice_get ds c.unit) disks
      ∙ slice_get-set_same w.disks c.unit (Some (disk_after outcome act disk)) there in
      subst (λ (o : Option (Option Mode)). Steps (basic_reply e) c.unit o new_at) (sym (ap mode_in slot))
      (subst (λ (o : Option (Option Mode)). Steps (basic_reply e) c.unit (Some (Some disk.mode)) o)
      (sym (ap mode_in put)) (acts act outcome c disk e end))

  by_act : (a : Option Act) → act_of c.op w.memory ≡ a → (memory_after : List ℕ)
      → (e, record { memory = memory_after; disks = disks_after }) ≡ effect_by outcome c a w
      → Steps (basic_reply e) c.unit old_at new_at
  by_act None none memory_after is =
      stays _ c.unit old_at new_at
      (ap (λ (x : End × World). mode_in (slice_get x.1.disks c.unit)) is)
  by_act (Some act) some memory_after is =
      by_check act (check_of c act w) refl (ap (λ (x : End × World). x.0) is) (ap (λ (x : End × World). x.1.disks) is)

module _ (c : Command) (units : Units) (memory : List ℕ) (e : End) (units_after : Units) (memory_left : List ℕ)
    (it : Executes c units memory e units_after memory_left) where
  abbrev steps_at : ℕ → Type 0
  steps_at u = Steps (basic_reply e) u (mode_of (slice_get units u)) (mode_of (slice_get units_after u))

  by_effect : TakesEffect c units memory e units_after memory_left → steps_at c.unit
  by_effect t =
      subst (λ (o : Option (Option Mode)). Steps (basic_reply e) c.unit o (mode_of (slice_get units_after c.unit)))
      (disk_at units c.unit)
      (subst (λ (o : Option (Option Mode)). Steps (basic_reply e) c.unit (mode_in (slice_get (disks_of units) c.unit)) o)
      (disk_at units_after c.unit)
      (by_act c e t.outcome (world_of units memory) (disks_of units_after) (act_of c.op memory) refl memory_left
      t.effect_is))

  by_transfer : (t : Option Transfer) → transfer_of c.op ≡ t → steps_at c.unit
  by_transfer None none =
      let blocks : blocks_asked c.op ≡ 0 = ap (λ (t : Option Transfer). option_map_or block_count t 0) none in
      by_effect (it.takes_effect (λ calls.
      let no : false ≡ true =
      sym (ap (λ (n : ℕ). nat_lt 0 n && passes_checks c (world_of units memory)) blocks) ∙ calls in
      absurd (true≢false (sym no))))
  by_transfer (Some t) some =
      let same = it.modes_stay (ap is_some some) in
      stays _ c.unit _ _ (sym (mode_at units_after c.unit)
      ∙ ap (λ (ms : List (Option Mode)). slice_get ms c.unit) same ∙ mode_at units c.unit)

  by_unit : (u : ℕ) → (u ≡ c.unit) ⊎ (u ≢ c.unit) → steps_at u
  by_unit u (inl same) = subst steps_at (sym same) (by_transfer (transfer_of c.op) refl)
  by_unit u (inr other) = stays _ u _ _ (ap mode_of (it.others_stay u other))

  executed : (u : ℕ) → steps_at u
  executed u = by_unit u (cases_eq u c.unit)

-- ---- commands of the compatible profile

-- whether each unit that is online afterwards was so before, or the end message says that it came online
abbrev OnlineSteps : Reply → Units → Units → Type 0
OnlineSteps r units units_after =
    (u : ℕ) → online_at (slice_get units_after u) ≡ true
    → (online_at (slice_get units u) ≡ true) ⊎ ((is_online_now r ≡ true) × (r.unit ≡ u))

set_protection : (asked : Option Bool) (mode : Mode) → (with_protection asked mode).online ≡ mode.online
set_protection None mode = refl
set_protection (Some soft) mode = refl

set_slot : (c : Command) (slot : Slot) → online_at (Some (option_map (unit_set c.op) (unwrap_or slot None))) ≡ online_at slot
set_slot c None = refl
set_slot c (Some None) = refl
set_slot c (Some (Some unit)) = set_protection (protection_asked c.op) unit.mode

-- a changed slot that is as online as before
set_past : (xs : Units) (k : ℕ) (unit : Option UnitState) → slice_get xs k ≡ None → slice_get (set xs k unit) k ≡ None
set_past [] k unit none = refl
set_past (x ∷ xs) zero unit none = absurd (cc)
set_past (x ∷ xs) (suc k) unit none = set_past xs k unit none

set_online : (units : Units) (k : ℕ) (unit : Option UnitState) (slot : Slot) → slice_get units k ≡ slot
    → online_at (Some unit) ≡ online_at slot → online_at (slice_get (set units k unit) k) ≡ true → online_at slot ≡ true
set_online units k unit None here same is =
    absurd (true≢false (sym is ∙ ap online_at (set_past units k unit here)))
set_online units k unit (Some old) here same is =
    let put = slice_get-set_same units k unit (slice_get_within units k old here) in
    sym same ∙ sym (ap online_at put) ∙ is

same_online : (units : Units) (k : ℕ) (unit : Option UnitState)
    → online_at (Some unit) ≡ online_at (slice_get units k) → (u : ℕ) → (u ≡ k) ⊎ (u ≢ k)
    → online_at (slice_get (set units k unit) u) ≡ true → online_at (slice_get units u) ≡ true
same_online units k unit same u (inl here) is =
    subst (λ n. online_at (slice_get units n) ≡ true) (sym here)
    (set_online units k unit (slice_get units k) refl same
    (subst (λ n. online_at (slice_get (set units k unit) n) ≡ true) here is))
same_online units k unit same u (inr other) is =
    sym (ap online_at (slice_get-set_other units k u unit other)) ∙ is

same_units : (r : Reply) (units units_after : Units) → units_after ≡ units → OnlineSteps r units units_after
same_units r units units_after same u is =
    inl (subst (λ (us : Units). online_at (slice_get us u) ≡ true) same is)

compared_mode : (refusal : Option Refusal) (c : Command) (unit : UnitState) (memory : List ℕ) (r : Reply)
    (unit_after : UnitState) → ComparesUnit refusal c unit memory r unit_after → unit_after.mode ≡ unit.mode
compared_mode (Some refusal) c unit memory r unit_after it = ap (λ (x : UnitState). x.mode) it.1
compared_mode None c unit memory r unit_after it = it.1.mode_stays

compared_steps : (slot : Slot) (c : Command) (units : Units) (memory : List ℕ) (r : Reply) (units_after : Units)
    → slice_get units c.unit ≡ slot → ComparesSlot slot c units memory r units_after → OnlineSteps r units units_after
compared_steps None c units memory r units_after here it = same_units r units units_after it.1
compared_steps (Some None) c units memory r units_after here it = same_units r units units_after it.1
compared_steps (Some (Some unit)) c units memory r units_after here it = λ u is.
    let mode = compared_mode (transfer_refusal (compared c.op) (length memory) unit.store.size unit.mode) c unit memory r
    it.0 it.1.1 in
    inl (same_online units c.unit (Some it.0) (ap (λ (m : Mode). m.online) mode ∙ sym (ap online_at here)) u
    (cases_eq u c.unit) (subst (λ (us : Units). online_at (slice_get us u) ≡ true) it.1.0 is))

guest_steps : (op : GuestOp) (c : Command) (units : Units) (memory : List ℕ) (r : Reply) (units_after : Units)
    (memory_left : List ℕ) → ExecutesAs op c units memory r units_after memory_left → OnlineSteps r units units_after
guest_steps guest.Basic c units memory r units_after memory_left it =
    subst (λ (reply : Reply). OnlineSteps reply units units_after) (sym it.reply_is)
    (λ u is. (executed c units memory it.end units_after memory_left it.executes u).online is)
guest_steps guest.SetUnit c units memory r units_after memory_left it = λ u is.
    inl (same_online units c.unit (option_map (unit_set c.op) (unwrap_or (slice_get units c.unit) None))
    (set_slot c (slice_get units c.unit)) u (cases_eq u c.unit)
    (subst (λ (us : Units). online_at (slice_get us u) ≡ true) it.units_are is))
guest_steps guest.Compare c units memory r units_after memory_left it =
    compared_steps (slice_get units c.unit) c units memory r units_after refl it.slot

-- ---- the execution of a pending command

pub online_steps : (profile : Profile) (j : ℕ) (old : ExecState) (memory : List ℕ) (r : Reply) (new : ExecState)
    (memory_after : List ℕ) → ExecutesFor profile j old memory r new memory_after → OnlineSteps r old.units new.units
online_steps Strict j old memory r new memory_after it =
    subst (λ (reply : Reply). OnlineSteps reply old.units new.units) (sym it.reply_is)
    (λ u is. (executed it.executes.command old.units memory it.end new.units memory_after it.executes.executes u).online
    is)
online_steps (Compatible identity) j old memory r new memory_after it =
    guest_steps (op_at old.guest_ops j) it.command old.units memory r new.units memory_after it.executes

-- in the strict profile no available unit is software-protected
pub rest_steps : (j : ℕ) (old : ExecState) (memory : List ℕ) (r : Reply) (new : ExecState) (memory_after : List ℕ)
    → ExecutesFor Strict j old memory r new memory_after → (u : ℕ) → rests_at (slice_get old.units u) ≡ true
    → rests_at (slice_get new.units u) ≡ true
rest_steps j old memory r new memory_after it u is =
    (executed it.executes.command old.units memory it.end new.units memory_after it.executes.executes u).rests is
