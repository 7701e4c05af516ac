-- The units of a controller are faithful, and remain so after each call of its port.
use Rattle.uda_c.specs.ControllerState.{ControllerState}
use Rattle.uda_c.specs.Controllers.{unit_with, with_store, unit_protected, port_protected}
use Rattle.uda_image.specs.Store.{StoreState}
use Rattle.std.proofs.Common.{◌≡◌, ℕ, zero, suc, Bool, true, false, List, [], ◌∷◌, set, Option, Some, None, refl, sym, ap, ◌∙◌}
use Rattle.std.specs.Prelude.{option_map, slice_get, unwrap_or, if◌then◌else◌}
use Rattle.std.proofs.lemmas.Option.{slice_get-map}
use Rattle.uda_packet.specs.declared.reply.Reply.{Reply}
use Rattle.uda_port.specs.declared.profile.Profile.TheVariants.{Strict, Compatible}
use Rattle.uda_disk.specs.declared.mode.Mode.{Mode}
use Rattle.uda_disk.specs.Units.{UnitState, Units, FixedAttributes, attributes_of, unit_attributes, is_faithful, AllFaithful}
use Rattle.uda_exec.specs.Drives.{DriveState, fresh_unit, reset_unit, in_mode, with_drive, with_mode}
use Rattle.uda_exec.specs.Disks.{ExecState}
use Rattle.uda_port.specs.declared.phase.Phase.{Phase}
use Rattle.uda_port.specs.declared.phase.Phase.TheVariants.{Step1, Step2, Step3, PurgeTest, Step4, Running}
use Rattle.uda_port.specs.declared.profile.Profile.{Profile}
use Rattle.uda_port.specs.declared.turn.Turn.{Turn}
use Rattle.uda_port.specs.Port.{PortState, port_restarted, port_after_ip_read, port_with_drive, drive_put, protected_drive, read_only_at}
use Rattle.uda_port.specs.Startup.{has_bit, after_wrap_request, area_of, has_area, refuses_second, refuses_third, asks_test, after_sa_write}
use Rattle.uda_port.specs.declared.memory_use.Missing.{Missing}
use Rattle.uda_port.specs.declared.turn_at.Fate.{Fate}
use Rattle.uda_port.specs.declared.turn_at.Fate.TheVariants.{Usual, FailsInFetch, FailsLater, WithoutBuffer}
use Rattle.uda_port.specs.MemoryUse.{EffectBy, EffectWithout, fate_of}
use Rattle.uda_port.specs.StartupUse.{WordEffect}
use Rattle.uda_port.specs.Plan.{Step}
use Rattle.uda_port.specs.Turn.{ExecutesFor, TurnEffect}
use Rattle.uda_port.proofs.PlanLaws.{case_of, Outcome, Executing, Other, outcome}

-- ---- a change that keeps the fixed attributes of all units keeps them faithful

abbrev all_attributes : PortState → List (Option FixedAttributes)
all_attributes port = unit_attributes port.exec.units

abbrev nature_faithful : Option (Option FixedAttributes) → Bool
nature_faithful (Some (Some attributes)) = attributes.faithful
nature_faithful _ = true

by_nature : (o : Option (Option UnitState))
    → is_faithful o ≡ nature_faithful (option_map (option_map attributes_of) o)
by_nature (Some (Some unit)) = refl
by_nature (Some None) = refl
by_nature None = refl

of_natures : (units : Units) (u : ℕ) → is_faithful (slice_get units u) ≡ nature_faithful (slice_get
    (unit_attributes units) u)
of_natures units u = by_nature (slice_get units u)
    ∙ ap nature_faithful (sym (slice_get-map (option_map attributes_of) units u))

along : (old new : PortState) → all_attributes new ≡ all_attributes old → AllFaithful old.exec.units
    → AllFaithful new.exec.units
along old new same all u = of_natures new.exec.units u
    ∙ ap (λ (ns : List (Option FixedAttributes)). nature_faithful (slice_get ns u)) same
    ∙ sym (of_natures old.exec.units u) ∙ all u

-- ---- a turn

executed_natures : (profile : Profile) (j : ℕ) (old : ExecState) (memory : List ℕ) (r : Reply)
    (new : ExecState) (after : List ℕ) → ExecutesFor profile j old memory r new after
    → unit_attributes new.units ≡ unit_attributes old.units
executed_natures Strict j old memory r new after done = done.executes.executes.all_attributes_stay
executed_natures (Compatible identity) j old memory r new after done = done.all_attributes_stay

pub turn_natures : (turn : Turn) (old : PortState) (memory : List ℕ) (new : PortState) (after : List ℕ)
    → TurnEffect old.phase old memory turn new after → all_attributes new ≡ all_attributes old
turn_natures turn old memory new after goes = by (outcome (λ j. Unit {0}) turn s (case_of turn s goes))
  where
    s : Step
    s = record { old = old; memory = memory; new = new; memory_after = after }

    by : Outcome (λ j. Unit {0}) turn s → all_attributes new ≡ all_attributes old
    by (Executing plan is j at x) = executed_natures old.profile j old.exec memory x.end new.exec after x.executes
    by (Other none never units) = ap unit_attributes units

pub turn_faithful : (turn : Turn) (old : PortState) (memory : List ℕ) (new : PortState) (after : List ℕ)
    → TurnEffect old.phase old memory turn new after → AllFaithful old.exec.units → AllFaithful new.exec.units
turn_faithful turn old memory new after goes =
    along old new (turn_natures turn old memory new after goes)

-- ---- a turn over memory through map registers

pub effect_natures : (fate : Fate) (place : ℕ) (before : PortState × List ℕ) (turn : Turn) (after : PortState × List ℕ)
    → EffectBy fate place before turn after → all_attributes after.0 ≡ all_attributes before.0
effect_natures Usual place before turn after goes =
    turn_natures turn before.0 before.1 after.0 after.1 goes.goes
effect_natures (FailsInFetch cause) place before turn after goes = ap all_attributes goes.0.died
effect_natures (FailsLater cause) place before turn after goes = ap all_attributes goes.0.died
effect_natures WithoutBuffer place before turn after goes =
    let x = goes.0.executes in
    executed_natures before.0.profile place before.0.exec [] x.end after.0.exec [] x.executes

pub effect_faithful : (missing : Missing) (place : ℕ) (before : PortState × List ℕ) (turn : Turn)
    (after : PortState × List ℕ) → EffectWithout missing place before turn after
    → AllFaithful before.0.exec.units → AllFaithful after.0.exec.units
effect_faithful missing place before turn after goes =
    along before.0 after.0 (effect_natures (fate_of missing before.0 before.1) place before turn after goes)

-- ---- the registers

chosen : (a : Bool) (one other : PortState) (same : List (Option FixedAttributes)) → all_attributes one ≡ same
    → all_attributes other ≡ same
    → all_attributes (if a then one else other) ≡ same
chosen true one other same h k = h
chosen false one other same h k = k

chosen_pair : (a : Bool) (one other : PortState × List ℕ) (same : List (Option FixedAttributes)) → all_attributes one.0 ≡ same
    → all_attributes other.0 ≡ same → all_attributes (if a then one else other).0 ≡ same
chosen_pair true one other same h k = h
chosen_pair false one other same h k = k

wrap_natures : (profile : Profile) (old : PortState) (word : ℕ) → all_attributes (after_wrap_request profile old word)
    ≡ all_attributes old
wrap_natures Strict old word = refl
wrap_natures (Compatible identity) old word = refl

word_natures : (p : Phase) (old : PortState) (memory : List ℕ) (word : ℕ)
    → all_attributes (after_sa_write p old memory word).0 ≡ all_attributes old
word_natures Step1 old memory word =
    chosen (has_bit word 15) _ old _ (chosen (has_bit word 14) _ _ _ (wrap_natures old.profile old word) refl)
    refl
word_natures (Step2 first) old memory word = chosen (refuses_second old.profile word) _ _ _ refl refl
word_natures (Step3 first second) old memory word =
    chosen_pair (refuses_third old.profile word) _ _ _ refl
    (chosen_pair (has_area (area_of old.profile first second word) _) _ _ _
    (chosen (asks_test old.profile word) _ _ _ refl refl) refl)
word_natures PurgeTest old memory word = chosen _ _ old _ refl refl
word_natures Step4 old memory word = chosen (has_bit word 0) _ old _ refl refl
word_natures _ old memory word = refl

pub word_faithful : (old : PortState) (memory : List ℕ) (word : ℕ) (new : PortState) (after : List ℕ)
    → (new, after) ≡ after_sa_write old.phase old memory word → AllFaithful old.exec.units
    → AllFaithful new.exec.units
word_faithful old memory word new after is = along old new
    (ap (λ (x : PortState × List ℕ). all_attributes x.0) is ∙ word_natures old.phase old memory word)

pub word_at_faithful : (missing : Bool) (before : PortState × List ℕ) (word : ℕ) (after : PortState × List ℕ)
    → WordEffect missing before word after → AllFaithful before.0.exec.units → AllFaithful after.0.exec.units
word_at_faithful false before word after is =
    word_faithful before.0 before.1 word after.0 after.1 is
word_at_faithful true before word after is = word_faithful before.0 [] word after.0 [] is.0

asked_natures : (p : Phase) (old : PortState) → all_attributes (port_after_ip_read p old) ≡ all_attributes old
asked_natures Running old = refl
asked_natures _ old = refl

pub asked_faithful : (old new : PortState) → new ≡ port_after_ip_read old.phase old → AllFaithful old.exec.units
    → AllFaithful new.exec.units
asked_faithful old new is = along old new (ap all_attributes is ∙ asked_natures old.phase old)

reset_faithful : (o : Option (Option UnitState)) → is_faithful (option_map reset_unit o) ≡ is_faithful o
reset_faithful (Some (Some unit)) = refl
reset_faithful (Some None) = refl
reset_faithful None = refl

pub start_faithful : (old new : PortState) → new ≡ port_restarted old → AllFaithful old.exec.units
    → AllFaithful new.exec.units
start_faithful old new is all u =
    ap (λ (p : PortState). is_faithful (slice_get p.exec.units u)) is
    ∙ ap is_faithful (slice_get-map reset_unit old.exec.units u)
    ∙ reset_faithful (slice_get old.exec.units u) ∙ all u

pub same_faithful : (old new : PortState) → new.exec ≡ old.exec → AllFaithful old.exec.units
    → AllFaithful new.exec.units
same_faithful old new is = along old new (ap (λ (e : ExecState). unit_attributes e.units) is)

-- ---- drives

set_faithful : (units : Units) (u : ℕ) (x : Option UnitState) → is_faithful (Some x) ≡ true
    → AllFaithful units
    → (k : ℕ) → is_faithful (slice_get (set units u x) k) ≡ true
set_faithful [] u x new all k = all k
set_faithful (y ∷ ys) zero x new all zero = new
set_faithful (y ∷ ys) zero x new all (suc k) = all (suc k)
set_faithful (y ∷ ys) (suc u) x new all zero = all zero
set_faithful (y ∷ ys) (suc u) x new all (suc k) = set_faithful ys u x new (λ j. all (suc j)) k

pub drive_faithful : (old new : PortState) (u : ℕ) (drive : Option DriveState)
    → is_faithful (Some (option_map fresh_unit drive)) ≡ true
    → new ≡ record old { exec = with_drive old.exec u drive } → AllFaithful old.exec.units
    → AllFaithful new.exec.units
drive_faithful old new u drive given is all k =
    ap (λ (p : PortState). is_faithful (slice_get p.exec.units k)) is
    ∙ set_faithful old.exec.units u (option_map fresh_unit drive) given all k

-- the same of a drive whose attachment the guest learns
put_is : (read_only : Bool) (drive : Option DriveState) → is_faithful (Some (option_map fresh_unit drive))
    ≡ true
    → is_faithful (Some (option_map fresh_unit (protected_drive read_only drive))) ≡ true
put_is read_only None given = refl
put_is read_only (Some drive) given = given

pub put_faithful : (old new : PortState) (u : ℕ) (drive : Option DriveState)
    → is_faithful (Some (option_map fresh_unit drive)) ≡ true → new ≡ port_with_drive old u drive
    → AllFaithful old.exec.units → AllFaithful new.exec.units
put_faithful old new u drive given is all k =
    ap (λ (p : PortState). is_faithful (slice_get p.exec.units k)) is
    ∙ set_faithful old.exec.units u (option_map fresh_unit (drive_put old u drive))
    (put_is (read_only_at old u) drive given) all k

moded : (m : Mode) (o : Option (Option UnitState)) → is_faithful o ≡ true
    → is_faithful (Some (in_mode m (unwrap_or o None))) ≡ true
moded m (Some (Some unit)) h = h
moded m (Some None) h = refl
moded m None h = refl

pub mode_faithful : (old new : PortState) (u : ℕ) (m : Mode)
    → new ≡ record old { exec = with_mode old.exec u m } → AllFaithful old.exec.units
    → AllFaithful new.exec.units
mode_faithful old new u m is all k =
    ap (λ (p : PortState). is_faithful (slice_get p.exec.units k)) is
    ∙ set_faithful old.exec.units u _ (moded m (slice_get old.exec.units u) (all u)) all k

changed : (change : StoreState → StoreState) (o : Option (Option UnitState))
    → ((store : StoreState) → (change store).faithful ≡ store.faithful) → is_faithful o ≡ true
    → is_faithful (Some (option_map (unit_with change) (unwrap_or o None))) ≡ true
changed change (Some (Some unit)) keeps h = keeps unit.store ∙ h
changed change (Some None) keeps h = refl
changed change None keeps h = refl

-- a store that is changed
pub changed_faithful : (old new : ControllerState) (u : ℕ) (change : StoreState → StoreState)
    → new ≡ with_store old u change → ((store : StoreState) → (change store).faithful ≡ store.faithful)
    → AllFaithful old.port.exec.units → AllFaithful new.port.exec.units
changed_faithful old new u change is keeps all k =
    ap (λ (c : ControllerState). is_faithful (slice_get c.port.exec.units k)) is
    ∙ set_faithful old.port.exec.units u _ (changed change (slice_get old.port.exec.units u) keeps (all u)) all k

guarded : (hard : Bool) (o : Option (Option UnitState)) → is_faithful o ≡ true
    → is_faithful (Some (option_map (unit_protected hard) (unwrap_or o None))) ≡ true
guarded hard (Some (Some unit)) h = h
guarded hard (Some None) h = refl
guarded hard None h = refl

-- a unit whose write-protect button is moved
pub protected_faithful : (old new : PortState) (u : ℕ) (hard : Bool) → new ≡ port_protected old u hard
    → AllFaithful old.exec.units → AllFaithful new.exec.units
protected_faithful old new u hard is all k =
    ap (λ (p : PortState). is_faithful (slice_get p.exec.units k)) is
    ∙ set_faithful old.exec.units u _ (guarded hard (slice_get old.exec.units u) (all u)) all k

pub none_faithful : (u : ℕ) → is_faithful (slice_get (None ∷ None ∷ None ∷ None ∷ []) u) ≡ true
none_faithful zero = refl
none_faithful (suc zero) = refl
none_faithful (suc (suc zero)) = refl
none_faithful (suc (suc (suc zero))) = refl
none_faithful (suc (suc (suc (suc u)))) = refl
