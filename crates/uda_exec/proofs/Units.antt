-- One command on the units of an executor.
use Rattle.std.proofs.Common.{zero-le, ◌≡◌, ℕ, zero, suc, Bool, true, false, List, ◌∷◌, get_or, set, Option, Some, None, refl, sym, ap, ap₂, ◌∙◌, add-zero}
use Rattle.std.specs.Prelude.{option_map, slice_get, map, ◌&&◌, ◌||◌}
use Rattle.std.proofs.lemmas.List.{map-set, set-get_or}
use Rattle.std.proofs.lemmas.Option.{unwrap_or-slice_get, slice_get_within, slice_get-map}
use Rattle.std.specs.Prelude.{unwrap_or}
use Rattle.uda_exec.specs.SetUnit.{unit_set, protection_asked, with_protection}
use Rattle.std.proofs.lemmas.List.Elements.{All-map, All-set, All-weaker}
use Rattle.uda_packet.specs.declared.command.Op.TheVariants.{Controller}
use Rattle.uda_disk.specs.Status.{SUCCESS}
use Rattle.uda_disk.proofs.Slots.{slice_get-set_same, slice_get-set_other, set-itself}
use Rattle.uda_exec.proofs.Words.{Command, Op, End, Disk, Disks, Act, Refusal, refusal_status, CheckResult, Rejected, Accepted, UnitState, disk_of, disks_of, IsWellFormed, AreWellFormed, reset_unit, is_controller, act_of, TransferOutcome, Done, Mode, disks_by, check_of, is_accepted, passes_checks, effect, reply, plain_body, FixedAttributes, attributes_of, unit_attributes, is_faithful, is_infallible, world_of, check_on, ServesUnit, Executes, disk_by}
use Rattle.uda_image.specs.Store.{is_sound}
use Rattle.uda_image.proofs.SoundLaws.{sound_of_faithful}
use Rattle.uda_disk.specs.Units.{Units, AllFaithful, AllSound, is_sound_at, AreSoundBefore, IsWellFormedIfSound}
use Rattle.uda_exec.specs.Execution.{TakesEffect, TakesEffectOn}
use Rattle.uda_exec.proofs.Calls.{go_none}
use Rattle.uda_exec.proofs.Changes.{changes_nothing, ChangesAt-none}
use Rattle.uda_exec.proofs.Transferred.{Answers-plain, end_of-blank}

-- a property of each unit is unchanged if it is unchanged for the unit that is set
pub map-set_same : {A B : Type 0} (f : A → B) (units : List (Option A)) (i : ℕ) (old new : A)
    → slice_get units i ≡ Some (Some old) → f new ≡ f old
    → map (option_map f) (set units i (Some new)) ≡ map (option_map f) units
map-set_same f units i old new here same =
    rw (map-set (option_map f) units i (Some new), same) (set-itself (map (option_map f) units) i (Some (f old))
    (slice_get-map (option_map f) units i ∙ ap (option_map (option_map f)) here))

-- a question about a unit's fixed attributes has the same answer if the attributes are the same
abbrev asked : (FixedAttributes → Bool) → Option (Option FixedAttributes) → Bool
asked f (Some (Some attributes)) = f attributes
asked f _ = true

asked_faithful : (unit : Option (Option UnitState))
    → asked (λ n. n.faithful) (option_map (option_map attributes_of) unit) ≡ is_faithful unit
asked_faithful (Some (Some unit)) = refl
asked_faithful _ = refl

-- so is that for an infallible unit
abbrev never_fails : FixedAttributes → Bool
never_fails n = n.never_fails.reads && (n.never_fails.writes || n.hard)

asked_sure : (unit : Option (Option UnitState))
    → asked never_fails (option_map (option_map attributes_of) unit) ≡ is_infallible unit
asked_sure (Some (Some unit)) = refl
asked_sure _ = refl

module _ (old new : List (Option UnitState)) (same : unit_attributes new ≡ unit_attributes old) (u : ℕ) where
  attributes_stay : option_map (option_map attributes_of) (slice_get new u) ≡ option_map (option_map attributes_of)
      (slice_get old u)
  attributes_stay = rw (
    ← slice_get-map (option_map attributes_of) new u,
    ← slice_get-map (option_map attributes_of) old u,
    same,
  ) refl

  pub faithful_stays : is_faithful (slice_get new u) ≡ is_faithful (slice_get old u)
  faithful_stays =
      rw (← asked_faithful (slice_get new u), ← asked_faithful (slice_get old u), attributes_stay) refl

  pub sure_stays : is_infallible (slice_get new u) ≡ is_infallible (slice_get old u)
  sure_stays = rw (← asked_sure (slice_get new u), ← asked_sure (slice_get old u), attributes_stay) refl

pub sound_if_faithful : (slot : Option (Option UnitState)) → is_faithful slot ≡ true → is_sound_at slot ≡ true
sound_if_faithful (Some (Some unit)) faithful = sound_of_faithful unit.store faithful
sound_if_faithful _ faithful = refl

-- faithful stores are sound after each request
pub all_sound : (old new : Units) → unit_attributes new ≡ unit_attributes old → AllFaithful old → AllSound new
all_sound old new same faithful =
    λ u. sound_if_faithful (slice_get new u) (faithful_stays old new same u ∙ faithful u)

-- if the store of the unit that is set was sound before, so were all
sound_set : (units : List (Option UnitState)) (i : ℕ) (old new : UnitState) → slice_get units i ≡ Some (Some old)
    → (is_sound new.store ≡ true → is_sound old.store ≡ true) → AreSoundBefore units (set units i (Some new))
sound_set (x ∷ xs) zero old new here before zero sound = ap is_sound_at here ∙ before sound
sound_set (x ∷ xs) (suc i) old new here before (suc u) sound = sound_set xs i old new here before u sound
sound_set _ _ old new here before _ sound = sound

-- the state of a unit
pub slot_in : (units : List (Option UnitState)) (u : ℕ) (slot : Option (Option UnitState)) → slice_get units u
    ≡ slot → slice_get (disks_of units) u ≡ option_map (option_map disk_of) slot
slot_in units u slot here = slice_get-map _ units u ∙ ap (option_map (option_map disk_of)) here

-- a command without an action on a unit, or a rejected one, changes nothing
executes_idle : (c : Command) (units : List (Option UnitState)) (memory : List ℕ) (status : ℕ)
    → passes_checks c (world_of units memory) ≡ false
    → effect Done c (world_of units memory) ≡ (reply c status (plain_body c.op 0), world_of units memory)
    → Executes c units memory (reply c status (plain_body c.op 0)) units memory
executes_idle c units memory status idle stays =
    let takes : TakesEffect c units memory (reply c status (plain_body c.op 0)) units memory = record {
      outcome = Done;
      fits = record { acting = λ lost. absurd (cc); count = tt };
      effect_is = sym stays;
      failures_are = sym (add-zero _);
      calls = rw idle (go_none _);
      infallible = λ never. refl;
    } in
    record {
      answers = Answers-plain c status 0 zero-le;
      memory_stays = changes_nothing memory _ _;
      memory_is_kept = λ unread. refl;
      others_stay = λ u apart. refl;
      all_attributes_stay = refl;
      modes_stay = λ transfers. refl;
      by_checks = record { idle = λ passes_checks. refl; ends = λ transfers acting. absurd (cc) };
      takes_effect = λ trusted. takes;
      sound_before = λ u sound. sound;
      whole_before = λ acting. absurd (cc);
      well_formed_if_sound = λ whole. whole;
      takes_effect_if_sound = λ trusted. takes;
    }

pub executes_controller : (c : Command) (units : List (Option UnitState)) (memory : List ℕ) → is_controller c.op ≡ true
    → Executes c units memory (reply c SUCCESS (plain_body c.op 0)) units memory
executes_controller c units memory speaks = by c.op refl speaks
  where
    by : (o : Op) → c.op ≡ o → is_controller o ≡ true
        → Executes c units memory (reply c SUCCESS (plain_body c.op 0)) units memory
    by Controller is speaks = executes_idle c units memory SUCCESS (rw is refl) (rw is refl)
    by _ is speaks = absurd (cc)

pub executes_rejected : (c : Command) (units : List (Option UnitState)) (memory : List ℕ) (act : Act)
    (refusal : Refusal)
    → act_of c.op memory ≡ Some act → check_of c act (world_of units memory) ≡ Rejected refusal
    → Executes c units memory (reply c (refusal_status refusal) (plain_body c.op 0)) units memory
executes_rejected c units memory act refusal asks is =
    executes_idle c units memory (refusal_status refusal) (rw (asks, is) refl) (rw (asks, is)
    (ap (λ (e : End). (e, world_of units memory)) (end_of-blank c memory act (refusal_status refusal) asks)))

-- the units afterwards, by the unit's disk
disks_by-disk : (o : TransferOutcome) (u : ℕ) (act : Act) (b : CheckResult) (disks : Disks) (disk : Disk)
    → slice_get disks u
    ≡ Some (Some disk)
    → disks_by o (record { unit = u; act = act }) b disks ≡ set disks u (Some (disk_by o act b disk))
disks_by-disk o u act (Accepted d) disks disk here = refl
disks_by-disk o u act (Rejected refusal) disks disk here = sym (set-itself disks u (Some disk) here)

module _ (c : Command) (act : Act) (units : List (Option UnitState)) (memory : List ℕ)
    (unit unit_after : UnitState) (e : End) (memory_left : List ℕ)
    (asks : act_of c.op memory ≡ Some act) (here : slice_get units c.unit ≡ Some (Some unit)) where
  there : slice_get (set units c.unit (Some unit_after)) c.unit ≡ Some (Some unit_after)
  there = slice_get-set_same units c.unit (Some unit_after) (slice_get_within units c.unit (Some unit) here)

  disk_here : slice_get (disks_of units) c.unit ≡ Some (Some (disk_of unit))
  disk_here = slot_in units c.unit (Some (Some unit)) here

  acting : passes_checks c (world_of units memory) ≡ is_accepted (check_on c act unit memory)
  acting = rw (asks, disk_here) refl

  takes_on : TakesEffectOn c act (check_on c act unit memory) unit memory e unit_after memory_left
      → TakesEffect c units memory e (set units c.unit (Some unit_after)) memory_left
  takes_on t =
      let b = check_on c act unit memory in
      let disks_are : disks_of (set units c.unit (Some unit_after)) ≡ disks_by t.outcome
      (record { unit = c.unit; act = act }) b (disks_of units) =
      map-set _ units c.unit (Some unit_after)
      ∙ rw t.disk_is (sym (disks_by-disk t.outcome c.unit act b (disks_of units) (disk_of unit) disk_here)) in
      record {
        outcome = t.outcome;
        fits = rw acting t.fits;
        effect_is = rw (asks, disk_here, ← disks_are) (ap₂ (λ (e : End) (m : List ℕ).
            (e, record { memory = m; disks = disks_of (set units c.unit (Some unit_after)) })) t.end_is t.memory_is);
        failures_are = rw (there, here) t.failures_are;
        calls = rw (there, here, acting) t.calls;
        infallible = λ never. t.infallible (rw here at never);
      }

  pub executes_on : ServesUnit c act unit memory e unit_after memory_left → IsWellFormedIfSound (Some unit)
      → IsWellFormedIfSound (Some unit_after)
      → Executes c units memory e (set units c.unit (Some unit_after)) memory_left
  executes_on s before whole = record {
    answers = s.answers;
    memory_stays = s.memory_stays;
    memory_is_kept = λ unread. ChangesAt-none memory memory_left _ (rw unread at s.memory_stays);
    others_stay = λ u apart. slice_get-set_other units c.unit u (Some unit_after) apart;
    all_attributes_stay = map-set_same attributes_of units c.unit unit unit_after here s.attributes_stay;
    modes_stay = λ transfers. map-set_same (λ (u : UnitState). u.mode) units c.unit unit unit_after here
        (s.mode_stays transfers);
    by_checks = record {
      idle = λ idle. rw (s.unit_stays (sym acting ∙ idle)) (set-itself units c.unit (Some unit) here);
      ends = λ transfers acts_too. s.ends transfers (sym acting ∙ acts_too);
    };
    takes_effect = λ trusted. takes_on (s.takes_effect (λ calls. rw here at (trusted (rw acting calls))));
    sound_before = sound_set units c.unit unit unit_after here s.sound_before;
    whole_before = λ acts. rw here before;
    well_formed_if_sound = All-set IsWellFormedIfSound units c.unit (Some unit_after) whole;
    takes_effect_if_sound = λ trusted.
        takes_on (s.takes_effect_if_sound (λ calls. rw there at (trusted (rw acting calls))));
  }

-- Set Unit Characteristics leaves the fixed attributes of the units unchanged
hard-protection : (soft : Option Bool) (mode : Mode) → (with_protection soft mode).hard ≡ mode.hard
hard-protection None mode = refl
hard-protection (Some soft) mode = refl

attributes_set : (o : Op) (unit : Option UnitState)
    → option_map attributes_of (option_map (unit_set o) unit) ≡ option_map attributes_of unit
attributes_set o None = refl
attributes_set o (Some unit) = rw (hard-protection (protection_asked o) unit.mode) refl

pub natures_set : (o : Op) (units : List (Option UnitState)) (u : ℕ)
    → unit_attributes (set units u (option_map (unit_set o) (unwrap_or (slice_get units u) None)))
    ≡ unit_attributes units
natures_set o units u =
    rw (unwrap_or-slice_get units u None) (map-set (option_map attributes_of) units u _
    ∙ ap (set (unit_attributes units) u) (attributes_set o (get_or units u None))
    ∙ sym (map-set (option_map attributes_of) units u (get_or units u None))
    ∙ ap unit_attributes (set-get_or units u None))

-- a unit that is reset has the same blocks
image_reset : (unit : Option UnitState) → IsWellFormed unit → IsWellFormed (reset_unit unit)
image_reset None holds = tt
image_reset (Some unit) holds = holds

pub images_reset : (units : List (Option UnitState)) → AreWellFormed units → AreWellFormed (map reset_unit units)
images_reset units are = All-map IsWellFormed reset_unit units
    (All-weaker IsWellFormed (λ unit. IsWellFormed (reset_unit unit)) image_reset units are)
