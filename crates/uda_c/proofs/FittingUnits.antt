-- The units of a controller fit its port, and remain so after each call.
use Rattle.std.proofs.Common.{◌≡◌, ◌≢◌, ℕ, ◌<◌, ◌≤◌, ◌⊎◌, inl, inr, zero, suc, Bool, true, false, List, [], ◌∷◌, length, length-set, set, get_or, Option, Some, None, Result, Ok, Err, refl, sym, ap, subst, ◌∙◌, arith}
use Rattle.std.specs.Prelude.{◌&&◌, ◌||◌, not, option_map, slice_get, unwrap_or, if◌then◌else◌, is_some, replicate, ◌==◌}
use Rattle.std.proofs.lemmas.Bool.{and_parts, and_from, or_left, or_right, true≢false, cases_eq, eqb-true}
use Rattle.std.proofs.lemmas.Option.{slice_get-map}
use Rattle.uda_disk.proofs.Slots.{slice_get-set_same, slice_get-set_other}
use Rattle.uda_disk.specs.declared.mode.Mode.{Mode}
use Rattle.uda_disk.specs.Units.{UnitState, Units, FixedAttributes, attributes_of, unit_attributes}
use Rattle.uda_exec.specs.declared.drive_unit.UnitInfo.{UnitInfo}
use Rattle.uda_exec.specs.Drives.{DriveState, drive_in, fresh_unit, reset_unit, info_of, info_at, with_drive}
use Rattle.uda_exec.specs.Saved.{unit_fits as unit_fits_image, units_fit, infos_of, units_restored, has_commands}
use Rattle.uda_packet.specs.declared.drive_type.DriveType.{DriveType}
use Rattle.uda_packet.specs.declared.drive_type.DriveType.TheVariants.{Ra81}
use Rattle.uda_packet.specs.declared.guest_command.GuestCommand.{GuestCommand}
use Rattle.uda_packet.specs.declared.reply.Reply.{Reply}
use Rattle.uda_exec.specs.Commands.{is_controller}
use Rattle.uda_port.specs.declared.guest.Guest.{Guest}
use Rattle.uda_port.specs.declared.packet.Fetched.{Fetched as Packet}
use Rattle.uda_port.specs.declared.interrupt.Interrupts.{Interrupts}
use Rattle.uda_port.specs.declared.phase.Phase.{Phase}
use Rattle.uda_port.specs.declared.phase.Phase.TheVariants.{Step1, Step2, Step3, Wrap, PurgeTest, PollTest, Step4, Running, Dead}
use Rattle.uda_port.specs.declared.phase.Fatal.{Fatal}
use Rattle.uda_port.specs.declared.phase.Fatal.TheVariants.{RingWrite, CreditsExceeded, InvalidConnection, InitializationError}
use Rattle.uda_port.specs.declared.profile.Profile.{Profile}
use Rattle.uda_port.specs.declared.profile.Profile.TheVariants.{Strict, Compatible}
use Rattle.uda_port.specs.declared.turn.Turn.{Turn}
use Rattle.uda_port.specs.Guest.{is_due, attention_set, is_online_now}
use Rattle.uda_port.specs.Message.{message_in, flags_kept}
use Rattle.uda_port.specs.Port.{PortState, port_restarted, port_after_ip_read, port_with_drive, drive_put, read_only_by, read_only_at, attention_due, with_type}
use Rattle.uda_port.specs.Possible.{has_run, is_of_turn, CanDie}
use Rattle.uda_port.specs.declared.saved.Saved.{Saved}
use Rattle.uda_port.specs.declared.saved.RestoreError.{RestoreError}
use Rattle.uda_port.specs.Saved.{RestoreEffect, saved_port}
use Rattle.uda_port.specs.Startup.{has_bit, after_wrap_request, area_of, has_area, refuses_second, refuses_third, asks_test, after_sa_write, failed_port}
use Rattle.uda_port.specs.Plan.{Step, counted, plan_of, Rests, CommandRingLost, Unreadable, Exceeds, BadConnection, Fetches, Executes, DeliversEnd, Notifies, Waits, ResponseRingLost, NoRoom}
use Rattle.uda_port.specs.Turn.{port_turn_on, port_with_message, port_not_polling, may_fetch, ExecutesOne, ExecutesFor, TurnEffect}
use Rattle.uda_port.specs.declared.memory_use.Missing.{Missing}
use Rattle.uda_port.specs.declared.turn_at.Fate.{Fate}
use Rattle.uda_port.specs.declared.turn_at.Fate.TheVariants.{Usual, FailsInFetch, FailsLater, WithoutBuffer}
use Rattle.uda_port.specs.MemoryUse.{fate_of, CanFail, EffectBy, EffectWithout}
use Rattle.uda_port.specs.StartupUse.{WordEffect}
use Rattle.uda_port.proofs.MemoryUseLaws.{fate_fails, running_fails}
use Rattle.uda_c.specs.ControllerState.{ControllerState}
use Rattle.uda_c.specs.Controllers.{controller_at_start, unit_with, with_store, unit_protected, port_protected}
use Rattle.uda_image.specs.Store.{StoreState}
use Rattle.uda_c.specs.Fits.{UnitNotice, unit_fits, notice_of, fits_at, is_as_attached, can_rest, image_fits, FitsController, numbers_fit, fits_in, fits_controller}
use Rattle.uda_c.proofs.FaithfulUnits.{turn_natures, effect_natures}
use Rattle.uda_c.proofs.ModeSteps.{online_at, rests_at, online_steps, rest_steps}
use Rattle.uda_port.proofs.PlanLaws.{AnyCase, case_of, units_with}

abbrev AllFit : PortState → Type 0
AllFit port = (u : ℕ) → u < 4 → fits_at port u ≡ true

-- what holds of a unit with an image
record Fits (profile : Profile) (phase : Phase) (n : UnitNotice) (mode : Mode) : Type 0 where
  hard : (not (read_only_by profile (Some n.kind)) || mode.hard) ≡ true
  run : (has_run phase || is_as_attached mode) ≡ true
  told : not (mode.online && n.due) ≡ true
  rests : can_rest profile mode ≡ true

parts_of : (profile : Profile) (phase : Phase) (n : UnitNotice) (info : UnitInfo)
    → image_fits profile phase n info ≡ true → Fits profile phase n info.mode
unfolding image_fits
parts_of profile phase n info is =
    let hard = and_parts (not (read_only_by profile (Some n.kind)) || info.mode.hard) _ is in
    let run = and_parts (has_run phase || is_as_attached info.mode) _ hard.1 in
    let told = and_parts (not (info.mode.online && n.due)) (can_rest profile info.mode) run.1 in
    record { hard = hard.0; run = run.0; told = told.0; rests = told.1 }

fits_of : (profile : Profile) (phase : Phase) (n : UnitNotice) (info : UnitInfo) → Fits profile phase n info.mode
    → image_fits profile phase n info ≡ true
unfolding image_fits
fits_of profile phase n info fits =
    and_from (not (read_only_by profile (Some n.kind)) || info.mode.hard) _ fits.hard
    (and_from (has_run phase || is_as_attached info.mode) _ fits.run
    (and_from (not (info.mode.online && n.due)) (can_rest profile info.mode) fits.told fits.rests))

-- ---- attention messages

-- fewer are due
abbrev IsLess : List Bool → List Bool → Type 0
IsLess new old = (u : ℕ) → is_due new u ≡ true → is_due old u ≡ true

same_due : (dues : List Bool) → IsLess dues dues
same_due dues u is = is

none_at : (dues : List Bool) (u : ℕ) → is_due (set dues u false) u ≡ false
none_at [] u = refl
none_at (a ∷ dues) zero = refl
none_at (a ∷ dues) (suc u) = none_at dues u

unset_less : (dues : List Bool) (drive : ℕ) → IsLess (set dues drive false) dues
unset_less [] drive u is = is
unset_less (a ∷ dues) zero zero is = absurd (true≢false (sym is))
unset_less (a ∷ dues) zero (suc u) is = is
unset_less (a ∷ dues) (suc drive) zero is = is
unset_less (a ∷ dues) (suc drive) (suc u) is = unset_less dues drive u is

other_due : (dues : List Bool) (drive u : ℕ) (due : Bool) → u ≢ drive → is_due (set dues drive due) u ≡ is_due dues u
other_due dues drive u due other = ap (λ (o : Option Bool). unwrap_or o false) (slice_get-set_other dues drive u due other)

none_at_start : (u : ℕ) → is_due (replicate 4 false) u ≡ false
none_at_start zero = refl
none_at_start (suc zero) = refl
none_at_start (suc (suc zero)) = refl
none_at_start (suc (suc (suc zero))) = refl
none_at_start (suc (suc (suc (suc u)))) = refl

-- ---- a turn

-- a unit that is online while an attention message is due for it was online before
abbrev OnlineBefore : PortState → PortState → Type 0
OnlineBefore old new =
    (u : ℕ) → is_due new.guest.attentions u ≡ true → online_at (slice_get new.exec.units u) ≡ true
    → online_at (slice_get old.exec.units u) ≡ true

-- in the strict profile no available unit becomes software-protected
abbrev RestsAfter : PortState → PortState → Type 0
RestsAfter old new =
    old.profile ≡ Strict → (u : ℕ) → rests_at (slice_get old.exec.units u) ≡ true
    → rests_at (slice_get new.exec.units u) ≡ true

same_online : (old new : PortState) → new.exec.units ≡ old.exec.units → OnlineBefore old new
same_online old new same u due is = sym (ap (λ (us : Units). online_at (slice_get us u)) same) ∙ is

same_rests : (old new : PortState) → new.exec.units ≡ old.exec.units → RestsAfter old new
same_rests old new same strict u is = ap (λ (us : Units). rests_at (slice_get us u)) same ∙ is

-- a port that has run has the same units, but their modes, and no more attention messages are due
record Keeps (old new : PortState) : Type 0 where
  profile : new.profile ≡ old.profile
  kinds : new.guest.types ≡ old.guest.types
  less : IsLess new.guest.attentions old.guest.attentions
  attributes : unit_attributes new.exec.units ≡ unit_attributes old.exec.units
  run : has_run new.phase ≡ true
  online : OnlineBefore old new
  rests : RestsAfter old new

not_due : (old new : Bool) → (new ≡ true → old ≡ true) → not old ≡ true → not new ≡ true
not_due old true less none = absurd (true≢false (sym none ∙ ap not (less refl)))
not_due old false less none = refl

abbrev attributes_at : Option (Option UnitState) → Option (Option FixedAttributes)
attributes_at o = option_map (option_map attributes_of) o

abbrev hard_at : Option (Option FixedAttributes) → Bool
hard_at (Some (Some attributes)) = attributes.hard
hard_at _ = false

abbrev is_there : Option (Option FixedAttributes) → Bool
is_there (Some (Some attributes)) = true
is_there _ = false

kept_told : (x due y new : Bool) → (new ≡ true → due ≡ true) → (new ≡ true → y ≡ true → x ≡ true)
    → not (x && due) ≡ true → not (y && new) ≡ true
kept_told x due false new less before is = refl
kept_told x due true false less before is = refl
kept_told x due true true less before is =
    let no : not (true && true) ≡ true = subst (λ (b : Bool). not (b && true) ≡ true) (before refl refl)
    (subst (λ (b : Bool). not (x && b) ≡ true) (less refl) is) in
    absurd (true≢false (sym no))

kept_rests : (profile : Profile) (x y : Mode)
    → (profile ≡ Strict → can_rest Strict x ≡ true → can_rest Strict y ≡ true) → can_rest profile x ≡ true
    → can_rest profile y ≡ true
kept_rests Strict x y rests is = rests refl is
kept_rests (Compatible identity) x y rests is = refl

-- what a step keeps of one unit
record KeepsUnit (profile : Profile) (next : Phase) (n m : UnitNotice) (a b : Option (Option UnitState)) : Type 0 where
  kind : m.kind ≡ n.kind
  less : m.due ≡ true → n.due ≡ true
  same : attributes_at b ≡ attributes_at a
  run : has_run next ≡ true
  online : m.due ≡ true → online_at b ≡ true → online_at a ≡ true
  rests : profile ≡ Strict → rests_at a ≡ true → rests_at b ≡ true

kept_at : (profile : Profile) (phase next : Phase) (n m : UnitNotice) (a b : Option (Option UnitState))
    → KeepsUnit profile next n m a b → unit_fits profile phase n (info_at a) ≡ true
    → unit_fits profile next m (info_at b) ≡ true
kept_at profile phase next n m (Some (Some x)) (Some (Some y)) k is =
    let parts = parts_of profile phase n (info_of x) is in
    let hard : y.mode.hard ≡ x.mode.hard = ap hard_at k.same in
    fits_of profile next m (info_of y) (record {
      hard = rw (k.kind, hard) parts.hard;
      run = or_left (has_run next) (is_as_attached y.mode) k.run;
      told = kept_told x.mode.online n.due y.mode.online m.due k.less k.online parts.told;
      rests = kept_rests profile x.mode y.mode k.rests parts.rests;
    })
kept_at profile phase next n m (Some (Some x)) (Some None) k is =
    absurd (true≢false (sym (ap is_there k.same)))
kept_at profile phase next n m (Some (Some x)) None k is =
    absurd (true≢false (sym (ap is_there k.same)))
kept_at profile phase next n m (Some None) (Some (Some y)) k is =
    absurd (true≢false (ap is_there k.same))
kept_at profile phase next n m None (Some (Some y)) k is =
    absurd (true≢false (ap is_there k.same))
kept_at profile phase next n m (Some None) (Some None) k is = not_due n.due m.due k.less is
kept_at profile phase next n m (Some None) None k is = not_due n.due m.due k.less is
kept_at profile phase next n m None (Some None) k is = not_due n.due m.due k.less is
kept_at profile phase next n m None None k is = not_due n.due m.due k.less is

attributes_of_slot : (units : Units) (u : ℕ)
    → attributes_at (slice_get units u) ≡ slice_get (unit_attributes units) u
attributes_of_slot units u = sym (slice_get-map (option_map attributes_of) units u)

kept_fits : (old new : PortState) → Keeps old new → AllFit old → AllFit new
kept_fits old new keeps all u less =
    let kind = ap (λ (ks : List DriveType). get_or ks u Ra81) keeps.kinds in
    let same = attributes_of_slot new.exec.units u
    ∙ ap (λ (xs : List (Option FixedAttributes)). slice_get xs u) keeps.attributes
    ∙ sym (attributes_of_slot old.exec.units u) in
    subst (λ (p : Profile). unit_fits p new.phase (notice_of new.guest.types new.guest.attentions u)
    (info_at (slice_get new.exec.units u)) ≡ true) (sym keeps.profile)
    (kept_at old.profile old.phase new.phase (notice_of old.guest.types old.guest.attentions u)
    (notice_of new.guest.types new.guest.attentions u) (slice_get old.exec.units u) (slice_get new.exec.units u)
    (record {
      kind = kind;
      less = keeps.less u;
      same = same;
      run = keeps.run;
      online = keeps.online u;
      rests = λ strict. keeps.rests strict u;
    }) (all u less))

-- what a fetch does to the drive types and the due attention messages
flags_kinds : (profile : Profile) (p : Packet) (m : Result GuestCommand Reply) (g : Guest)
    → (flags_kept profile p m g).types ≡ g.types
flags_kinds Strict p m g = refl
flags_kinds (Compatible identity) p (Err reply) g = refl
flags_kinds (Compatible identity) p (Ok c) g = if_kinds (is_controller c.command.op) _ g
  where
    if_kinds : (set : Bool) (flags : ℕ) (g : Guest) → (if set then record g { flags = flags } else g).types ≡ g.types
    if_kinds true flags g = refl
    if_kinds false flags g = refl

flags_due : (profile : Profile) (p : Packet) (m : Result GuestCommand Reply) (g : Guest)
    → (flags_kept profile p m g).attentions ≡ g.attentions
flags_due Strict p m g = refl
flags_due (Compatible identity) p (Err reply) g = refl
flags_due (Compatible identity) p (Ok c) g = if_due (is_controller c.command.op) _ g
  where
    if_due : (set : Bool) (flags : ℕ) (g : Guest) → (if set then record g { flags = flags } else g).attentions ≡ g.attentions
    if_due true flags g = refl
    if_due false flags g = refl

less_by : (new old : List Bool) → new ≡ old → IsLess new old
less_by new old same u is = sym (ap (λ (dues : List Bool). is_due dues u) same) ∙ is

-- what an executed command does to them
after_kinds : (online : Bool) (g : Guest) (drive : ℕ)
    → (if online then attention_set g drive false else g).types ≡ g.types
after_kinds true g drive = refl
after_kinds false g drive = refl

after_less : (online : Bool) (g : Guest) (drive : ℕ)
    → IsLess (if online then attention_set g drive false else g).attentions g.attentions
after_less true g drive = unset_less g.attentions drive
after_less false g drive = same_due g.attentions

run_by : (a b : Phase) → b ≡ a → has_run a ≡ true → has_run b ≡ true
run_by a b same is = ap has_run same ∙ is

message_profile : (old : PortState) (m : Result GuestCommand Reply) → (port_with_message old m).profile ≡ old.profile
message_profile old (Ok c) = refl
message_profile old (Err r) = refl

message_phase : (old : PortState) (m : Result GuestCommand Reply) → (port_with_message old m).phase ≡ old.phase
message_phase old (Ok c) = refl
message_phase old (Err r) = refl

-- an Online that ends its unit's being available drops its attention message
told_online : (online : Bool) (g : Guest) (drive u : ℕ) → online ≡ true → drive ≡ u
    → is_due (if online then attention_set g drive false else g).attentions u ≡ false
told_online true g drive u is here =
    subst (λ (k : ℕ). is_due (set g.attentions drive false) k ≡ false) here (none_at g.attentions drive)
told_online false g drive u is here = absurd (true≢false (sym is))

executed_online : (j : ℕ) (old : PortState) (memory : List ℕ) (new : PortState) (after : List ℕ)
    → ExecutesOne j (port_not_polling (port_turn_on old)) memory new after → OnlineBefore old new
executed_online j old memory new after goes u due is =
    by (online_steps old.profile j old.exec memory goes.end new.exec after goes.executes u is)
  where
    by : (online_at (slice_get old.exec.units u) ≡ true) ⊎ ((is_online_now goes.end ≡ true) × (goes.end.unit ≡ u))
        → online_at (slice_get old.exec.units u) ≡ true
    by (inl before) = before
    by (inr now) =
        let gone = ap (λ (p : PortState). is_due p.guest.attentions u) goes.others
        ∙ told_online (is_online_now goes.end) old.guest goes.end.unit u now.0 now.1 in
        absurd (true≢false (sym due ∙ gone))

executed_keeps : (j : ℕ) (old : PortState) (memory : List ℕ) (new : PortState) (after : List ℕ)
    → old.phase ≡ Running → ExecutesOne j (port_not_polling (port_turn_on old)) memory new after
    → unit_attributes new.exec.units ≡ unit_attributes old.exec.units → Keeps old new
executed_keeps j old memory new after runs goes same = record {
  profile = ap (λ (p : PortState). p.profile) goes.others;
  kinds = ap (λ (p : PortState). p.guest.types) goes.others
      ∙ after_kinds (is_online_now goes.end) old.guest goes.end.unit;
  less = λ u is. after_less (is_online_now goes.end) old.guest goes.end.unit u
      (sym (ap (λ (p : PortState). is_due p.guest.attentions u) goes.others) ∙ is);
  attributes = same;
  run = run_by Running new.phase (ap (λ (p : PortState). p.phase) goes.others ∙ runs) refl;
  online = executed_online j old memory new after goes;
  rests = λ strict u is.
      let strictly = subst (λ (p : Profile). ExecutesFor p j old.exec memory goes.end new.exec after) strict goes.executes in
      rest_steps j old.exec memory goes.end new.exec after strictly u is;
}

-- a port that has run, and keeps its units, is this now
left : (old new now : PortState) → new ≡ now → now.profile ≡ old.profile → now.guest.types ≡ old.guest.types
    → IsLess now.guest.attentions old.guest.attentions → now.exec.units ≡ old.exec.units → has_run now.phase ≡ true
    → Keeps old new
left old new now is profile kinds less units run = subst (Keeps old) (sym is) (record {
  profile = profile;
  kinds = kinds;
  less = less;
  attributes = ap unit_attributes units;
  run = run;
  online = same_online old now units;
  rests = same_rests old now units;
})

failing_keeps : (cause : Fatal) (old new : PortState) → is_of_turn cause ≡ true
    → new ≡ failed_port old cause → Keeps old new
failing_keeps cause old new of_turn died = left old new _ died refl refl (same_due old.guest.attentions) refl of_turn

turn_keeps : (turn : Turn) (s : Step) → unit_attributes s.new.exec.units ≡ unit_attributes s.old.exec.units
    → AnyCase turn s → (s.new ≡ s.old) ⊎ Keeps s.old s.new
turn_keeps turn s same c = by c
  where
    -- the port is this now, and runs as before, or died
    kept : (now : PortState) → s.new ≡ now → now.profile ≡ s.old.profile → now.guest ≡ s.old.guest
        → now.exec.units ≡ s.old.exec.units → has_run now.phase ≡ true → (s.new ≡ s.old) ⊎ Keeps s.old s.new
    kept now is profile guest units run =
        inr (left s.old s.new now is profile (ap (λ (g : Guest). g.types) guest)
        (less_by _ _ (ap (λ (g : Guest). g.attentions) guest)) units run)

    by : AnyCase turn s → (s.new ≡ s.old) ⊎ Keeps s.old s.new
    by (Rests rests answer same) = inl same.state
    by (CommandRingLost d line same) = kept _ same.state refl refl refl refl
    by (Unreadable d line same) = kept _ same.state refl refl refl refl
    by (Exceeds d before line is) =
        kept _ (is ∙ ap (λ (p : PortState). failed_port p CreditsExceeded) line.taken.others) refl refl refl refl
    by (BadConnection d before line is) =
        kept _ (is ∙ ap (λ (p : PortState). failed_port p InvalidConnection) line.taken.others) refl refl refl refl
    by (Fetches d line) =
        let m = message_in s.old.profile line.packet in
        inr (left s.old s.new _ line.others (message_profile (counted s) m)
        (flags_kinds s.old.profile line.packet m s.old.guest)
        (less_by _ _ (flags_due s.old.profile line.packet m s.old.guest)) (units_with (counted s) m)
        (ap has_run (message_phase (counted s) m ∙ d.runs)))
    by (Executes d nothing j is line) =
        inr (executed_keeps j s.old s.memory s.new s.memory_after d.runs line same)
    by (DeliversEnd d r line) = kept _ line.others refl refl refl (ap has_run d.runs)
    by (Notifies d r line) =
        inr (left s.old s.new _ line.others refl refl (unset_less s.old.guest.attentions line.drive) refl (ap has_run d.runs))
    by (Waits d r none same) = kept _ same.state refl refl refl (ap has_run d.runs)
    by (ResponseRingLost d r line same) = kept _ same.state refl refl refl refl
    by (NoRoom d r line same) = kept _ same.state refl refl refl refl

fits_by : (old new : PortState) → new.profile ≡ old.profile → AllFit new → FitsController old → FitsController new
fits_by old new profile units is = record { numbers = ap numbers_fit profile ∙ is.numbers; units = units }

pub turn_fits : (turn : Turn) (old : PortState) (memory : List ℕ) (new : PortState) (after : List ℕ)
    → TurnEffect old.phase old memory turn new after → FitsController old → FitsController new
turn_fits turn old memory new after goes fits =
    let s : Step = record { old = old; memory = memory; new = new; memory_after = after } in
    elim (turn_keeps turn s (turn_natures turn old memory new after goes) (case_of turn s goes)) [
      | inl same ↦ subst FitsController (sym same) fits
      | inr keeps ↦ fits_by old new keeps.profile (kept_fits old new keeps fits.units) fits
    ]

-- a turn over memory through map registers
module _ (missing : Missing) (place : ℕ) (turn : Turn) (old : PortState) (memory : List ℕ) (new : PortState)
    (after : List ℕ) (same : unit_attributes new.exec.units ≡ unit_attributes old.exec.units) where
  runs : (fate : Fate) → fate_of missing old memory ≡ fate → (fate ≡ Usual → ⊥) → old.phase ≡ Running
  runs fate is fails = running_fails missing old memory (λ usual. fails (sym is ∙ usual))

  of_turn : (cause : Fatal) → CanDie old.profile old.phase cause → old.phase ≡ Running → is_of_turn cause ≡ true
  of_turn cause can phase = sym can.ran ∙ ap has_run phase

  can : (fate : Fate) → fate_of missing old memory ≡ fate → CanFail old.profile old.phase fate
  can fate is =
      subst (CanFail old.profile old.phase) is
      (fate_fails old.profile old.phase missing (may_fetch old) (plan_of old memory))

  keeps_by : (fate : Fate) → fate_of missing old memory ≡ fate
      → EffectBy fate place (old, memory) turn (new, after) → FitsController old → FitsController new
  keeps_by Usual is goes fits = turn_fits turn old memory new after goes.goes fits
  keeps_by (FailsInFetch cause) is goes fits =
      let phase = runs (FailsInFetch cause) is (λ usual. absurd (cc)) in
      let before = port_turn_on old in
      let keeps = failing_keeps cause before new (of_turn cause (can (FailsInFetch cause) is) phase) goes.0.died in
      fits_by old new keeps.profile (kept_fits before new keeps fits.units) fits
  keeps_by (FailsLater cause) is goes fits =
      let phase = runs (FailsLater cause) is (λ usual. absurd (cc)) in
      let before = port_not_polling (port_turn_on old) in
      let keeps = failing_keeps cause before new (of_turn cause (can (FailsLater cause) is) phase) goes.0.died in
      fits_by old new keeps.profile (kept_fits before new keeps fits.units) fits
  keeps_by WithoutBuffer is goes fits =
      let phase = runs WithoutBuffer is (λ usual. absurd (cc)) in
      let keeps = executed_keeps place old [] new [] phase goes.0.executes same in
      fits_by old new keeps.profile (kept_fits old new keeps fits.units) fits

pub effect_fits : (missing : Missing) (place : ℕ) (before : PortState × List ℕ) (turn : Turn)
    (after : PortState × List ℕ) → EffectWithout missing place before turn after → FitsController before.0
    → FitsController after.0
effect_fits missing place before turn after goes =
    let fate = fate_of missing before.0 before.1 in
    keeps_by missing place turn before.0 before.1 after.0 after.1 (effect_natures fate place before turn after goes)
    fate refl goes

-- ---- the registers

-- only the phase and what isn't the guest's changes, and a port that has run stays so
record Moves (old new : PortState) : Type 0 where
  profile : new.profile ≡ old.profile
  guest : new.guest ≡ old.guest
  exec : new.exec ≡ old.exec
  run : has_run old.phase ≡ true → has_run new.phase ≡ true

or_grow : (a b c : Bool) → (a ≡ true → b ≡ true) → (a || c) ≡ true → (b || c) ≡ true
or_grow true b c grows is = or_left b c (grows refl)
or_grow false b c grows is = or_right b c is

later_fits : (profile : Profile) (phase next : Phase) (n : UnitNotice) (info : Option UnitInfo)
    → (has_run phase ≡ true → has_run next ≡ true) → unit_fits profile phase n info ≡ true
    → unit_fits profile next n info ≡ true
later_fits profile phase next n None run is = is
later_fits profile phase next n (Some info) run is =
    let parts = parts_of profile phase n info is in
    fits_of profile next n info (record {
      hard = parts.hard;
      run = or_grow (has_run phase) (has_run next) (is_as_attached info.mode) run parts.run;
      told = parts.told;
      rests = parts.rests;
    })

moved_fits : (old new : PortState) → Moves old new → FitsController old → FitsController new
moved_fits old new moves is = record {
  numbers = ap numbers_fit moves.profile ∙ is.numbers;
  units = λ u less. rw (moves.profile, moves.guest, moves.exec)
      (later_fits old.profile old.phase new.phase (notice_of old.guest.types old.guest.attentions u)
      (info_at (slice_get old.exec.units u)) moves.run (is.units u less));
}

stays : (old : PortState) → Moves old old
stays old = record { profile = refl; guest = refl; exec = refl; run = λ is. is }

-- from a phase in which no port has run
never_run : (old : PortState) (p q : Phase) → old.phase ≡ p → has_run p ≡ false → has_run old.phase ≡ true
    → has_run q ≡ true
never_run old p q is not_run run = absurd (true≢false (sym run ∙ ap has_run is ∙ not_run))

chosen_moves : (a : Bool) (old one other : PortState) → Moves old one → Moves old other
    → Moves old (if a then one else other)
chosen_moves true old one other h k = h
chosen_moves false old one other h k = k

chosen_pair_moves : (a : Bool) (old : PortState) (one other : PortState × List ℕ) → Moves old one.0
    → Moves old other.0 → Moves old (if a then one else other).0
chosen_pair_moves true old one other h k = h
chosen_pair_moves false old one other h k = k

wrap_moves : (profile : Profile) (old : PortState) (word : ℕ) → old.phase ≡ Step1
    → Moves old (after_wrap_request profile old word)
wrap_moves Strict old word is =
    record { profile = refl; guest = refl; exec = refl; run = never_run old Step1 (Dead InitializationError) is refl }
wrap_moves (Compatible identity) old word is =
    record { profile = refl; guest = refl; exec = refl; run = never_run old Step1 (Wrap word) is refl }

word_moves : (p : Phase) (old : PortState) (memory : List ℕ) (word : ℕ) → old.phase ≡ p
    → Moves old (after_sa_write p old memory word).0
word_moves Step1 old memory word is =
    chosen_moves (has_bit word 15) old _ old
    (chosen_moves (has_bit word 14) old _ _ (wrap_moves old.profile old word is)
    (record { profile = refl; guest = refl; exec = refl; run = never_run old Step1 (Step2 word) is refl }))
    (stays old)
word_moves (Step2 first) old memory word is =
    chosen_moves (refuses_second old.profile word) old _ _
    (record { profile = refl; guest = refl; exec = refl; run = never_run old (Step2 first) (Dead InitializationError) is refl })
    (record { profile = refl; guest = refl; exec = refl; run = never_run old (Step2 first) (Step3 first word) is refl })
word_moves (Step3 first second) old memory word is =
    chosen_pair_moves (refuses_third old.profile word) old _ _
    (record { profile = refl; guest = refl; exec = refl; run = never_run old (Step3 first second) (Dead InitializationError) is refl })
    (chosen_pair_moves (has_area (area_of old.profile first second word) _) old _ _
    (chosen_moves (asks_test old.profile word) old _ _
    (record { profile = refl; guest = refl; exec = refl; run = never_run old (Step3 first second) PurgeTest is refl })
    (record { profile = refl; guest = refl; exec = refl; run = never_run old (Step3 first second) Step4 is refl }))
    (record { profile = refl; guest = refl; exec = refl; run = never_run old (Step3 first second) (Dead RingWrite) is refl }))
word_moves PurgeTest old memory word is =
    chosen_moves _ old _ old
    (record { profile = refl; guest = refl; exec = refl; run = never_run old PurgeTest PollTest is refl }) (stays old)
word_moves PollTest old memory word is = stays old
word_moves Step4 old memory word is =
    chosen_moves (has_bit word 0) old _ old
    (record { profile = refl; guest = refl; exec = refl; run = λ run. refl }) (stays old)
word_moves Running old memory word is = stays old
word_moves (Dead cause) old memory word is = stays old
word_moves (Wrap before) old memory word is =
    record { profile = refl; guest = refl; exec = refl; run = never_run old (Wrap before) (Wrap word) is refl }

pub word_fits : (old : PortState) (memory : List ℕ) (word : ℕ) (new : PortState) (after : List ℕ)
    → (new, after) ≡ after_sa_write old.phase old memory word → FitsController old → FitsController new
word_fits old memory word new after is fits =
    subst FitsController (sym (ap (λ (x : PortState × List ℕ). x.0) is))
    (moved_fits old (after_sa_write old.phase old memory word).0 (word_moves old.phase old memory word refl) fits)

pub word_at_fits : (missing : Bool) (before : PortState × List ℕ) (word : ℕ) (after : PortState × List ℕ)
    → WordEffect missing before word after → FitsController before.0 → FitsController after.0
word_at_fits false before word after is = word_fits before.0 before.1 word after.0 after.1 is
word_at_fits true before word after is = word_fits before.0 [] word after.0 [] is.0

asked_moves : (p : Phase) (old : PortState) → old.phase ≡ p → Moves old (port_after_ip_read p old)
asked_moves Running old is = record { profile = refl; guest = refl; exec = refl; run = λ run. run }
asked_moves PollTest old is =
    record { profile = refl; guest = refl; exec = refl; run = never_run old PollTest Step4 is refl }
asked_moves _ old is = stays old

pub asked_fits : (old new : PortState) → new ≡ port_after_ip_read old.phase old → FitsController old
    → FitsController new
asked_fits old new is fits =
    subst FitsController (sym is) (moved_fits old (port_after_ip_read old.phase old) (asked_moves old.phase old refl) fits)

pub served_fits : (old new : PortState) (i : Interrupts) → new ≡ record old { interrupts = i } → FitsController old
    → FitsController new
served_fits old new i is fits =
    subst FitsController (sym is)
    (moved_fits old (record old { interrupts = i }) (record { profile = refl; guest = refl; exec = refl; run = λ run. run }) fits)

-- a unit as it was attached
fresh_rests : (profile : Profile) (hard : Bool)
    → can_rest profile (record { online = false; hard = hard; soft = false }) ≡ true
fresh_rests Strict hard = refl
fresh_rests (Compatible identity) hard = refl

-- a write to IP
started_at : (profile : Profile) (phase : Phase) (n m : UnitNotice) (slot : Option (Option UnitState))
    → m.kind ≡ n.kind → m.due ≡ false → unit_fits profile phase n (info_at slot) ≡ true
    → unit_fits profile Step1 m (info_at (option_map reset_unit slot)) ≡ true
started_at profile phase n m (Some (Some unit)) kind none is =
    let parts = parts_of profile phase n (info_of unit) is in
    fits_of profile Step1 m (info_of (fresh_unit (drive_in unit))) (record {
      hard = rw kind parts.hard;
      run = refl;
      told = refl;
      rests = fresh_rests profile unit.mode.hard;
    })
started_at profile phase n m (Some None) kind none is = ap not none
started_at profile phase n m None kind none is = ap not none

pub start_fits : (old new : PortState) → new ≡ port_restarted old → FitsController old → FitsController new
start_fits old new is fits = subst FitsController (sym is) (record {
  numbers = fits.numbers;
  units = λ u less. subst (λ (o : Option (Option UnitState)). unit_fits old.profile Step1
      (notice_of old.guest.types (replicate 4 false) u) (info_at o) ≡ true)
      (sym (slice_get-map reset_unit old.exec.units u))
      (started_at old.profile old.phase (notice_of old.guest.types old.guest.attentions u)
      (notice_of old.guest.types (replicate 4 false) u) (slice_get old.exec.units u) refl (none_at_start u) (fits.units u less));
})

-- ---- drives

protects_or : (r h : Bool) → (not r || (r || h)) ≡ true
protects_or true h = refl
protects_or false h = refl

protected_by : (profile : Profile) (kinds : List DriveType) (u : ℕ) (hard : Bool)
    → (not (read_only_by profile (Some (get_or kinds u Ra81))) || (read_only_by profile (slice_get kinds u) || hard)) ≡ true
protected_by profile (kind ∷ kinds) zero hard = protects_or (read_only_by profile (Some kind)) hard
protected_by profile (kind ∷ kinds) (suc u) hard = protected_by profile kinds u hard
protected_by Strict [] u hard = refl
protected_by (Compatible identity) [] u hard = refl

put_drive : (old : PortState) (u : ℕ) (drive : DriveState)
    → unit_fits old.profile old.phase
    (notice_of old.guest.types (set old.guest.attentions u (attention_due old true)) u)
    (info_at (Some (option_map fresh_unit (drive_put old u (Some drive))))) ≡ true
put_drive old u drive =
    let hard = read_only_by old.profile (slice_get old.guest.types u) || drive.hard in
    fits_of old.profile old.phase
    (notice_of old.guest.types (set old.guest.attentions u (attention_due old true)) u)
    (info_of (fresh_unit (record { store = drive.store; hard = hard }))) (record {
      hard = protected_by old.profile old.guest.types u drive.hard;
      run = or_right (has_run old.phase) true refl;
      told = refl;
      rests = fresh_rests old.profile hard;
    })

-- the unit that gets a drive, or none
put_same : (old : PortState) (u : ℕ) (drive : Option DriveState) → u < length old.exec.units
    → fits_at (port_with_drive old u drive) u ≡ true
put_same old u None within =
    let slot = slice_get-set_same old.exec.units u None within in
    rw slot (ap not (none_at old.guest.attentions u))
put_same old u (Some drive) within =
    let slot = slice_get-set_same old.exec.units u (option_map fresh_unit (drive_put old u (Some drive))) within in
    rw slot (put_drive old u drive)

put_at : (old : PortState) (u : ℕ) (drive : Option DriveState) → u < length old.exec.units → (k : ℕ)
    → fits_at old k ≡ true → (k ≡ u) ⊎ (k ≢ u) → fits_at (port_with_drive old u drive) k ≡ true
put_at old u drive within k fits (inl same) =
    subst (λ (j : ℕ). fits_at (port_with_drive old u drive) j ≡ true) (sym same) (put_same old u drive within)
put_at old u drive within k fits (inr other) =
    let slot = slice_get-set_other old.exec.units u k (option_map fresh_unit (drive_put old u drive)) other in
    let due = other_due old.guest.attentions u k (attention_due old (is_some drive)) other in
    rw (slot, due) fits

pub put_fits : (old new : PortState) (u : ℕ) (drive : Option DriveState) → u < length old.exec.units
    → new ≡ port_with_drive old u drive → FitsController old → FitsController new
put_fits old new u drive within is fits = subst FitsController (sym is) (record {
  numbers = fits.numbers;
  units = λ k less. put_at old u drive within k (fits.units k less) (cases_eq k u);
})

-- the same of one of four units
pub put_among_four : (old new : PortState) (u : ℕ) (drive : Option DriveState) → length new.exec.units ≡ 4 → u ≤ 3
    → new ≡ port_with_drive old u drive → FitsController old → FitsController new
put_among_four old new u drive four low is fits =
    let same = ap (λ (p : PortState). length p.exec.units) is
    ∙ length-set old.exec.units u (option_map fresh_unit (drive_put old u drive)) in
    put_fits old new u drive (omega (arith, four, same, low)) is fits

-- ---- drive types

other_kind : (kinds : List DriveType) (u k : ℕ) (kind : DriveType) → k ≢ u
    → get_or (set kinds u kind) k Ra81 ≡ get_or kinds k Ra81
other_kind [] u k kind other = refl
other_kind (x ∷ kinds) zero zero kind other = absurd (other refl)
other_kind (x ∷ kinds) zero (suc k) kind other = refl
other_kind (x ∷ kinds) (suc u) zero kind other = refl
other_kind (x ∷ kinds) (suc u) (suc k) kind other = other_kind kinds u k kind (λ same. other (ap suc same))

-- the type of a unit without a drive
typed_at : (old : PortState) (u : ℕ) (kind : DriveType) → info_at (slice_get old.exec.units u) ≡ None → (k : ℕ)
    → fits_at old k ≡ true → (k ≡ u) ⊎ (k ≢ u) → fits_at (with_type old u kind) k ≡ true
typed_at old u kind empty k fits (inl same) =
    let here : info_at (slice_get old.exec.units k) ≡ None =
    subst (λ (j : ℕ). info_at (slice_get old.exec.units j) ≡ None) (sym same) empty in
    rw here (rw here at fits)
typed_at old u kind empty k fits (inr other) = rw (other_kind old.guest.types u k kind other) fits

pub typed_fits : (old new : PortState) (u : ℕ) (kind : DriveType) → info_at (slice_get old.exec.units u) ≡ None
    → new ≡ with_type old u kind → FitsController old → FitsController new
typed_fits old new u kind empty is fits = subst FitsController (sym is) (record {
  numbers = fits.numbers;
  units = λ k less. typed_at old u kind empty k (fits.units k less) (cases_eq k u);
})

pub typed_if : (set_it : Bool) (old new : PortState) (u : ℕ) (kind : DriveType)
    → (set_it ≡ true → info_at (slice_get old.exec.units u) ≡ None)
    → new ≡ (if set_it then with_type old u kind else old) → FitsController old → FitsController new
typed_if true old new u kind empty is fits = typed_fits old new u kind (empty refl) is fits
typed_if false old new u kind empty is fits = subst FitsController (sym is) fits

pub typed_exec : (set_it : Bool) (old new : PortState) (u : ℕ) (kind : DriveType)
    → new ≡ (if set_it then with_type old u kind else old) → new.exec ≡ old.exec
typed_exec true old new u kind is = ap (λ (p : PortState). p.exec) is
typed_exec false old new u kind is = ap (λ (p : PortState). p.exec) is

-- ---- the write-protect button

rests_as_before : (profile : Profile) (mode : Mode) (hard : Bool) → can_rest profile mode ≡ true
    → can_rest profile (record mode { hard = hard }) ≡ true
rests_as_before Strict mode hard is = is
rests_as_before (Compatible identity) mode hard is = refl

protected_slot : (profile : Profile) (phase : Phase) (n : UnitNotice) (hard : Bool) (slot : Option (Option UnitState))
    → (not (read_only_by profile (Some n.kind)) || hard) ≡ true → unit_fits profile phase n (info_at slot) ≡ true
    → unit_fits profile phase n (info_at (Some (option_map (unit_protected hard) (unwrap_or slot None)))) ≡ true
protected_slot profile phase n hard (Some (Some unit)) may is =
    let parts = parts_of profile phase n (info_of unit) is in
    fits_of profile phase n (info_of (unit_protected hard unit)) (record {
      hard = may;
      run = parts.run;
      told = parts.told;
      rests = rests_as_before profile unit.mode hard parts.rests;
    })
protected_slot profile phase n hard (Some None) may is = is
protected_slot profile phase n hard None may is = is

protected_at : (old : PortState) (u : ℕ) (asked : Bool) → u < length old.exec.units → (k : ℕ)
    → fits_at old k ≡ true → (k ≡ u) ⊎ (k ≢ u)
    → fits_at (port_protected old u (read_only_at old u || asked)) k ≡ true
protected_at old u asked within k fits (inl same) =
    let hard = read_only_at old u || asked in
    let slot = slice_get-set_same old.exec.units u
    (option_map (unit_protected hard) (unwrap_or (slice_get old.exec.units u) None)) within in
    let fits_here : fits_at old u ≡ true = subst (λ (j : ℕ). fits_at old j ≡ true) same fits in
    subst (λ (j : ℕ). fits_at (port_protected old u hard) j ≡ true) (sym same)
    (rw slot (protected_slot old.profile old.phase (notice_of old.guest.types old.guest.attentions u) hard
    (slice_get old.exec.units u) (protected_by old.profile old.guest.types u asked) fits_here))
protected_at old u asked within k fits (inr other) =
    let hard = read_only_at old u || asked in
    let slot = slice_get-set_other old.exec.units u k
    (option_map (unit_protected hard) (unwrap_or (slice_get old.exec.units u) None)) other in
    rw slot fits

-- a unit whose drive was removed is one of four
pub protected_fits : (old out new : PortState) (u : ℕ) (asked : Bool) → length out.exec.units ≡ 4 → u ≤ 3
    → out ≡ record old { exec = with_drive old.exec u None }
    → new ≡ port_protected old u (read_only_at old u || asked) → FitsController old → FitsController new
protected_fits old out new u asked four low out_is is fits =
    let same = ap (λ (p : PortState). length p.exec.units) out_is ∙ length-set old.exec.units u None in
    let within : u < length old.exec.units = omega (arith, four, same, low) in
    subst FitsController (sym is) (record {
      numbers = fits.numbers;
      units = λ k less. protected_at old u asked within k (fits.units k less) (cases_eq k u);
    })

-- ---- changed stores

-- no unit's mode or size changes
changed_infos : (units : Units) (u : ℕ) (change : StoreState → StoreState) (k : ℕ)
    → ((store : StoreState) → (change store).size ≡ store.size)
    → info_at (slice_get (set units u (option_map (unit_with change) (unwrap_or (slice_get units u) None))) k)
    ≡ info_at (slice_get units k)
changed_infos [] u change k keeps = refl
changed_infos (None ∷ units) zero change zero keeps = refl
changed_infos (Some unit ∷ units) zero change zero keeps =
    ap (λ (size : ℕ). Some (record { mode = unit.mode; size = size })) (keeps unit.store)
changed_infos (x ∷ units) zero change (suc k) keeps = refl
changed_infos (x ∷ units) (suc u) change zero keeps = refl
changed_infos (x ∷ units) (suc u) change (suc k) keeps = changed_infos units u change k keeps

pub changed_fits : (old new : ControllerState) (u : ℕ) (change : StoreState → StoreState)
    → new ≡ with_store old u change → ((store : StoreState) → (change store).size ≡ store.size)
    → FitsController old.port → FitsController new.port
changed_fits old new u change is keeps fits = subst (λ (c : ControllerState). FitsController c.port) (sym is) (record {
  numbers = fits.numbers;
  units = λ k less. rw (changed_infos old.port.exec.units u change k keeps) (fits.units k less);
})

-- ---- a new controller

none_infos : (u : ℕ) → info_at (slice_get (None ∷ None ∷ None ∷ None ∷ []) u) ≡ None
none_infos zero = refl
none_infos (suc zero) = refl
none_infos (suc (suc zero)) = refl
none_infos (suc (suc (suc zero))) = refl
none_infos (suc (suc (suc (suc u)))) = refl

pub new_fits : (profile : Profile) → numbers_fit profile ≡ true → FitsController (controller_at_start profile).port
new_fits profile numbers = record {
  numbers = numbers;
  units = λ u less. rw (none_infos u) (ap not (none_at_start u));
}

-- ---- a restored controller

abbrev look_of : Mode → ℕ → UnitInfo
look_of mode size = record { mode = mode; size = size }

restored_info : (infos : List (Option UnitInfo)) (units : Units) → units_fit infos (infos_of units) ≡ true → (k : ℕ)
    → info_at (slice_get (units_restored infos units) k) ≡ get_or infos k None
restored_info [] [] fit k = refl
restored_info [] (x ∷ units) fit k = absurd (true≢false (sym fit))
restored_info (info ∷ infos) [] fit k = absurd (true≢false (sym fit))
restored_info (None ∷ infos) (None ∷ units) fit zero = refl
restored_info (Some info ∷ infos) (Some unit ∷ units) fit zero =
    let here = (and_parts (unit_fits_image (Some info) (Some (info_of unit))) (units_fit infos (infos_of units)) fit).0 in
    let size : info.size ≡ unit.store.size = eqb-true _ _ (and_parts (info.size == unit.store.size) _ here).0 in
    ap (λ (n : ℕ). Some (look_of info.mode n)) (sym size)
restored_info (None ∷ infos) (Some unit ∷ units) fit zero =
    absurd (true≢false (sym (and_parts false (units_fit infos (infos_of units)) fit).0))
restored_info (Some info ∷ infos) (None ∷ units) fit zero =
    absurd (true≢false (sym (and_parts false (units_fit infos (infos_of units)) fit).0))
restored_info (None ∷ infos) (None ∷ units) fit (suc k) = restored_info infos units fit k
restored_info (Some info ∷ infos) (Some unit ∷ units) fit (suc k) =
    restored_info infos units (and_parts (unit_fits_image (Some info) (Some (info_of unit))) (units_fit infos (infos_of units)) fit).1 k
restored_info (None ∷ infos) (Some unit ∷ units) fit (suc k) =
    absurd (true≢false (sym (and_parts false (units_fit infos (infos_of units)) fit).0))
restored_info (Some info ∷ infos) (None ∷ units) fit (suc k) =
    absurd (true≢false (sym (and_parts false (units_fit infos (infos_of units)) fit).0))

saved_at : (saved : Saved) → fits_controller saved ≡ true → (u : ℕ) → u < 4 → fits_in saved.profile saved.phase saved.guest saved.exec.units u ≡ true
saved_at saved fit u less = by u less
  where
    parts : (fits_in saved.profile saved.phase saved.guest saved.exec.units 0 && (fits_in saved.profile saved.phase saved.guest saved.exec.units 1 && (fits_in saved.profile saved.phase saved.guest saved.exec.units 2 && fits_in saved.profile saved.phase saved.guest saved.exec.units 3))) ≡ true
    parts = (and_parts (numbers_fit saved.profile) _ fit).1

    later : (fits_in saved.profile saved.phase saved.guest saved.exec.units 1 && (fits_in saved.profile saved.phase saved.guest saved.exec.units 2 && fits_in saved.profile saved.phase saved.guest saved.exec.units 3)) ≡ true
    later = (and_parts (fits_in saved.profile saved.phase saved.guest saved.exec.units 0) _ parts).1

    last : (fits_in saved.profile saved.phase saved.guest saved.exec.units 2 && fits_in saved.profile saved.phase saved.guest saved.exec.units 3) ≡ true
    last = (and_parts (fits_in saved.profile saved.phase saved.guest saved.exec.units 1) _ later).1

    by : (u : ℕ) → u < 4 → fits_in saved.profile saved.phase saved.guest saved.exec.units u ≡ true
    by zero less = (and_parts (fits_in saved.profile saved.phase saved.guest saved.exec.units 0) _ parts).0
    by (suc zero) less = (and_parts (fits_in saved.profile saved.phase saved.guest saved.exec.units 1) _ later).0
    by (suc (suc zero)) less = (and_parts (fits_in saved.profile saved.phase saved.guest saved.exec.units 2) (fits_in saved.profile saved.phase saved.guest saved.exec.units 3) last).0
    by (suc (suc (suc zero))) less = (and_parts (fits_in saved.profile saved.phase saved.guest saved.exec.units 2) (fits_in saved.profile saved.phase saved.guest saved.exec.units 3) last).1
    by (suc (suc (suc (suc u)))) less = absurd (omega (arith, less))

pub restored_fits : (saved : Saved) (old : PortState) (result : Result Unit RestoreError) (new : PortState)
    → RestoreEffect saved old result new → fits_controller saved ≡ true → FitsController old → FitsController new
restored_fits saved old (Ok done) new effect fit fits =
    let drives = (and_parts (has_commands saved.exec) (units_fit saved.exec.units (infos_of old.exec.units)) effect.0.drives).1 in
    subst FitsController (sym effect.1) (record {
      numbers = (and_parts (numbers_fit saved.profile) _ fit).0;
      units = λ u less. rw (restored_info saved.exec.units old.exec.units drives u) (saved_at saved fit u less);
    })
restored_fits saved old (Err cause) new effect fit fits = subst FitsController (sym effect.1) fits

-- ---- a saved controller

saved_info : (units : Units) (u : ℕ) → get_or (infos_of units) u None ≡ info_at (slice_get units u)
saved_info [] u = refl
saved_info (None ∷ units) zero = refl
saved_info (Some unit ∷ units) zero = refl
saved_info (x ∷ units) (suc u) = saved_info units u

abbrev saved_in : PortState → ℕ → Bool
saved_in port u =
    fits_in port.profile port.phase port.guest (infos_of port.exec.units) u

saved_unit : (port : PortState) → FitsController port → (u : ℕ) → u < 4 → saved_in port u ≡ true
saved_unit port fits u less = rw (saved_info port.exec.units u) (fits.units u less)

pub saved_fits : (port : PortState) → FitsController port → fits_controller (saved_port port) ≡ true
saved_fits port fits =
    and_from (numbers_fit port.profile) _ fits.numbers
    (and_from (saved_in port 0) _ (saved_unit port fits 0 (omega arith))
    (and_from (saved_in port 1) _ (saved_unit port fits 1 (omega arith))
    (and_from (saved_in port 2) (saved_in port 3)
    (saved_unit port fits 2 (omega arith)) (saved_unit port fits 3 (omega arith)))))
