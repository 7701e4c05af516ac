-- The units of a controller that is saved and restored.
use Rattle.std.proofs.Common.{◌≡◌, ◌≢◌, ℕ, zero, suc, Bool, false, true, List, [], ◌∷◌, length, map, get_or, set, Option, Some, None, Result, Ok, Err}
use Rattle.std.proofs.Common.{refl, sym, ap, ap₂, ◌∙◌, subst, ◌&&◌, arith}
use Rattle.std.specs.Prelude.{option_map, slice_get, unwrap_or, nat_lt}
use Rattle.std.proofs.lemmas.List.{set-get_or}
use Rattle.std.proofs.lemmas.Option.{unwrap_or-slice_get}
use Rattle.uda_disk.specs.Units.{UnitState, is_faithful, AllFaithful}
use Rattle.uda_exec.specs.declared.drive_unit.UnitInfo.{UnitInfo}
use Rattle.uda_exec.specs.Disks.{ExecState}
use Rattle.uda_exec.specs.Drives.{info_of}
use Rattle.uda_exec.specs.Saved.{unit_restored, units_restored, infos_of, has_commands, units_fit, saved_exec}
use Rattle.uda_port.specs.declared.saved.RestoreError.{RestoreError}
use Rattle.uda_port.specs.declared.saved.Saved.{Saved}
use Rattle.uda_port.specs.Port.{PortState}
use Rattle.uda_port.specs.Saved.{saved_port, port_restored, RestoreEffect, SameButCounts}
use Rattle.uda_port.proofs.Saving.{restored_is_saved}
use Rattle.uda_c.specs.declared.call_status.CallStatus.{CallStatus}
use Rattle.uda_c.specs.declared.call_status.CallStatus.TheVariants.{Done, NotAttached, OtherKind}
use Rattle.uda_c.proofs.FittingUnits.{saved_fits}
use Rattle.uda_c.specs.ControllerState.{ControllerState}
use Rattle.uda_c.specs.Controllers.{FailsAt, failing_answer, unit_failing, controller_failing}
use Rattle.uda_c.specs.UnitImage.{is_called}
use Rattle.uda_c.specs.Saving.{failing_call_of, call_of, controller_failing_at, units_failing, calls_have_drives}
use Rattle.uda_c.specs.Saving.{ControllerIsSaved}

pub saved_calls : (units : List (Option UnitState)) → length units ≡ 4
    → failing_call_of (slice_get units 0) ∷ failing_call_of (slice_get units 1)
    ∷ failing_call_of (slice_get units 2)
    ∷ failing_call_of (slice_get units 3) ∷ [] ≡ map call_of units
saved_calls (a ∷ b ∷ c ∷ d ∷ []) four = refl
saved_calls [] four = absurd (cc)
saved_calls (a ∷ []) four = absurd (cc)
saved_calls (a ∷ b ∷ []) four = absurd (cc)
saved_calls (a ∷ b ∷ c ∷ []) four = absurd (cc)
saved_calls (a ∷ b ∷ c ∷ d ∷ e ∷ rest) four = absurd (omega (arith, four))

-- ---- a restored unit is as faithful as before

unit_faithful : (info : Option UnitInfo) (unit : Option UnitState) → is_faithful (Some unit) ≡ true
    → is_faithful (Some (unit_restored info unit)) ≡ true
unit_faithful None unit h = h
unit_faithful (Some info) (Some unit) h = h
unit_faithful (Some info) None h = refl

units_faithful : (infos : List (Option UnitInfo)) (units : List (Option UnitState)) → AllFaithful units
    → (k : ℕ) → is_faithful (slice_get (units_restored infos units) k) ≡ true
units_faithful (info ∷ more) (unit ∷ rest) all zero = unit_faithful info unit (all zero)
units_faithful (info ∷ more) (unit ∷ rest) all (suc k) = units_faithful more rest (λ j. all (suc j)) k
units_faithful (info ∷ more) [] all k = all k
units_faithful [] units all k = all k

pub restored_faithful : (saved : Saved) (old : PortState) (result : Result Unit RestoreError)
    (new : PortState)
    → RestoreEffect saved old result new → AllFaithful old.exec.units → AllFaithful new.exec.units
restored_faithful saved old (Ok done) new effect all k =
    ap (λ (p : PortState). is_faithful (slice_get p.exec.units k)) effect.1
    ∙ units_faithful saved.exec.units old.exec.units all k
restored_faithful saved old (Err cause) new effect all k =
    ap (λ (p : PortState). is_faithful (slice_get p.exec.units k)) effect.1 ∙ all k

-- ---- the failing calls of all units

-- a unit without a drive is as before
no_drive : (units : List (Option UnitState)) (u : ℕ) (call : Option ℕ) → unwrap_or (slice_get units u) None
    ≡ None
    → set units u (option_map (unit_failing call) (unwrap_or (slice_get units u) None)) ≡ units
no_drive units u call none =
    ap (λ (o : Option UnitState). set units u (option_map (unit_failing call) o)) none
    ∙ ap (set units u) (sym none ∙ unwrap_or-slice_get units u None) ∙ set-get_or units u None

-- an image that C reads and writes stays as it is
called_stays : (units : List (Option UnitState)) (u : ℕ) (call : Option ℕ) (unit : UnitState)
    → slice_get units u ≡ Some (Some unit) → is_called unit.store ≡ true
    → set units u (option_map (unit_failing call) (unwrap_or (slice_get units u) None)) ≡ units
called_stays units u call unit here called =
    let same : unit_failing call unit ≡ unit = rw called refl in
    ap (λ (o : Option (Option UnitState)). set units u (option_map (unit_failing call) (unwrap_or o None))) here
    ∙ ap (λ (x : UnitState). set units u (Some x)) same
    ∙ sym (ap (λ (o : Option (Option UnitState)). set units u (unwrap_or o None)) here)
    ∙ ap (set units u) (unwrap_or-slice_get units u None) ∙ set-get_or units u None

fails_by_kind : (old : ControllerState) (u : ℕ) (call : Option ℕ) (answer : CallStatus) (new : ControllerState)
    (unit : UnitState) (called : Bool)
    → FailsAt old u call answer new → nat_lt 3 u ≡ false → slice_get old.port.exec.units u ≡ Some (Some unit)
    → is_called unit.store ≡ called → new ≡ controller_failing old u call
fails_by_kind old u call answer new unit false goes low here kind =
    goes.fails (goes.answer_is ∙ rw (low, here, kind) refl)
fails_by_kind old u call answer new unit true goes low here kind =
    let other : answer ≡ OtherKind = goes.answer_is ∙ rw (low, here, kind) refl in
    goes.refused (λ done. let both : OtherKind ≡ Done = sym other ∙ done in absurd (cc))
    ∙ ap (λ (units : List (Option UnitState)).
    record old { port = record old.port { exec = record old.port.exec { units = units } } })
    (sym (called_stays old.port.exec.units u call unit here kind))

pub unit_fails : (old : ControllerState) (u : ℕ) (call : Option ℕ) (answer : CallStatus)
    (new : ControllerState)
    → FailsAt old u call answer new → nat_lt 3 u ≡ false → new ≡ controller_failing old u call
unit_fails old u call answer new goes low = by (slice_get old.port.exec.units u) refl
  where
    stays : (failing_answer old u ≡ NotAttached) → unwrap_or (slice_get old.port.exec.units u) None ≡ None
        → new ≡ controller_failing old u call
    stays not none =
        let refused : answer ≢ Done = λ e. let both : NotAttached ≡ Done = sym not ∙ sym goes.answer_is
        ∙ e in absurd (cc) in
        goes.refused refused
        ∙ ap (λ (units : List (Option UnitState)).
        record old { port = record old.port { exec = record old.port.exec { units = units } } })
        (sym (no_drive old.port.exec.units u call none))

    by : (slot : Option (Option UnitState)) → slice_get old.port.exec.units u ≡ slot → new
        ≡ controller_failing old u call
    by (Some (Some unit)) here =
        fails_by_kind old u call answer new unit (is_called unit.store) goes low here refl
    by (Some None) here = stays (rw (low, here) refl) (rw here refl)
    by None here = stays (rw (low, here) refl) (rw here refl)

-- one unit after the other
abbrev failing_one_by_one : ControllerState → List (Option ℕ) → ControllerState
failing_one_by_one old calls =
    controller_failing (controller_failing
    (controller_failing (controller_failing old 0 (get_or calls 0 None)) 1
    (get_or calls 1 None)) 2 (get_or calls 2 None)) 3 (get_or calls 3 None)

abbrev listed : List (Option ℕ) → List (Option ℕ)
listed calls = get_or calls 0 None ∷ get_or calls 1 None ∷ get_or calls 2 None ∷ get_or calls 3 None ∷ []

by_four : (calls : List (Option ℕ)) → length calls ≡ 4 → calls ≡ listed calls
by_four (a ∷ b ∷ c ∷ d ∷ []) four = refl
by_four [] four = absurd (cc)
by_four (a ∷ []) four = absurd (cc)
by_four (a ∷ b ∷ []) four = absurd (cc)
by_four (a ∷ b ∷ c ∷ []) four = absurd (cc)
by_four (a ∷ b ∷ c ∷ d ∷ e ∷ rest) four = absurd (omega (arith, four))

pub all_fail : (old : ControllerState) (calls : List (Option ℕ)) → length calls ≡ 4
    → length old.port.exec.units ≡ 4 → failing_one_by_one old calls ≡ controller_failing_at calls old
all_fail old calls four_calls four =
    by old.port.exec.units refl four
    ∙ ap (λ (cs : List (Option ℕ)). controller_failing_at cs old) (sym (by_four calls four_calls))
  where
    by : (units : List (Option UnitState)) → old.port.exec.units ≡ units → length units ≡ 4
        → failing_one_by_one old calls ≡ controller_failing_at (listed calls) old
    by (w ∷ x ∷ y ∷ z ∷ []) is four = rw is refl
    by [] is four = absurd (cc)
    by (w ∷ []) is four = absurd (cc)
    by (w ∷ x ∷ []) is four = absurd (cc)
    by (w ∷ x ∷ y ∷ []) is four = absurd (cc)
    by (w ∷ x ∷ y ∷ z ∷ v ∷ rest) is four = absurd (omega (arith, four))

-- ---- the law

-- a change of failing calls keeps modes and sizes
same_infos : (calls : List (Option ℕ)) (units : List (Option UnitState))
    → infos_of (units_failing calls units) ≡ infos_of units
same_infos (call ∷ more) (Some unit ∷ rest) = ap (λ (t : List (Option UnitInfo)). Some (info_of unit) ∷ t)
    (same_infos more rest)
same_infos (call ∷ more) (None ∷ rest) = ap (λ (t : List (Option UnitInfo)). None ∷ t) (same_infos more rest)
same_infos [] units = refl
same_infos (call ∷ more) [] = refl

-- the modes and the failing calls can be set in either order
either_order : (infos : List (Option UnitInfo)) (calls : List (Option ℕ)) (units : List (Option UnitState))
    → units_failing calls (units_restored infos units) ≡ units_restored infos (units_failing calls units)
either_order (info ∷ infos) (call ∷ calls) (unit ∷ units) =
    ap₂ (λ (u : Option UnitState) (us : List (Option UnitState)). u ∷ us) (one info call unit)
    (either_order infos calls units)
  where
    one : (info : Option UnitInfo) (call : Option ℕ) (unit : Option UnitState)
        → option_map (unit_failing call) (unit_restored info unit)
        ≡ unit_restored info (option_map (unit_failing call) unit)
    one None call unit = refl
    one (Some info) call (Some unit) = refl
    one (Some info) call None = refl
either_order [] calls units = refl
either_order (info ∷ infos) [] units = refl
either_order (info ∷ infos) (call ∷ calls) [] = refl

-- a call that is saved is one of a unit with a drive
saved_drives : (units : List (Option UnitState)) → calls_have_drives (infos_of units) (map call_of units)
    ≡ true
saved_drives [] = refl
saved_drives (Some unit ∷ rest) = saved_drives rest
saved_drives (None ∷ rest) = saved_drives rest

pub controller_is_saved : ControllerIsSaved
controller_is_saved saved here listed images =
    let calls = map call_of saved.port.exec.units in
    let exec : ExecState
    = record here.port.exec
    { units = units_failing (map call_of saved.port.exec.units) here.port.exec.units } in
    let restored = restored_is_saved saved.port exec listed images in
    let kept = saved_port saved.port in
    record {
      drives = saved_drives saved.port.exec.units;
      fits = ap (λ (infos : List (Option UnitInfo)). has_commands (saved_exec saved.port.exec)
          && units_fit (infos_of saved.port.exec.units) infos)
          (sym (same_infos (map call_of saved.port.exec.units) here.port.exec.units)) ∙ restored.drives;
      units = saved_fits saved.port;
      same = subst (λ (units : List (Option UnitState)). SameButCounts saved.port
          (record (port_restored (saved_port saved.port) here.port.exec) {
            exec = record (port_restored (saved_port saved.port) here.port.exec).exec { units = units };
          }))
          (sym (either_order (infos_of saved.port.exec.units)
          (map call_of saved.port.exec.units) here.port.exec.units))
          restored.same;
    }
