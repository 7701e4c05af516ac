-- A unit whose image is changed: its drive is removed, changed and put back, and all else is unchanged.
use Rattle.std.specs.Prelude.{Result, Ok, Err, is_ok, IfOk, IfErr, length, ◌+◌, ◌/◌, ◌%◌, ◌≤◌}
use Rattle.std.proofs.Common.{◌≡◌, ◌≢◌, ℕ, Bool, true, false, List, subst, set, Option, Some, None, refl, sym, ap, ap₂, ◌∙◌}
use Rattle.std.specs.Prelude.{option_map, slice_get, unwrap_or, nat_lt, nat_le, is_some, ◌||◌, if◌then◌else◌}
use Rattle.std.proofs.lemmas.List.{set-set, set-get_or}
use Rattle.std.proofs.lemmas.Option.{slice_get_within, slice_get-map, unwrap_or-slice_get}
use Rattle.uda_disk.proofs.Slots.{slice_get-set_same}
use Rattle.uda_disk.specs.declared.mode.Mode.{Mode}
use Rattle.uda_disk.specs.Units.{UnitState}
use Rattle.uda_exec.specs.declared.drive_unit.UnitInfo.{UnitInfo}
use Rattle.uda_exec.specs.Drives.{DriveState, drive_in, fresh_unit, returned_drive, info_of, info_at, in_mode, with_drive}
use Rattle.uda_port.specs.Port.{PortState, read_only_at}
use Rattle.uda_c.specs.declared.call_status.CallStatus.TheVariants.{Done, NoSuchUnit, NotAttached, OtherKind}
use Rattle.uda_c.specs.ControllerState.{ControllerState}
use Rattle.uda_image.specs.Store.{StoreState}
use Rattle.uda_called.specs.CalledImage.{none_ready, bytes_in, as_lent}
use Rattle.uda_called.specs.declared.lent.BorrowedBytes.{BorrowedBytes}
use Rattle.uda_c.specs.declared.block_range.Prepared.{Prepared}
use Rattle.uda_c.specs.declared.call_status.CallStatus.{CallStatus}
use Rattle.uda_c.specs.BlockRange.{LendsBlocks, AllowsBlocks, size_at, lend_answer_in, allow_answer_in, with_none_ready, lent_at}
use Rattle.uda_c.specs.UnitImage.{store_failing, store_lent, store_begun, called_begun, store_prepared, is_called, is_called_in, ReadyAnswer, status_of}
use Rattle.uda_c.specs.Controllers.{FailsAt, SetsProtection, unit_protected, port_protected, unit_with, with_store, port_put_back, has_image, unit_answer, failing_answer, is_called_at}

-- a unit with a mode and a size has a drive
pub record Seen (slot : Option (Option UnitState)) (look : UnitInfo) : Type 0 where
  pub unit : UnitState
  pub here : slot ≡ Some (Some unit)
  pub look_is : look ≡ info_of unit

pub seen : (slot : Option (Option UnitState)) (look : UnitInfo) → info_at slot ≡ Some look → Seen slot look
seen (Some (Some unit)) look e =
    record { unit = unit; here = refl; look_is = sym (ap (λ (o : Option UnitInfo). unwrap_or o look) e) }
seen (Some None) look e = absurd (cc)
seen None look e = absurd (cc)

-- and that drive is returned
pub handed : (units : List (Option UnitState)) (u : ℕ) (unit : UnitState) → slice_get units u
    ≡ Some (Some unit)
    → returned_drive units u None ≡ Some (drive_in unit)
handed units u unit here =
    ap (λ (o : Option (Option DriveState)). unwrap_or o None)
    (slice_get-map (option_map drive_in) units u ∙ ap (option_map (option_map drive_in)) here)

pub is_handed : (units : List (Option UnitState)) (u : ℕ) (look : UnitInfo) → info_at (slice_get units u)
    ≡ Some look
    → None ≡ returned_drive units u None → ⊥
is_handed units u look e none =
    let s = seen (slice_get units u) look e in
    let both : None ≡ Some (drive_in s.unit) = none ∙ handed units u s.unit s.here in
    absurd (cc)

-- the units with a drive as unit u in this mode, after there was none
abbrev put_back : List (Option UnitState) → ℕ → DriveState → Mode → List (Option UnitState)
put_back units u drive m =
    let back : List (Option UnitState) = set (set units u None) u (Some (fresh_unit drive)) in
    set back u (in_mode m (unwrap_or (slice_get back u) None))

unit_changes : (units : List (Option UnitState)) (u : ℕ) (change : StoreState → StoreState) (look : UnitInfo)
    (drive changed : DriveState)
    → info_at (slice_get units u) ≡ Some look → Some drive ≡ returned_drive units u None
    → changed ≡ record drive { store = change drive.store }
    → put_back units u changed look.mode ≡ set units u
    (option_map (unit_with change) (unwrap_or (slice_get units u) None))
unit_changes units u change look drive changed e back changes =
    let s = seen (slice_get units u) look e in
    let drive_is : drive ≡ drive_in s.unit =
    ap (λ (o : Option DriveState). unwrap_or o drive) (back ∙ handed units u s.unit s.here) in
    let b : Option UnitState = Some (fresh_unit changed) in
    let got : slice_get (set units u b) u ≡ Some b =
    slice_get-set_same units u b (slice_get_within units u (Some s.unit) s.here) in
    let store = ap (λ (d : DriveState). d.store) changes
    ∙ ap (λ (d : DriveState). change d.store) drive_is in
    let mode = ap (λ (l : UnitInfo). l.mode) s.look_is in
    ap (λ (xs : List (Option UnitState)). set xs u (in_mode look.mode (unwrap_or (slice_get xs u) None)))
    (set-set units u None b)
    ∙ ap (λ (o : Option (Option UnitState)). set (set units u b) u (in_mode look.mode (unwrap_or o None))) got
    ∙ set-set units u b (in_mode look.mode b)
    ∙ ap (set units u) (ap₂ (λ x y. Some (record { store = x; mode = y })) store mode)
    ∙ ap (λ (o : Option (Option UnitState)). set units u (option_map (unit_with change) (unwrap_or o None)))
    (sym s.here)

-- a drive that was removed, changed and put back
pub store_changes : (old : ControllerState) (u : ℕ) (change : StoreState → StoreState) (look : UnitInfo)
    (drive changed : DriveState) (out new : PortState)
    → info_at (slice_get old.port.exec.units u) ≡ Some look
    → Some drive ≡ returned_drive old.port.exec.units u None → changed ≡ record drive { store = change drive.store }
    → out ≡ record old.port { exec = with_drive old.port.exec u None } → new ≡ port_put_back out u changed look.mode
    → record old { port = new } ≡ with_store old u change
store_changes old u change look drive changed out new e given changes out_is new_is =
    ap (λ (p : PortState). record old { port = p }) (new_is
    ∙ ap (λ (p : PortState). port_put_back p u changed look.mode) out_is)
    ∙ ap (λ (units : List (Option UnitState)).
    record old { port = record old.port { exec = record old.port.exec { units = units } } })
    (unit_changes old.port.exec.units u change look drive changed e given changes)

-- the same of a drive whose hardware write protection is changed
unit_protects : (units : List (Option UnitState)) (u : ℕ) (hard : Bool) (look : UnitInfo) (drive changed : DriveState)
    (mode : Mode)
    → info_at (slice_get units u) ≡ Some look → Some drive ≡ returned_drive units u None
    → changed.store ≡ drive.store → mode ≡ record look.mode { hard = hard }
    → put_back units u changed mode ≡ set units u
    (option_map (unit_protected hard) (unwrap_or (slice_get units u) None))
unit_protects units u hard look drive changed mode e back kept mode_is =
    let s = seen (slice_get units u) look e in
    let drive_is : drive ≡ drive_in s.unit =
    ap (λ (o : Option DriveState). unwrap_or o drive) (back ∙ handed units u s.unit s.here) in
    let b : Option UnitState = Some (fresh_unit changed) in
    let got : slice_get (set units u b) u ≡ Some b =
    slice_get-set_same units u b (slice_get_within units u (Some s.unit) s.here) in
    let store = kept ∙ ap (λ (d : DriveState). d.store) drive_is in
    let moded = mode_is ∙ ap (λ (l : UnitInfo). record l.mode { hard = hard }) s.look_is in
    ap (λ (xs : List (Option UnitState)). set xs u (in_mode mode (unwrap_or (slice_get xs u) None)))
    (set-set units u None b)
    ∙ ap (λ (o : Option (Option UnitState)). set (set units u b) u (in_mode mode (unwrap_or o None))) got
    ∙ set-set units u b (in_mode mode b)
    ∙ ap (set units u) (ap₂ (λ x y. Some (record { store = x; mode = y })) store moded)
    ∙ ap (λ (o : Option (Option UnitState)). set units u (option_map (unit_protected hard) (unwrap_or o None)))
    (sym s.here)

pub protection_changes : (old : PortState) (u : ℕ) (hard : Bool) (look : UnitInfo) (drive changed : DriveState)
    (mode : Mode) (out new : PortState)
    → info_at (slice_get old.exec.units u) ≡ Some look → Some drive ≡ returned_drive old.exec.units u None
    → changed.store ≡ drive.store → mode ≡ record look.mode { hard = hard }
    → out ≡ record old { exec = with_drive old.exec u None } → new ≡ port_put_back out u changed mode
    → new ≡ port_protected old u hard
protection_changes old u hard look drive changed mode out new e given kept mode_is out_is new_is =
    new_is ∙ ap (λ (p : PortState). port_put_back p u changed mode) out_is
    ∙ ap (λ (units : List (Option UnitState)). record old { exec = record old.exec { units = units } })
    (unit_protects old.exec.units u hard look drive changed mode e given kept mode_is)

-- a store that isn't changed
same_unit : (o : Option UnitState) → option_map (unit_with (λ (s : StoreState). s)) o ≡ o
same_unit None = refl
same_unit (Some unit) = refl

pub nothing_changes : (old : ControllerState) (u : ℕ) → with_store old u (λ (s : StoreState). s) ≡ old
nothing_changes old u =
    let units = old.port.exec.units in
    ap (λ (us : List (Option UnitState)).
    record old { port = record old.port { exec = record old.port.exec { units = us } } })
    (ap (set units u) (same_unit (unwrap_or (slice_get units u) None)
    ∙ unwrap_or-slice_get units u None) ∙ set-get_or units u None)

-- a unit with an image
pub has_status : (old : ControllerState) (u : ℕ) (look : UnitInfo) → nat_lt 3 u ≡ false
    → info_at (slice_get old.port.exec.units u) ≡ Some look → unit_answer old u ≡ Done
has_status old u look there e =
    ap (λ b. if b then NoSuchUnit else if has_image old u then Done else NotAttached) there
    ∙ ap (λ (o : Option UnitInfo). if is_some o then Done else NotAttached) e

-- the call that moves the write-protect button
pub protects : (old : ControllerState) (u : ℕ) (asked : Bool) (look : UnitInfo) (new : PortState) → nat_lt 3 u ≡ false
    → info_at (slice_get old.port.exec.units u) ≡ Some look
    → new ≡ port_protected old.port u (read_only_at old.port u || asked)
    → SetsProtection old u asked Done (record old { port = new })
protects old u asked look new there e is = record {
  answer_is = sym (has_status old u look there e);
  set = λ _. ap (λ (p : PortState). record old { port = p }) is;
  refused = λ no. absurd (no refl);
}

failing_status : (old : ControllerState) (u : ℕ) (look : UnitInfo) → nat_lt 3 u ≡ false
    → info_at (slice_get old.port.exec.units u) ≡ Some look
    → failing_answer old u ≡ (if is_called_at old u then OtherKind else Done)
failing_status old u look there e =
    ap (λ b. if b then NoSuchUnit else if has_image old u then (if is_called_at old u then OtherKind else Done)
    else NotAttached) there
    ∙ ap (λ (o : Option UnitInfo). if is_some o then (if is_called_at old u then OtherKind else Done) else NotAttached) e

-- the calls that make a call of an image fail, or don't
pub fails_at : (old : ControllerState) (u : ℕ) (call : Option ℕ) (look : UnitInfo) (drive failing : DriveState)
    (out new : PortState)
    → nat_lt 3 u ≡ false → info_at (slice_get old.port.exec.units u) ≡ Some look → is_called_at old u ≡ false
    → Some drive ≡ returned_drive old.port.exec.units u None
    → failing ≡ record drive { store = store_failing call drive.store }
    → out ≡ record old.port { exec = with_drive old.port.exec u None } → new ≡ port_put_back out u failing look.mode
    → FailsAt old u call Done (record old { port = new })
fails_at old u call look drive failing out new there e lent given fails out_is new_is = record {
  answer_is = sym (failing_status old u look there e ∙ ap (λ b. if b then OtherKind else Done) lent);
  fails = λ _. store_changes old u (store_failing call) look drive failing out new e given fails out_is new_is;
  refused = λ no. absurd (no refl);
}

pub fails_not : (old : ControllerState) (u : ℕ) (call : Option ℕ) (look : UnitInfo) → nat_lt 3 u ≡ false
    → info_at (slice_get old.port.exec.units u) ≡ Some look → is_called_at old u ≡ true
    → FailsAt old u call OtherKind old
fails_not old u call look there e called = record {
  answer_is = sym (failing_status old u look there e ∙ ap (λ b. if b then OtherKind else Done) called);
  fails = λ no. absurd (cc);
  refused = λ _. refl;
}

-- What holds of a unit's slot by its store holds of the drive that was removed, and of the drive that was changed and put
-- back.
module _ {A : Type 0} (of_slot : Option (Option UnitState) → A) (of_store : StoreState → A)
    (same : (unit : UnitState) → of_slot (Some (Some unit)) ≡ of_store unit.store)
    (old : ControllerState) (u : ℕ) (look : UnitInfo) (drive : DriveState)
    (e : info_at (slice_get old.port.exec.units u) ≡ Some look)
    (back : Some drive ≡ returned_drive old.port.exec.units u None) where
  abbrev units : List (Option UnitState)
  units = old.port.exec.units

  abbrev s : Seen (slice_get units u) look
  s = seen (slice_get units u) look e

  drive_is : drive ≡ drive_in s.unit
  drive_is = ap (λ (o : Option DriveState). unwrap_or o drive) (back ∙ handed units u s.unit s.here)

  pub slot_is : of_slot (slice_get units u) ≡ of_store drive.store
  slot_is = ap of_slot s.here ∙ same s.unit ∙ sym (ap (λ (d : DriveState). of_store d.store) drive_is)

  pub slot_after : (change : StoreState → StoreState)
      → of_slot (slice_get (with_store old u change).port.exec.units u) ≡ of_store (change drive.store)
  slot_after change =
      ap (λ (o : Option (Option UnitState)).
      of_slot (slice_get (set units u (option_map (unit_with change) (unwrap_or o None))) u)) s.here
      ∙ ap of_slot
      (slice_get-set_same units u (Some (unit_with change s.unit)) (slice_get_within units u (Some s.unit) s.here))
      ∙ same (unit_with change s.unit) ∙ sym (ap (λ (d : DriveState). of_store (change d.store)) drive_is)

-- a drive that is removed is one that C reads and writes, as its unit's
pub called_drive_is : (old : ControllerState) (u : ℕ) (look : UnitInfo) (drive : DriveState)
    → info_at (slice_get old.port.exec.units u) ≡ Some look → Some drive ≡ returned_drive old.port.exec.units u None
    → is_called_at old u ≡ is_called drive.store
called_drive_is old u look drive e back = slot_is is_called_in is_called (λ unit. refl) old u look drive e back

-- two changes of a store, one after the other
pub both_changes : (old : ControllerState) (u : ℕ) (one two : StoreState → StoreState) (look : UnitInfo)
    → info_at (slice_get old.port.exec.units u) ≡ Some look
    → with_store (with_store old u one) u two ≡ with_store old u (λ (s : StoreState). two (one s))
both_changes old u one two look e =
    let units = old.port.exec.units in
    let s = seen (slice_get units u) look e in
    let is : option_map (unit_with one) (unwrap_or (slice_get units u) None) ≡ Some (unit_with one s.unit) =
    ap (λ (o : Option (Option UnitState)). option_map (unit_with one) (unwrap_or o None)) s.here in
    let got : slice_get (set units u (Some (unit_with one s.unit))) u ≡ Some (Some (unit_with one s.unit)) =
    slice_get-set_same units u (Some (unit_with one s.unit)) (slice_get_within units u (Some s.unit) s.here) in
    ap (λ (us : List (Option UnitState)).
    record old { port = record old.port { exec = record old.port.exec { units = us } } })
    (ap (λ (o : Option UnitState).
    set (set units u o) u (option_map (unit_with two) (unwrap_or (slice_get (set units u o) u) None))) is
    ∙ ap (λ (o : Option (Option UnitState)).
    set (set units u (Some (unit_with one s.unit))) u (option_map (unit_with two) (unwrap_or o None))) got
    ∙ set-set units u (Some (unit_with one s.unit)) (Some (unit_with two (unit_with one s.unit)))
    ∙ ap (λ (o : Option (Option UnitState)).
    set units u (option_map (unit_with (λ (x : StoreState). two (one x))) (unwrap_or o None))) (sym s.here))

-- ---- blocks that are made ready

pub lent_size : (done : Bool) (first : ℕ) (from : Option BorrowedBytes) (store : StoreState)
    → (store_lent done first from store).size ≡ store.size
lent_size true first from store = refl
lent_size false first from store = refl

pub lent_faithful : (done : Bool) (first : ℕ) (from : Option BorrowedBytes) (store : StoreState)
    → (store_lent done first from store).faithful ≡ store.faithful
lent_faithful true first from store = refl
lent_faithful false first from store = refl

-- what holds of a call that is done
pub if_ok : {A B : Type 0} (made : Result Unit CallStatus) → (A → B) → IfOk made (λ _. A) → IfOk made (λ _. B)
if_ok (Ok done) goes a = goes a
if_ok (Err status) goes a = tt

-- the calls that lend blocks, or don't
pub lends : (old : ControllerState) (u first : ℕ) (from : Option BorrowedBytes) (made : Result Unit CallStatus)
    (answer : CallStatus) (new : ControllerState)
    → unit_answer old u ≡ Done → ReadyAnswer (is_called_at old u) (status_of made)
    → status_of made ≡ lend_answer_in first (length (bytes_in from)) (slice_get old.port.exec.units u)
    → IfOk made (λ _. (length (bytes_in from) % 512 ≡ 0) × (first + length (bytes_in from) / 512 ≤ size_at old u))
    → IfOk made (λ _. lent_at new u first ≡ option_map as_lent from)
    → IfErr made (λ status. status ≢ Done) → answer ≡ status_of made
    → new ≡ with_store old u (store_lent (is_ok made) first from) → LendsBlocks old (u, first) from answer new
lends old u first from (Ok done) answer new there kind answers fits has fails is goes = record {
  no_image = λ no. absurd (no there);
  kind = λ _. subst (ReadyAnswer (is_called_at old u)) (sym is) kind;
  answers = λ _. is ∙ answers;
  fits = λ _. fits;
  lent = λ _. goes;
  has = λ _. has;
  refused = λ no. absurd (no is);
}
lends old u first from (Err status) answer new there kind answers fits has fails is goes = record {
  no_image = λ no. absurd (no there);
  kind = λ _. subst (ReadyAnswer (is_called_at old u)) (sym is) kind;
  answers = λ _. is ∙ answers;
  fits = λ done. absurd (fails (sym is ∙ done));
  lent = λ done. absurd (fails (sym is ∙ done));
  has = λ done. absurd (fails (sym is ∙ done));
  refused = λ _. goes ∙ nothing_changes old u;
}

pub prepared_size : (done : Bool) (way : Prepared) (count : ℕ) (store : StoreState)
    → (store_prepared done way count store).size ≡ store.size
prepared_size true way count store = refl
prepared_size false way count store = refl

pub prepared_faithful : (done : Bool) (way : Prepared) (count : ℕ) (store : StoreState)
    → (store_prepared done way count store).faithful ≡ store.faithful
prepared_faithful true way count store = refl
prepared_faithful false way count store = refl

-- the calls that make blocks ready which C prepared, or don't
pub allows : (old : ControllerState) (u count : ℕ) (way : Prepared) (made : Result Unit CallStatus)
    (answer : CallStatus) (new : ControllerState)
    → unit_answer old u ≡ Done → ReadyAnswer (is_called_at old u) (status_of made)
    → status_of made ≡ allow_answer_in way count (slice_get old.port.exec.units u)
    → IfOk made (λ _. count ≤ size_at old u) → IfErr made (λ status. status ≢ Done) → answer ≡ status_of made
    → new ≡ with_store old u (store_prepared (is_ok made) way count)
    → AllowsBlocks old (u, count) way answer new
allows old u count way (Ok done) answer new there kind answers fits fails is goes = record {
  no_image = λ no. absurd (no there);
  kind = λ _. subst (ReadyAnswer (is_called_at old u)) (sym is) kind;
  answers = λ _. is ∙ answers;
  fits = λ _. fits;
  allowed = λ _. goes;
  refused = λ no. absurd (no is);
}
allows old u count way (Err status) answer new there kind answers fits fails is goes = record {
  no_image = λ no. absurd (no there);
  kind = λ _. subst (ReadyAnswer (is_called_at old u)) (sym is) kind;
  answers = λ _. is ∙ answers;
  fits = λ done. absurd (fails (sym is ∙ done));
  allowed = λ done. absurd (fails (sym is ∙ done));
  refused = λ _. goes ∙ nothing_changes old u;
}

-- ---- nothing is ready

-- a part of a store that stays when its ready blocks are dropped
begun_part : {A : Type 0} (part : StoreState → A) (first : ℕ) (store : StoreState) (called there : Bool)
    → part (record store { ready = Some (none_ready first) }) ≡ part store
    → part (if called then (if there then record store { ready = Some (none_ready first) } else store) else store)
    ≡ part store
begun_part part first store true true same = same
begun_part part first store true false same = refl
begun_part part first store false there same = refl

pub begun_size : (first : ℕ) (store : StoreState) → (called_begun first store).size ≡ store.size
begun_size first store =
    begun_part (λ (s : StoreState). s.size) first store (is_called store) (nat_le first store.size) refl

pub begun_faithful : (first : ℕ) (store : StoreState) → (called_begun first store).faithful ≡ store.faithful
begun_faithful first store =
    begun_part (λ (s : StoreState). s.faithful) first store (is_called store) (nat_le first store.size) refl

-- the unit with an image that C reads and writes, or another one
begun_unit : (first : ℕ) (slot : Option (Option UnitState)) (called : Bool) → is_called_in slot ≡ called
    → option_map (unit_with (called_begun first)) (unwrap_or slot None)
    ≡ option_map (unit_with (λ (s : StoreState). if called then store_begun first s else s)) (unwrap_or slot None)
begun_unit first (Some (Some unit)) called is =
    ap (λ b. Some (record unit { store = if b then store_begun first unit.store else unit.store })) is
begun_unit first (Some None) called is = refl
begun_unit first None called is = refl

begins_by : (old : ControllerState) (u first : ℕ) (called : Bool)
    → with_store old u (λ (s : StoreState). if called then store_begun first s else s)
    ≡ (if called then with_store old u (store_begun first) else old)
begins_by old u first true = refl
begins_by old u first false = nothing_changes old u

pub begins : (old : ControllerState) (u first : ℕ) (new : ControllerState)
    → new ≡ with_store old u (called_begun first) → new ≡ with_none_ready old u first
begins old u first new goes =
    let units = old.port.exec.units in
    goes ∙ ap (λ (unit : Option UnitState).
    record old { port = record old.port { exec = record old.port.exec { units = set units u unit } } })
    (begun_unit first (slice_get units u) (is_called_at old u) refl) ∙ begins_by old u first (is_called_at old u)
