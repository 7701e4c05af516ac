-- Images that are lent and returned.
use Rattle.std.proofs.Common.{◌≡◌, ◌≢◌, ◌⊎◌, inl, inr, ℕ, ◌<◌, ◌≤◌, Bool, true, false, List, [], length, length-set, set, Option, Some, None, refl, sym, ap, subst, ◌∙◌, arith}
use Rattle.uda_port.specs.declared.profile.Profile.{Profile}
use Rattle.std.specs.Prelude.{◌==◌, ◌||◌, option_map, slice_get, unwrap_or, is_some, is_ok, IfErr, Result, Ok, Err, if◌then◌else◌}
use Rattle.std.proofs.lemmas.Bool.{le-ltb, ne_eqb}
use Rattle.uda_disk.proofs.Slots.{slice_get-set_same}
use Rattle.uda_disk.specs.Units.{UnitState}
use Rattle.uda_image.proofs.ImageLaws.{concat-blocks_of}
use Rattle.uda_exec.specs.declared.drive_unit.UnitInfo.{UnitInfo}
use Rattle.uda_exec.specs.Drives.{DriveState, drive_in, fresh_unit, returned_drive, info_at}
use Rattle.uda_port.specs.Port.{PortState, port_with_drive, read_only_at}
use Rattle.uda_c.proofs.FailingUnits.{seen, handed}
use Rattle.uda_c.specs.ControllerState.{ControllerState}
use Rattle.uda_c.specs.declared.call_status.CallStatus.{CallStatus}
use Rattle.uda_c.specs.declared.call_status.CallStatus.TheVariants.{Done, NoSuchUnit, AlreadyAttached, NotAttached, NotEmpty, HasController, NoController}
use Rattle.uda_c.specs.CallStatus.{status_code}
use Rattle.uda_c.specs.declared.unit_images.UnitImages.{UnitImages}
use Rattle.uda_c.specs.declared.slot.Slot.{Slot}
use Rattle.uda_called.specs.declared.lent.BorrowedBytes.{BorrowedBytes}
use Rattle.uda_image.specs.Store.{StoreState}
use Rattle.uda_c.specs.BorrowedImage.{IsWhole}
use Rattle.uda_c.specs.UnitImage.{lent_state, zero_state, bytes_of_store, status_of}
use Rattle.uda_c.specs.Steps.{emptied}
use Rattle.uda_c.specs.BlockRange.{AttachesCalled, size_answer}
use Rattle.uda_c.specs.Slots.{empty_slot, bytes_of_slot, lent_in, slot_of, is_empty, are_empty, TakesSlot}
use Rattle.uda_c.specs.Controllers.{Lending, Attaches, Detaches, MakesNew, OnHandle, GivesBack, Frees, image_answer, image_in, has_image, lent_drive, any_called}

-- a unit that gets an image has it
attached : (units : List (Option UnitState)) (u : ℕ) (lending : Lending) → u < length units
    → IsWhole lending.bytes
    → image_in (slice_get (set units u (Some (fresh_unit (lent_drive lending)))) u) ≡ Some lending
attached units u lending there whole =
    ap image_in (slice_get-set_same units u (Some (fresh_unit (lent_drive lending))) there)
    ∙ ap (λ (bytes : List ℕ). Some (record { bytes = bytes; hard = lending.hard })) (concat-blocks_of
    lending.bytes whole.0 whole.1)

-- the calls that do it
pub attaches : (old : ControllerState) (u : ℕ) (slot after : Slot) (hard : Bool) (bytes : List ℕ)
    (store : StoreState) (new : PortState)
    → u ≤ 3 → has_image old u ≡ false → bytes ≡ slot.held → IsWhole bytes → after ≡ empty_slot
    → image_answer (length slot.held) ≡ Done → store ≡ lent_state bytes
    → new ≡ port_with_drive old.port u (Some (record { store = store; hard = hard }))
    → length new.exec.units ≡ 4 → Attaches (old, slot) u hard Done (record old { port = new }, after)
attaches old u slot after hard bytes store new low free are whole gone fits store_is new_is four_units =
    let units : List (Option UnitState) = old.port.exec.units in
    let lending : Lending = record { bytes = slot.held; hard = hard } in
    let kept : Lending = record { bytes = slot.held; hard = read_only_at old.port u || hard } in
    let drive_is : record { store = store; hard = hard } ≡ lent_drive lending =
    ap (λ (s : StoreState). record { store = s; hard = hard }) (store_is ∙ ap lent_state are) in
    let is : new ≡ port_with_drive old.port u (Some (lent_drive lending)) =
    new_is ∙ ap (λ (d : DriveState). port_with_drive old.port u (Some d)) drive_is in
    let long : length units ≡ 4 =
    sym (length-set units u (Some (fresh_unit (lent_drive kept))))
    ∙ sym (ap (λ (p : PortState). length p.exec.units) is) ∙ four_units in
    record {
      answer_is = sym (ap (λ b. if b then NoSuchUnit else if has_image old u then AlreadyAttached else
          image_answer (length slot.held)) (le-ltb 3 u low)
          ∙ ap (λ b. if b then AlreadyAttached else image_answer (length slot.held)) free ∙ fits);
      attached = λ _. ap (λ (p : PortState). record old { port = p }) is;
      has = λ _. ap (λ (p : PortState). image_in (slice_get p.exec.units u)) is
          ∙ attached units u kept (omega (arith, low, long)) (subst IsWhole are whole);
      taken = λ _. gone;
      refused = λ no. absurd (no refl);
    }

-- the return of the same bytes leaves the slot unchanged
pub put_back : (old new : Slot) (lent : BorrowedBytes) → new ≡ slot_of lent → lent ≡ lent_in old → new ≡ old
put_back old new lent put were = put ∙ ap slot_of were

-- ---- bytes that are lent for blocks

-- what is left of lent bytes: none if the call is done, and otherwise all
abbrev pub IsLeft : CallStatus → Option BorrowedBytes → Option BorrowedBytes → Type 0
IsLeft answer old new = (answer ≡ Done) × (new ≡ None) ⊎ (answer ≢ Done) × (new ≡ old)

-- what is left of the bytes in a slot
abbrev pub IsLeftIn : CallStatus → Slot → Slot → Type 0
IsLeftIn answer old new = (answer ≡ Done) × (new ≡ emptied old) ⊎ (answer ≢ Done) × (new ≡ old)

pub is_left : (made : Result Unit CallStatus) (answer : CallStatus) (old new : Option BorrowedBytes)
    → IfErr made (λ status. status ≢ Done) → answer ≡ status_of made → new ≡ (if is_ok made then None else old)
    → IsLeft answer old new
is_left (Ok done) answer old new fails is goes = inl (is, goes)
is_left (Err status) answer old new fails is goes = inr ((λ done. fails (sym is ∙ done)), goes)

pub bytes_taken : (lent : Option BorrowedBytes) (old new : Slot) → TakesSlot lent old new → lent ≡ bytes_of_slot old
bytes_taken (Some lent) old new took =
    ap (λ (l : BorrowedBytes). Some l) took.0
    ∙ sym (ap (λ b. if b then None else Some (lent_in old)) (ne_eqb (length old.held) 0 took.1))
bytes_taken None old new took =
    sym (ap (λ (bytes : List ℕ). if length bytes == 0 then None else Some (lent_in old)) took.0)

-- a slot whose bytes were taken is empty
slot_taken : (lent : Option BorrowedBytes) (old new : Slot) → TakesSlot lent old new → new ≡ emptied old
slot_taken (Some lent) old new took =
    took.2 ∙ sym (ap (λ b. if b then old else empty_slot) (ne_eqb (length old.held) 0 took.1))
slot_taken None old new took =
    took.1 ∙ sym (ap (λ (bytes : List ℕ). if length bytes == 0 then old else empty_slot) took.0)

-- the slot after its bytes were lent, and what was left was put back
pub left_is_put : (answer : CallStatus) (lent left : Option BorrowedBytes) (some : BorrowedBytes) (old empty new : Slot)
    → TakesSlot lent old empty → IsLeft answer lent left → left ≡ Some some → new ≡ slot_of some
    → IsLeftIn answer old new
left_is_put answer lent left some old empty new took (inl (done, none)) is put = absurd (cc)
left_is_put answer lent left some old empty new took (inr (refused, same)) is put =
    let was : TakesSlot (Some some) old empty = subst (λ (l : Option BorrowedBytes). TakesSlot l old empty) (sym same ∙ is) took in
    inr (refused, put_back old new some put was.0)

pub none_is_left : (answer : CallStatus) (lent left : Option BorrowedBytes) (old empty : Slot)
    → TakesSlot lent old empty → IsLeft answer lent left → left ≡ None → IsLeftIn answer old empty
none_is_left answer lent left old empty took (inl (done, none)) is = inl (done, slot_taken lent old empty took)
none_is_left answer lent left old empty took (inr (refused, same)) is =
    let was : TakesSlot None old empty = subst (λ (l : Option BorrowedBytes). TakesSlot l old empty) (sym same ∙ is) took in
    inr (refused, was.1)

pub empty : (slot : Slot) → slot.held ≡ [] → true ≡ is_empty slot
empty slot e = sym (ap (λ (bytes : List ℕ). length bytes == 0) e)

pub full : (slot : Slot) → length slot.held ≢ 0 → false ≡ is_empty slot
full slot some = sym (ne_eqb (length slot.held) 0 some)

-- an image isn't put into a slot that has bytes
pub not_put : (old : ControllerState) (u : ℕ) (look : UnitInfo) (slot after : Slot) (lent : BorrowedBytes) → u ≤ 3
    → info_at (slice_get old.port.exec.units u) ≡ Some look → length slot.held ≢ 0 → lent ≡ lent_in slot
    → after ≡ slot_of lent
    → Detaches (old, slot) u NotEmpty (old, after)
not_put old u look slot after lent low e some were put = record {
  answer_is = sym (ap (λ b. if b then NoSuchUnit else if has_image old u then (if length slot.held == 0 then
      Done else NotEmpty) else NotAttached) (le-ltb 3 u low)
      ∙ ap (λ (o : Option UnitInfo). if is_some o then (if length slot.held == 0 then Done else NotEmpty)
      else NotAttached) e
      ∙ ap (λ b. if b then Done else NotEmpty) (ne_eqb (length slot.held) 0 some));
  detached = λ no. absurd (cc);
  given_back = λ no. absurd (cc);
  refused = λ _. ap (λ (s : Slot). (old, s)) (put_back slot after lent put were);
}

-- the drive that is returned has the unit's blocks
pub given_back : (units : List (Option UnitState)) (u : ℕ) (look : UnitInfo) (drive : DriveState) (bytes :
    List ℕ)
    → info_at (slice_get units u) ≡ Some look → Some drive ≡ returned_drive units u None
    → bytes ≡ unwrap_or (bytes_of_store drive.store) []
    → option_map (λ (image : Lending). image.bytes) (image_in (slice_get units u)) ≡ Some bytes
given_back units u look drive bytes e back are =
    let s = seen (slice_get units u) look e in
    let drive_is : drive ≡ drive_in s.unit =
    ap (λ (o : Option DriveState). unwrap_or o drive) (back ∙ handed units u s.unit s.here) in
    ap (λ (o : Option (Option UnitState)). option_map (λ (image : Lending). image.bytes) (image_in o)) s.here
    ∙ ap Some (sym (are ∙ ap (λ (d : DriveState). unwrap_or (bytes_of_store d.store) []) drive_is))

-- a handle that has a controller keeps it
pub controller_stays : (old new : Option ControllerState) {b : Bool} (profile : Profile) → b ≡ is_some old
    → b ≡ true → new ≡ old
    → MakesNew old profile HasController new
controller_stays (Some c) new profile is has stays = (refl, stays)
controller_stays None new profile is has stays = let no : false ≡ true = sym is ∙ has in absurd (cc)

-- the calls that return a unit's image
pub detaches : (old : ControllerState) (u : ℕ) (look : UnitInfo) (slot after : Slot)
    (drive : DriveState) (new : PortState) (called : Bool)
    → u ≤ 3 → info_at (slice_get old.port.exec.units u) ≡ Some look → slot.held ≡ []
    → Some drive ≡ returned_drive old.port.exec.units u None
    → after.held ≡ unwrap_or (bytes_of_store drive.store) [] → new ≡ port_with_drive old.port u None
    → called ≡ any_called new.exec.units
    → Detaches (old, slot) u Done (record old { port = new; called = called }, after)
detaches old u look slot after drive new called low e empty back are is called_is =
    let units = old.port.exec.units in record {
      answer_is = sym (ap (λ b. if b then NoSuchUnit else if has_image old u then
          (if length slot.held == 0 then Done else NotEmpty) else NotAttached) (le-ltb 3 u low)
          ∙ ap (λ (o : Option UnitInfo).
          if is_some o then (if length slot.held == 0 then Done else NotEmpty) else NotAttached) e
          ∙ ap (λ (bytes : List ℕ). if length bytes == 0 then Done else NotEmpty) empty);
      detached = λ _. ap (λ (b : Bool). record old { port = new; called = b }) called_is
          ∙ ap (λ (p : PortState). record old { port = p; called = any_called p.exec.units }) is;
      given_back = λ _. given_back units u look drive after.held e back are;
      refused = λ no. absurd (no refl);
    }

-- ---- a controller that isn't freed

-- the call refuses, and nothing changes
pub record StaysWhole (old : Option ControllerState) (images : UnitImages) (answer : CallStatus)
    (new : Option ControllerState) (after : UnitImages) : Type 0 where
  pub frees : Frees old images answer new after
  pub not_zero : status_code answer ≡ 0 → ⊥
  pub same : new ≡ old

full_not_zero : (empty : Bool) (answer : CallStatus) → answer ≡ (if empty then Done else NotEmpty) → answer ≢ Done
    → status_code answer ≡ 0 → ⊥
full_not_zero true answer is refused zero = refused is
full_not_zero false answer is refused zero =
    let code : status_code answer ≡ 71 = ap status_code is in
    absurd (omega (arith, code, zero))

pub stays_whole : (old : Option ControllerState) (images : UnitImages) (answer : CallStatus)
    (new : Option ControllerState) (after : UnitImages)
    → OnHandle old new ((answer ≡ NoController) × (after ≡ images))
    (λ (a b : ControllerState). GivesBack (a, images) answer (b, after)) → answer ≢ Done
    → StaysWhole old images answer new after
stays_whole None images answer None after gives refused = record {
  frees = (gives.0, refl, gives.1);
  not_zero = λ zero.
      let code : status_code answer ≡ 64 = ap status_code gives.0 in
      absurd (omega (arith, code, zero));
  same = refl;
}
stays_whole (Some a) images answer (Some b) after gives refused =
    let same = gives.refused refused in
    record {
      frees = record {
        answer_is = gives.answer_is;
        freed = λ done. absurd (refused done);
        given_back = λ done. absurd (refused done);
        refused = λ _. (
          ap (λ (x : ControllerState × UnitImages). Some x.0) same,
          ap (λ (x : ControllerState × UnitImages). x.1) same,
        );
      };
      not_zero = full_not_zero (are_empty images) answer gives.answer_is refused;
      same = ap (λ (x : ControllerState × UnitImages). Some x.0) same;
    }
stays_whole None images answer (Some b) after gives refused = absurd gives
stays_whole (Some a) images answer None after gives refused = absurd gives

-- the calls that attach an image that C reads and writes, or don't
pub attaches_called : (old : ControllerState) (u blocks : ℕ) (hard : Bool) (store : StoreState) (new : PortState)
    → u ≤ 3 → has_image old u ≡ false → size_answer blocks ≡ Done → store ≡ zero_state blocks
    → new ≡ port_with_drive old.port u (Some (record { store = store; hard = hard }))
    → AttachesCalled old (u, (blocks, hard)) Done (record old { port = new; called = true })
attaches_called old u blocks hard store new low free fits store_is new_is = record {
  answer_is = sym (ap (λ b. if b then NoSuchUnit else if has_image old u then AlreadyAttached else size_answer blocks)
      (le-ltb 3 u low)
      ∙ ap (λ b. if b then AlreadyAttached else size_answer blocks) free ∙ fits);
  attached = λ _. ap (λ (p : PortState). record old { port = p; called = true }) (new_is
      ∙ ap (λ (s : StoreState). port_with_drive old.port u (Some (record { store = s; hard = hard }))) store_is);
  refused = λ no. absurd (no refl);
}
