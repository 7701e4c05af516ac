-- The effects of C's calls on a controller and on a handle.
use Rattle.std.specs.Prelude.{◌≡◌, ◌≢◌, ℕ, ◌/◌, ◌%◌, ◌==◌, ◌||◌, Bool, true}
use Rattle.std.specs.Prelude.{false, List, [], ◌∷◌, Option, Some, None, slice_get}
use Rattle.std.specs.Prelude.{nat_lt, length, is_some, option_map, set, unwrap_or, if◌then◌else◌}
use Rattle.uda_mem.specs.Slices.{IsMemory}
use Rattle.uda_image.specs.Limits.{store_limit}
use Rattle.uda_image.specs.Store.{StoreState}
use Rattle.uda_disk.specs.Units.{UnitState, AllFaithful, AreWellFormed}
use Rattle.uda_exec.specs.Disks.{basic_exec}
use Rattle.uda_disk.specs.declared.mode.Mode.{Mode}
use Rattle.uda_exec.specs.Drives.{DriveState, info_at, with_drive, with_mode}
use Rattle.uda_port.specs.declared.profile.Profile.{Profile}
use Rattle.uda_port.specs.declared.profile.Profile.TheVariants.{Strict, Compatible}
use Rattle.uda_port.specs.declared.trace.Trace.{Trace}
use Rattle.uda_port.specs.Guest.{usual_identity}
use Rattle.uda_port.specs.Port.{PortState, CreditsAgree, port_at_start, port_with_drive, read_only_at, with_type}
use Rattle.uda_port.specs.Interrupt.{vector_of, served, IsVectorAddress}
use Rattle.uda_port.specs.Saved.{HasPossibleState}
use Rattle.uda_port.specs.Startup.{after_sa_write}
use Rattle.uda_port.specs.Turn.{TurnEffect}
use Rattle.uda_port.specs.Trace.{turn_of, Traces}
use Rattle.uda_c.specs.declared.call_status.CallStatus.{CallStatus}
use Rattle.uda_c.specs.declared.call_status.CallStatus.TheVariants.{Done, RanTurn, NoSuchUnit, AlreadyAttached, NotAttached}
use Rattle.uda_c.specs.declared.call_status.CallStatus.TheVariants.{NoController, HasController, NoMemory, NotEmpty, OtherKind}
use Rattle.uda_c.specs.declared.call_status.CallStatus.TheVariants.{NoSuchBus, NoSuchType, BadFirstUnit}
use Rattle.uda_packet.specs.declared.drive_type.DriveType.{DriveType}
use Rattle.uda_packet.specs.declared.guest_end.Bus.{Bus}
use Rattle.uda_c.specs.declared.call_status.CallStatus.TheVariants.{BadLength, TooLarge}
use Rattle.uda_c.specs.ControllerState.{ControllerState}
use Rattle.uda_c.specs.Fits.{FitsController, numbers_fit}
use Rattle.uda_c.specs.declared.slot.Slot.{Slot}
use Rattle.uda_c.specs.declared.unit_images.UnitImages.{UnitImages}
use Rattle.uda_c.specs.Slots.{empty_slot, are_empty}
use Rattle.uda_c.specs.UnitImage.{lent_state, is_called_in, bytes_of_store, store_failing}

-- The invariant of the port of every controller. It has four units, they return the blocks that were written,
-- and each has exactly as many blocks as its size. Its credits agree, `uda50_restore` accepts its state, and its units
-- fit it.
pub record IsValidPort (port : PortState) : Type 0 where
  pub four_units : length port.exec.units ≡ 4
  pub faithful : AllFaithful port.exec.units
  pub images : AreWellFormed port.exec.units
  pub credits : CreditsAgree port
  pub possible : HasPossibleState port
  pub fits : FitsController port

-- The effect of a call on a handle. If the handle has no controller, the first proposition holds, and it has
-- none afterwards. If it has one, the second relation holds.
abbrev pub OnHandle : Option ControllerState → Option ControllerState → Type 0
    → (ControllerState → ControllerState → Type 0) → Type 0
OnHandle None None without with = without
OnHandle (Some old) (Some new) without with = with old new
OnHandle _ _ without with = ⊥

-- the controller after a call that changes it: no struct is of its present turn
abbrev pub closed : ControllerState → ControllerState
closed c = record c { current = false }

-- The effect of a call that changes the controller of a handle. Whatever it does, no struct is of the present turn then.
abbrev pub OnClosed : Option ControllerState → Option ControllerState → Type 0
    → (ControllerState → ControllerState → Type 0) → Type 0
OnClosed old new without with = OnHandle old new without (λ c after. with (closed c) after)

-- the invariant of the port of every controller that a handle has, before and after a call
abbrev pub HoldsValid : Option ControllerState → Type 0
HoldsValid None = Unit
HoldsValid (Some c) = IsValidPort c.port

abbrev pub AreValid : Option ControllerState → Option ControllerState → Type 0
AreValid old new = HoldsValid old × HoldsValid new

abbrev pub profile_of : Bool → Profile
profile_of compatible = if compatible then Compatible usual_identity else Strict

-- a new controller: no unit has an image, and the port is in step 1
abbrev pub controller_at_start : Profile → ControllerState
controller_at_start profile = record {
  port = port_at_start profile (basic_exec (None ∷ None ∷ None ∷ None ∷ []) []);
  last = None;
  called = false;
  count = 0;
  number = 0;
  current = false;
}

-- whether a unit has an image
abbrev pub has_image : ControllerState → ℕ → Bool
has_image c unit = is_some (info_at (slice_get c.port.exec.units unit))

-- the status of an image of this many bytes
abbrev pub image_answer : ℕ → CallStatus
image_answer bytes =
    if bytes == 0 then BadLength
    else if bytes % 512 == 0 then (if nat_lt store_limit (bytes / 512) then TooLarge else Done)
    else BadLength

-- the status of such an image for a unit
abbrev pub attach_answer : ControllerState → ℕ → ℕ → CallStatus
attach_answer c unit bytes =
    if nat_lt 3 unit then NoSuchUnit
    else if has_image c unit then AlreadyAttached
    else image_answer bytes

-- the status of a call that needs a unit with an image
abbrev pub unit_answer : ControllerState → ℕ → CallStatus
unit_answer c unit =
    if nat_lt 3 unit then NoSuchUnit
    else if has_image c unit then Done
    else NotAttached

-- whether C reads and writes a unit's image by calls of its own
abbrev pub is_called_at : ControllerState → ℕ → Bool
is_called_at c unit = is_called_in (slice_get c.port.exec.units unit)

-- whether C so reads and writes the image of any of the four units
abbrev pub any_called : List (Option UnitState) → Bool
any_called units =
    is_called_in (slice_get units 0) || (is_called_in (slice_get units 1)
    || (is_called_in (slice_get units 2) || is_called_in (slice_get units 3)))

-- the status of a call that makes a call of a unit's image fail
abbrev pub failing_answer : ControllerState → ℕ → CallStatus
failing_answer c unit =
    if nat_lt 3 unit then NoSuchUnit
    else if has_image c unit then (if is_called_at c unit then OtherKind else Done)
    else NotAttached

-- the status of a call that puts the image into a slot with this many bytes
abbrev pub detach_answer : ControllerState → ℕ → ℕ → CallStatus
detach_answer c unit bytes =
    if nat_lt 3 unit then NoSuchUnit
    else if has_image c unit then (if bytes == 0 then Done else NotEmpty)
    else NotAttached

-- bytes that C lends as an image, and whether they are hardware write-protected
pub record Lending : Type 0 where
  pub bytes : List ℕ
  pub hard : Bool

-- the image of a unit: the bytes of its blocks in order if C has lent them, and its protection
abbrev pub image_of : UnitState → Lending
image_of unit = record { bytes = unwrap_or (bytes_of_store unit.store) []; hard = unit.mode.hard }

abbrev pub image_in : Option (Option UnitState) → Option Lending
image_in (Some (Some unit)) = Some (image_of unit)
image_in _ = None

-- the image of a unit, if it has one
abbrev pub image_at : ControllerState → ℕ → Option Lending
image_at c unit = image_in (slice_get c.port.exec.units unit)

-- bytes that C lends as a unit's drive
abbrev pub lent_drive : Lending → DriveState
lent_drive lending =
    record { store = lent_state lending.bytes; hard = lending.hard }

-- the controller with this drive in that unit, or with none
abbrev pub controller_with : ControllerState → ℕ → Option DriveState → ControllerState
controller_with c unit drive =
    record c { port = port_with_drive c.port unit drive }

-- the controller without a drive in that unit
abbrev pub controller_without : ControllerState → ℕ → ControllerState
controller_without c unit = record (controller_with c unit None) {
  called = any_called (port_with_drive c.port unit None).exec.units;
}

-- whether the type of a handle's unit is read-only
abbrev pub is_read_only : Option ControllerState → ℕ → Bool
is_read_only None unit = false
is_read_only (Some c) unit = read_only_at c.port unit

-- a controller, and a slot for an image
abbrev pub Exchange : Type 0
Exchange = ControllerState × Slot

-- the image in the slot becomes a unit's, with this protection, and the slot is empty; or nothing changes
pub record Attaches (old : Exchange) (unit : ℕ) (hard : Bool) (answer : CallStatus) (new : Exchange)
    : Type 0 where
  pub answer_is : answer ≡ attach_answer old.0 unit (length old.1.held)
  pub attached : answer ≡ Done
      → new.0 ≡ controller_with old.0 unit (Some (lent_drive (record { bytes = old.1.held; hard = hard })))
  pub has : answer ≡ Done
      → image_at new.0 unit
      ≡ Some (record { bytes = old.1.held; hard = read_only_at old.0.port unit || hard })
  pub taken : answer ≡ Done → new.1 ≡ empty_slot
  pub refused : answer ≢ Done → new ≡ old

-- the slot gets a unit's image as the commands left it; or nothing changes
pub record Detaches (old : Exchange) (unit : ℕ) (answer : CallStatus) (new : Exchange) : Type 0 where
  pub answer_is : answer ≡ detach_answer old.0 unit (length old.1.held)
  pub detached : answer ≡ Done → new.0 ≡ controller_without old.0 unit
  pub given_back : answer ≡ Done → option_map (λ image. image.bytes) (image_at old.0 unit) ≡ Some new.1.held
  pub refused : answer ≢ Done → new ≡ old

-- the handle has a controller whose unit has this image
abbrev pub HasImage : Option ControllerState → ℕ → Lending → Type 0
HasImage (Some c) unit image = image_at c unit ≡ Some image
HasImage None unit image = ⊥

-- the handle had a controller whose unit had an image of these bytes
abbrev pub HadBytes : Option ControllerState → ℕ → List ℕ → Type 0
HadBytes (Some c) unit bytes = option_map (λ image. image.bytes) (image_at c unit) ≡ Some bytes
HadBytes None unit bytes = ⊥

-- the bytes of a unit's image, and none if it has no image
abbrev pub image_bytes_of : Option Lending → List ℕ
image_bytes_of (Some image) = image.bytes
image_bytes_of None = []

abbrev pub image_bytes_at : ControllerState → ℕ → List ℕ
image_bytes_at c unit = image_bytes_of (image_at c unit)

-- each slot has the bytes of its unit's image
pub record HasImagesOf (c : ControllerState) (images : UnitImages) : Type 0 where
  pub unit_0 : images.unit_0.held ≡ image_bytes_at c 0
  pub unit_1 : images.unit_1.held ≡ image_bytes_at c 1
  pub unit_2 : images.unit_2.held ≡ image_bytes_at c 2
  pub unit_3 : images.unit_3.held ≡ image_bytes_at c 3

-- the status of a call that puts the images into these slots
abbrev pub free_answer : UnitImages → CallStatus
free_answer images = if are_empty images then Done else NotEmpty

-- all slots get their images as the commands left them; or nothing changes
pub record GivesBack (old : ControllerState × UnitImages) (answer : CallStatus)
    (new : ControllerState × UnitImages) : Type 0 where
  pub answer_is : answer ≡ free_answer old.1
  pub given_back : answer ≡ Done → HasImagesOf old.0 new.1
  pub refused : answer ≢ Done → new ≡ old

-- the controller is freed, and C gets the images of its units; or nothing changes
pub record FreesOne (old : ControllerState) (images : UnitImages) (answer : CallStatus)
    (new : Option ControllerState) (images_after : UnitImages) : Type 0 where
  pub answer_is : answer ≡ free_answer images
  pub freed : answer ≡ Done → new ≡ None
  pub given_back : answer ≡ Done → HasImagesOf old images_after
  pub refused : answer ≢ Done → (new ≡ Some old) × (images_after ≡ images)

abbrev pub Frees : Option ControllerState → UnitImages → CallStatus → Option ControllerState → UnitImages
    → Type 0
Frees (Some c) images answer new images_after = FreesOne c images answer new images_after
Frees None images answer new images_after =
    (answer ≡ NoController) × (new ≡ None) × (images_after ≡ images)

-- a handle without a controller gets one, or none if an allocation fails; one with a controller keeps it
abbrev pub MakesNew : Option ControllerState → Profile → CallStatus → Option ControllerState → Type 0
MakesNew (Some c) profile answer new = (answer ≡ HasController) × (new ≡ Some c)
MakesNew None profile answer None = answer ≡ NoMemory
MakesNew None profile answer (Some c) = (answer ≡ Done) × (c ≡ controller_at_start profile)

-- the port after a drive was put back, and its unit into its former mode
abbrev pub port_put_back : PortState → ℕ → DriveState → Mode → PortState
port_put_back port u drive mode =
    record port { exec = with_mode (with_drive port.exec u (Some drive)) u mode }

-- a unit whose store is so changed, otherwise unchanged
abbrev pub unit_with : (StoreState → StoreState) → UnitState → UnitState
unit_with change unit = record unit { store = change unit.store }

-- the controller whose unit has a store that is so changed
abbrev pub with_store : ControllerState → ℕ → (StoreState → StoreState) → ControllerState
with_store c u change = record c {
  port = record c.port {
    exec = record c.port.exec {
      units = set c.port.exec.units u
          (option_map (unit_with change) (unwrap_or (slice_get c.port.exec.units u) None));
    };
  };
}

-- a unit whose store fails at a call, counted from now on, or never, if its bytes are in memory
abbrev pub unit_failing : Option ℕ → UnitState → UnitState
unit_failing call unit = unit_with (store_failing call) unit

-- the controller with such a unit u
abbrev pub controller_failing : ControllerState → ℕ → Option ℕ → ControllerState
controller_failing c u call = with_store c u (store_failing call)

pub record FailsAt (old : ControllerState) (unit : ℕ) (call : Option ℕ) (answer : CallStatus)
    (new : ControllerState) : Type 0 where
  pub answer_is : answer ≡ failing_answer old unit
  pub fails : answer ≡ Done → new ≡ controller_failing old unit call
  pub refused : answer ≢ Done → new ≡ old

-- ---- the write-protect button of a drive

-- a unit with this hardware write protection, otherwise unchanged
abbrev pub unit_protected : Bool → UnitState → UnitState
unit_protected hard unit = record unit { mode = record unit.mode { hard = hard } }

-- the port whose unit has this hardware write protection
abbrev pub port_protected : PortState → ℕ → Bool → PortState
port_protected port u hard = record port {
  exec = record port.exec {
    units = set port.exec.units u (option_map (unit_protected hard) (unwrap_or (slice_get port.exec.units u) None));
  };
}

-- the button protects a unit's image or not, but one of a read-only type stays protected; or nothing changes
pub record SetsProtection (old : ControllerState) (unit : ℕ) (hard : Bool) (answer : CallStatus)
    (new : ControllerState) : Type 0 where
  pub answer_is : answer ≡ unit_answer old unit
  pub set : answer ≡ Done
      → new ≡ record old { port = port_protected old.port unit (read_only_at old.port unit || hard) }
  pub refused : answer ≢ Done → new ≡ old

-- the guest writes SA
pub record WritesSa (old : ControllerState) (memory : List ℕ) (word : ℕ) (new : ControllerState)
    (memory_after : List ℕ) : Type 0 where
  pub steps : (new.port, memory_after) ≡ after_sa_write old.port.phase old.port memory word
  pub rest_stays : new ≡ record old { port = new.port }

-- a turn of the port in valid memory, which is stored as the last
pub record TakesTurn (old : ControllerState) (memory : List ℕ) (answer : CallStatus) (new : ControllerState)
    (memory_after : List ℕ) : Type 0 where
  pub trace : Trace
  pub answer_is : answer ≡ RanTurn (turn_of trace)
  pub last_is : new.last ≡ Some trace
  pub rest_stays : new ≡ record old { port = new.port; last = new.last }
  pub goes : TurnEffect old.port.phase old.port memory (turn_of trace) new.port memory_after
  pub tells : Traces trace old.port new.port

-- the status of a call with invalid memory
abbrev pub memory_refusal : List ℕ → CallStatus
memory_refusal memory = if length memory % 2 == 0 then TooLarge else BadLength

-- such a call changes nothing
pub record RefusesMemory (old : ControllerState) (memory : List ℕ) (answer : CallStatus)
    (new : ControllerState) (memory_after : List ℕ) : Type 0 where
  pub answer_is : answer ≡ memory_refusal memory
  pub stays : new ≡ old
  pub memory_stays : memory_after ≡ memory

pub record TurnsWhereMemory (old : ControllerState) (memory : List ℕ) (answer : CallStatus)
    (new : ControllerState) (memory_after : List ℕ) : Type 0 where
  pub turns : IsMemory memory → TakesTurn old memory answer new memory_after
  pub refuses : (IsMemory memory → ⊥) → RefusesMemory old memory answer new memory_after

-- the pending request is taken, if there is one, and its vector address is returned
abbrev pub TellsVector : Option ℕ → ℕ → Bool → ℕ → Type 0
TellsVector (Some address) before told after = (told ≡ true) × (after ≡ address)
TellsVector None before told after = (told ≡ false) × (after ≡ before)

pub record TakesInterrupt (old : ControllerState) (before : ℕ) (told : Bool) (new : ControllerState)
    (after : ℕ) : Type 0 where
  pub vector : TellsVector (vector_of old.port.interrupts) before told after
  pub address : told ≡ true → IsVectorAddress after
  pub gone : new ≡ record old { port = record old.port { interrupts = served old.port.interrupts } }

-- ---- a controller of the compatible profile

-- a handle without a controller gets one of this profile, if the numbers of its units don't wrap past 65,535
abbrev pub MakesIfNumbered : Bool → Profile → CallStatus → Option ControllerState → Type 0
MakesIfNumbered true profile answer new = MakesNew None profile answer new
MakesIfNumbered false profile answer new = (answer ≡ BadFirstUnit) × (new ≡ None)

-- the refusal of a new controller of this profile
abbrev pub refusal_of_profile : Profile → CallStatus
refusal_of_profile profile = if numbers_fit profile then NoMemory else BadFirstUnit

abbrev pub MakesNumbered : Option ControllerState → Profile → CallStatus → Option ControllerState → Type 0
MakesNumbered (Some c) profile answer new = (answer ≡ HasController) × (new ≡ Some c)
MakesNumbered None profile answer new = MakesIfNumbered (numbers_fit profile) profile answer new

-- a controller on the bus that C names, whose units have the numbers from this one on; or the bus doesn't
-- exist
abbrev pub MakesAs : Option ControllerState → Option Bus → ℕ → CallStatus → Option ControllerState → Type 0
MakesAs old None first answer new = (answer ≡ NoSuchBus) × (new ≡ old)
MakesAs old (Some bus) first answer new =
    MakesNumbered old (Compatible (record { bus = bus; first_unit = first })) answer new

abbrev pub refusal_of_new : Option Bus → CallStatus
refusal_of_new None = NoSuchBus
refusal_of_new (Some bus) = HasController

-- the status of a call that sets a unit's type
abbrev pub type_answer : ControllerState → ℕ → Option DriveType → CallStatus
type_answer c unit kind =
    if nat_lt 3 unit then NoSuchUnit
    else if is_some kind then (if has_image c unit then AlreadyAttached else Done)
    else NoSuchType

abbrev pub port_typed : PortState → ℕ → Option DriveType → PortState
port_typed port unit None = port
port_typed port unit (Some kind) = with_type port unit kind

pub record SetsType (old : ControllerState) (unit : ℕ) (kind : Option DriveType) (answer : CallStatus)
    (new : ControllerState) : Type 0 where
  pub answer_is : answer ≡ type_answer old unit kind
  pub typed : answer ≡ Done → new ≡ record old { port = port_typed old.port unit kind }
  pub refused : answer ≢ Done → new ≡ old
