-- The effects of C's calls that save and restore a controller.
use Rattle.std.specs.Prelude.{◌≡◌, ◌≢◌, ℕ, nat_le, Bool, true, false, ◌&&◌, List, ◌∷◌, length, map, option_map}
use Rattle.std.specs.Prelude.{Option, Some, None, Result, Ok, Err}
use Rattle.uda_disk.specs.Units.{UnitState}
use Rattle.uda_exec.specs.declared.drive_unit.UnitInfo.{UnitInfo}
use Rattle.uda_exec.specs.Drives.{drives_in}
use Rattle.uda_exec.specs.Saved.{exec_fits, has_commands}
use Rattle.uda_port.specs.declared.saved.RestoreError.{RestoreError}
use Rattle.uda_port.specs.declared.saved.RestoreError.TheVariants.{Inconsistent, OtherDrives}
use Rattle.uda_port.specs.Port.{PortState}
use Rattle.uda_port.specs.Saved.{saved_port, port_restored, IsRestorable, IsNotRestorable}
use Rattle.uda_port.specs.Saved.{SameButCounts}
use Rattle.uda_saved.specs.declared.state.SavedState.{SavedState}
use Rattle.uda_saved.specs.declared.state.BytesError.{BytesError}
use Rattle.uda_saved.specs.declared.state.BytesError.TheVariants as bytes
use Rattle.uda_saved.specs.State.{state_bytes, IsRead, BytesEffect}
use Rattle.uda_c.specs.declared.call_status.CallStatus.{CallStatus}
use Rattle.uda_c.specs.declared.call_status.CallStatus.TheVariants.{Done, BadLength, OtherVersion, BadState}
use Rattle.uda_c.specs.declared.call_status.CallStatus.TheVariants.{OtherImages}
use Rattle.uda_c.specs.declared.saving.RestoreRefusal.{RestoreRefusal}
use Rattle.uda_c.specs.declared.saving.RestoreRefusal.TheVariants as refusal
use Rattle.uda_c.specs.ControllerState.{ControllerState}
use Rattle.uda_c.specs.Controllers.{unit_failing}
use Rattle.uda_c.specs.Fits.{FitsController, fits_controller}

-- ---- save

-- the number of the call of a unit's image that is to fail
abbrev pub failing_call_of : Option (Option UnitState) → Option ℕ
failing_call_of (Some (Some unit)) = unit.store.failing_call
failing_call_of _ = None

-- the same of a unit
abbrev pub call_of : Option UnitState → Option ℕ
call_of unit = failing_call_of (Some unit)

-- the state of a controller: that of its port, and the calls of its images that are to fail
abbrev pub controller_saved : ControllerState → SavedState
controller_saved c =
    record { port = saved_port c.port; failing_calls = map call_of c.port.exec.units }

-- the bytes of the state are copied, if C has as many bytes; otherwise nothing changes
pub record Saves (c : ControllerState) (old : List ℕ) (answer : CallStatus) (new : List ℕ) : Type 0 where
  pub copied : length old ≡ 1576 → (answer ≡ Done) × (new ≡ state_bytes (controller_saved c))
  pub refused : length old ≢ 1576 → (answer ≡ BadLength) × (new ≡ old)

-- ---- restore

-- the units with these calls that are to fail
abbrev pub units_failing : List (Option ℕ) → List (Option UnitState) → List (Option UnitState)
units_failing (call ∷ more) (unit ∷ rest) = option_map (unit_failing call) unit ∷ units_failing more rest
units_failing _ units = units

abbrev pub port_failing : List (Option ℕ) → PortState → PortState
port_failing calls port =
    record port { exec = record port.exec { units = units_failing calls port.exec.units } }

abbrev pub controller_failing_at : List (Option ℕ) → ControllerState → ControllerState
controller_failing_at calls c = record c { port = port_failing calls c.port }

-- the controller with these images that continues from the state; no turn is its last
abbrev pub controller_restored : SavedState → ControllerState → ControllerState
controller_restored s c =
    record c { port = port_failing s.failing_calls (port_restored s.port c.port.exec); last = None }

-- a call that is to fail is one of a unit with a drive
abbrev pub call_has_drive : Option UnitInfo → Option ℕ → Bool
call_has_drive None (Some call) = false
call_has_drive unit call = true

abbrev pub calls_have_drives : List (Option UnitInfo) → List (Option ℕ) → Bool
calls_have_drives (unit ∷ more) (call ∷ rest) = call_has_drive unit call && calls_have_drives more rest
calls_have_drives _ _ = true

abbrev pub has_drives : SavedState → Bool
has_drives s = calls_have_drives s.port.exec.units s.failing_calls

abbrev pub refusal_of_bytes : BytesError → CallStatus
refusal_of_bytes bytes.Length = BadLength
refusal_of_bytes bytes.Version = OtherVersion
refusal_of_bytes bytes.Invalid = BadState

abbrev pub refusal_of_state : RestoreError → CallStatus
refusal_of_state Inconsistent = BadState
refusal_of_state OtherDrives = OtherImages

-- the status of a restore
abbrev pub restore_status : Result Unit RestoreRefusal → CallStatus
restore_status (Ok done) = Done
restore_status (Err (refusal.Bytes cause)) = refusal_of_bytes cause
restore_status (Err refusal.CallWithoutDrive) = BadState
restore_status (Err refusal.UnfitUnits) = BadState
restore_status (Err refusal.OpWithoutCommand) = BadState
restore_status (Err (refusal.Port cause)) = refusal_of_state cause

-- the bytes are those of this state. Each of its calls that are to fail is one of a unit with a drive, its units fit a
-- controller, and each of its additional operations has its command
pub record IsState (bytes : List ℕ) (state : SavedState) : Type 0 where
  pub read : IsRead bytes state
  pub drives : has_drives state ≡ true
  pub fits : fits_controller state.port ≡ true
  pub ops : has_commands state.port.exec ≡ true

-- the controller continues from the state
pub record IsContinued (old : ControllerState) (bytes : List ℕ) (new : ControllerState) : Type 0 where
  pub state : SavedState
  pub is_state : IsState bytes state
  pub fits : IsRestorable state.port old.port.exec
  pub restored : new ≡ controller_restored state old

-- a call of a unit without a drive is to fail
pub record HasCallWithoutDrive (bytes : List ℕ) : Type 0 where
  pub state : SavedState
  pub read : IsRead bytes state
  pub no_drive : has_drives state ≡ false

-- no controller has such units
pub record HasUnfitUnits (bytes : List ℕ) : Type 0 where
  pub state : SavedState
  pub read : IsRead bytes state
  pub drives : has_drives state ≡ true
  pub unfit : fits_controller state.port ≡ false

-- an additional operation has no command
pub record HasOpWithoutCommand (bytes : List ℕ) : Type 0 where
  pub state : SavedState
  pub read : IsRead bytes state
  pub drives : has_drives state ≡ true
  pub fits : fits_controller state.port ≡ true
  pub no_command : has_commands state.port.exec ≡ false

-- no port continues from the state, or none with these images
pub record IsNotContinued (cause : RestoreError) (old : ControllerState) (bytes : List ℕ) : Type 0 where
  pub state : SavedState
  pub is_state : IsState bytes state
  pub refused : IsNotRestorable cause state.port old.port.exec

-- the effect of a restore: the first check that fails decides, and then nothing changes
abbrev pub RestoreOutcome : Result Unit RestoreRefusal → ControllerState → List ℕ → ControllerState → Type 0
RestoreOutcome (Ok done) old bytes new = IsContinued old bytes new
RestoreOutcome (Err (refusal.Bytes cause)) old bytes new = BytesEffect bytes (Err cause) × (new ≡ old)
RestoreOutcome (Err refusal.CallWithoutDrive) old bytes new = HasCallWithoutDrive bytes × (new ≡ old)
RestoreOutcome (Err refusal.UnfitUnits) old bytes new = HasUnfitUnits bytes × (new ≡ old)
RestoreOutcome (Err refusal.OpWithoutCommand) old bytes new = HasOpWithoutCommand bytes × (new ≡ old)
RestoreOutcome (Err (refusal.Port cause)) old bytes new = IsNotContinued cause old bytes × (new ≡ old)

pub record Restores (old : ControllerState) (bytes : List ℕ) (answer : CallStatus) (new : ControllerState)
    : Type 0 where
  pub outcome : Result Unit RestoreRefusal
  pub answer_is : answer ≡ restore_status outcome
  pub effect : RestoreOutcome outcome old bytes new

-- ---- the law

-- the images of a controller are those that another had when it was saved; other calls of them may be to fail
abbrev pub HasSavedImages : ControllerState → ControllerState → Type 0
HasSavedImages saved here =
    drives_in (units_failing (map call_of saved.port.exec.units) here.port.exec.units)
    ≡ drives_in saved.port.exec.units

-- the bytes of the saved controller are accepted, and lead to its port, except for the counts
pub record ContinuesAs (saved here : ControllerState) : Type 0 where
  pub drives : has_drives (controller_saved saved) ≡ true
  pub fits : exec_fits (saved_port saved.port).exec here.port.exec ≡ true
  pub units : FitsController saved.port → fits_controller (saved_port saved.port) ≡ true
  pub same : SameButCounts saved.port (controller_restored (controller_saved saved) here).port

abbrev pub ControllerIsSaved : Type 0
ControllerIsSaved =
    (saved here : ControllerState)
    → nat_le (length saved.port.exec.guest_ops) (length saved.port.exec.pending) ≡ true
    → HasSavedImages saved here → ContinuesAs saved here
