-- The drives of an executor.
use Rattle.std.specs.Prelude.{ℕ, Bool, false, List, Option, Some, None, map, option_map, set}
use Rattle.std.specs.Prelude.{slice_get, unwrap_or}
use Rattle.uda_image.specs.declared.store.Drive.{Drive}
use Rattle.uda_image.specs.Store.{StoreState}
use Rattle.uda_disk.specs.declared.mode.Mode.{Mode}
use Rattle.uda_disk.specs.Units.{UnitState}
use Rattle.uda_exec.specs.Disks.{ExecState}
use Rattle.uda_exec.specs.declared.drive_unit.UnitInfo.{UnitInfo}

-- the contracts' view of a drive: its store, and its hardware write protection
pub record DriveState : Type 0 where
  pub store : StoreState
  pub hard : Bool

abbrev pub drive_state : {S : Type 0} → (S → StoreState) → Drive S → DriveState
drive_state state drive = record { store = state drive.store; hard = drive.hard }

abbrev pub drive_states : {S : Type 0} → (S → StoreState) → List (Option (Drive S)) → List (Option DriveState)
drive_states state drives = map (option_map (drive_state state)) drives

-- a new unit with this drive: available, without software write protection
abbrev pub fresh_unit : DriveState → UnitState
fresh_unit drive =
    record { store = drive.store; mode = record { online = false; hard = drive.hard; soft = false } }

abbrev pub fresh_units : List (Option DriveState) → List (Option UnitState)
fresh_units drives = map (option_map fresh_unit) drives

-- the drive of a unit
abbrev pub drive_in : UnitState → DriveState
drive_in unit = record { store = unit.store; hard = unit.mode.hard }

abbrev pub drives_in : List (Option UnitState) → List (Option DriveState)
drives_in units = map (option_map drive_in) units

-- a unit with a drive is available again, without software write protection; its store is unchanged
abbrev pub reset_unit : Option UnitState → Option UnitState
reset_unit unit = option_map (λ u. fresh_unit (drive_in u)) unit

-- the executor with this drive as unit u, or with none; the pending commands are unchanged, and without a
-- unit u everything is
abbrev pub with_drive : ExecState → ℕ → Option DriveState → ExecState
with_drive exec u drive = record exec { units = set exec.units u (option_map fresh_unit drive) }

-- the drive that is returned for a new drive of unit u: the old one, or the new one if there is no unit u
abbrev pub returned_drive : List (Option UnitState) → ℕ → Option DriveState → Option DriveState
returned_drive units u drive = unwrap_or (slice_get (drives_in units) u) drive

-- the mode and the size of a unit
abbrev pub info_of : UnitState → UnitInfo
info_of unit = record { mode = unit.mode; size = unit.store.size }

abbrev pub info_at : Option (Option UnitState) → Option UnitInfo
info_at (Some (Some unit)) = Some (info_of unit)
info_at _ = None

-- the store of a unit
abbrev pub store_at : Option (Option UnitState) → Option StoreState
store_at (Some (Some unit)) = Some unit.store
store_at _ = None

-- the mode and the size that a unit without a drive has for a host
abbrev pub ABSENT : UnitInfo
ABSENT = record { mode = record { online = false; hard = false; soft = false }; size = 0 }

-- a unit in this mode; its store is unchanged
abbrev pub in_mode : Mode → Option UnitState → Option UnitState
in_mode m unit = option_map (λ u. record { store = u.store; mode = m }) unit

-- the executor with unit u in this mode; without a drive or without a unit u everything is unchanged
abbrev pub with_mode : ExecState → ℕ → Mode → ExecState
with_mode exec u m =
    record exec { units = set exec.units u (in_mode m (unwrap_or (slice_get exec.units u) None)) }
