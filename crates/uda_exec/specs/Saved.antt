-- The state of an executor as a plain value, without its stores, and an executor that continues from one.
-- MSCP Basic Disk Functions Manual: unit states, command ordering.
use Rattle.std.specs.Prelude.{◌≡◌, ◌==◌, nat_le, Bool, true, false, ◌&&◌, List, [], ◌∷◌, length, map}
use Rattle.std.specs.Prelude.{Option, Some, None, option_map, not}
use Rattle.uda_disk.specs.Units.{UnitState}
use Rattle.uda_exec.specs.Disks.{ExecState}
use Rattle.uda_exec.specs.Drives.{info_of, in_mode, drives_in}
use Rattle.uda_exec.specs.declared.drive_unit.UnitInfo.{UnitInfo}
use Rattle.uda_exec.specs.declared.saved.SavedExec.{SavedExec}

-- the mode and the size of each unit with a drive
abbrev pub infos_of : List (Option UnitState) → List (Option UnitInfo)
infos_of units = map (option_map info_of) units

-- the whole state, without the stores
abbrev pub saved_exec : ExecState → SavedExec
saved_exec exec = record {
  units = infos_of exec.units;
  pending = record { items = exec.pending };
  guest_ops = record { items = exec.guest_ops };
  position = exec.position;
}

abbrev pub same_flag : Bool → Bool → Bool
same_flag true flag = flag
same_flag false flag = not flag

-- a unit has a drive of the saved size and with the saved hardware write protection, or both have none
abbrev pub unit_fits : Option UnitInfo → Option UnitInfo → Bool
unit_fits None None = true
unit_fits (Some saved) (Some here) = saved.size == here.size && same_flag saved.mode.hard here.mode.hard
unit_fits _ _ = false

abbrev pub units_fit : List (Option UnitInfo) → List (Option UnitInfo) → Bool
units_fit [] [] = true
units_fit (saved ∷ more) (here ∷ rest) = unit_fits saved here && units_fit more rest
units_fit _ _ = false

-- no operation is listed without its command
abbrev pub has_commands : SavedExec → Bool
has_commands saved = nat_le (length saved.guest_ops.items) (length saved.pending.items)

-- whether an executor with these drives can continue from the saved state
abbrev pub exec_fits : SavedExec → ExecState → Bool
exec_fits saved exec = has_commands saved && units_fit saved.units (infos_of exec.units)

-- a unit that was saved with a drive has the saved mode; its store stays
abbrev pub unit_restored : Option UnitInfo → Option UnitState → Option UnitState
unit_restored None unit = unit
unit_restored (Some info) unit = in_mode info.mode unit

abbrev pub units_restored : List (Option UnitInfo) → List (Option UnitState) → List (Option UnitState)
units_restored (info ∷ more) (unit ∷ rest) = unit_restored info unit ∷ units_restored more rest
units_restored _ units = units

-- the executor with these drives that continues from the saved state
abbrev pub exec_restored : SavedExec → ExecState → ExecState
exec_restored saved exec = record {
  units = units_restored saved.units exec.units;
  pending = saved.pending.items;
  guest_ops = saved.guest_ops.items;
  position = saved.position;
}

-- with the drives that it had, an executor is restored as it was saved
pub record RestoresExec (old here : ExecState) : Type 0 where
  pub fits : exec_fits (saved_exec old) here ≡ true
  pub same : exec_restored (saved_exec old) here ≡ old

-- the same for each executor, whose invariant lists no operation without its command
abbrev pub ExecRestoredIsSaved : Type 0
ExecRestoredIsSaved = (old here : ExecState) → nat_le (length old.guest_ops) (length old.pending) ≡ true
    → drives_in here.units ≡ drives_in old.units → RestoresExec old here
