-- What holds of a controller of C beyond what holds of its port. C has no call that changes a drive unseen by the
-- guest.
-- MSCP Basic Disk Functions Manual: unit states, unit numbers, attention messages, write protection.
use Rattle.std.specs.Prelude.{◌≡◌, ℕ, ◌<◌, nat_le, Bool, true, ◌&&◌, ◌||◌, not, List, Option, Some, None}
use Rattle.std.specs.Prelude.{slice_get, get_or}
use Rattle.uda_packet.specs.declared.drive_type.DriveType.{DriveType}
use Rattle.uda_packet.specs.declared.drive_type.DriveType.TheVariants.{Ra81}
use Rattle.uda_disk.specs.declared.mode.Mode.{Mode}
use Rattle.uda_exec.specs.declared.drive_unit.UnitInfo.{UnitInfo}
use Rattle.uda_exec.specs.Drives.{info_at}
use Rattle.uda_port.specs.declared.profile.Profile.{Profile}
use Rattle.uda_port.specs.declared.profile.Profile.TheVariants.{Strict, Compatible}
use Rattle.uda_port.specs.declared.guest.Guest.{Guest}
use Rattle.uda_port.specs.declared.phase.Phase.{Phase}
use Rattle.uda_port.specs.declared.saved.Saved.{Saved}
use Rattle.uda_port.specs.Guest.{is_due}
use Rattle.uda_port.specs.Port.{PortState, read_only_by}
use Rattle.uda_port.specs.Possible.{has_run}

-- what a controller reports about one unit: its type, and whether an attention message is due
pub record UnitNotice : Type 0 where
  pub kind : DriveType
  pub due : Bool

-- the largest number of a first unit: the fourth unit then has the number 65535
abbrev pub LAST_FIRST_UNIT : ℕ
LAST_FIRST_UNIT = 65532

abbrev pub numbers_fit : Profile → Bool
numbers_fit Strict = true
numbers_fit (Compatible identity) = nat_le identity.first_unit LAST_FIRST_UNIT

-- the unit is available, without software write protection
abbrev pub is_as_attached : Mode → Bool
is_as_attached mode = not mode.online && not mode.soft

-- an available unit of the strict profile isn't software-protected
abbrev pub can_rest : Profile → Mode → Bool
can_rest Strict mode = mode.online || not mode.soft
can_rest (Compatible identity) mode = true

-- A unit with an image. The image is write-protected if the unit's type is read-only. Until the port runs, the unit is as
-- it was attached. No attention message is due while it is online.
unfoldable pub image_fits : Profile → Phase → UnitNotice → UnitInfo → Bool
image_fits profile phase notice info =
    (not (read_only_by profile (Some notice.kind)) || info.mode.hard)
    && ((has_run phase || is_as_attached info.mode)
    && (not (info.mode.online && notice.due) && can_rest profile info.mode))

-- any unit; for one without an image no attention message is due
abbrev pub unit_fits : Profile → Phase → UnitNotice → Option UnitInfo → Bool
unit_fits profile phase notice None = not notice.due
unit_fits profile phase notice (Some info) = image_fits profile phase notice info

abbrev pub notice_of : List DriveType → List Bool → ℕ → UnitNotice
notice_of kinds attentions u = record { kind = get_or kinds u Ra81; due = is_due attentions u }

-- whether a unit of a port is so
abbrev pub fits_at : PortState → ℕ → Bool
fits_at port u =
    unit_fits port.profile port.phase (notice_of port.guest.types port.guest.attentions u)
    (info_at (slice_get port.exec.units u))

-- the port of a controller of C
pub record FitsController (port : PortState) : Type 0 where
  pub numbers : numbers_fit port.profile ≡ true
  pub units : (u : ℕ) → u < 4 → fits_at port u ≡ true

-- whether unit u of these is so
abbrev pub fits_in : Profile → Phase → Guest → List (Option UnitInfo) → ℕ → Bool
fits_in profile phase guest units u =
    unit_fits profile phase (notice_of guest.types guest.attentions u) (get_or units u None)

-- whether all four are
abbrev pub units_fit : Profile → Phase → Guest → List (Option UnitInfo) → Bool
units_fit profile phase guest units =
    fits_in profile phase guest units 0
    && (fits_in profile phase guest units 1
    && (fits_in profile phase guest units 2 && fits_in profile phase guest units 3))

-- a controller of C can have the state
abbrev pub fits_controller : Saved → Bool
fits_controller saved =
    numbers_fit saved.profile && units_fit saved.profile saved.phase saved.guest saved.exec.units
