-- The units as requests see them. MSCP Basic Disk Functions Manual: unit states, write protection, unit
-- flags.
use Rattle.std.specs.Prelude.{ℕ, ◌+◌, List, Option, if◌then◌else◌}
use Rattle.uda_disk.specs.declared.mode.Mode.{Mode}

-- a unit with a drive: its blocks, their number, and its mode
pub record Disk : Type 0 where
  pub blocks : List (List ℕ)
  pub size : ℕ
  pub mode : Mode

-- the units; None is a unit without a drive
abbrev pub Disks : Type 0
Disks = List (Option Disk)

-- the unit flags of software and of hardware write protection
abbrev pub software_protection : ℕ
software_protection = 0x1000

abbrev pub hardware_protection : ℕ
hardware_protection = 0x2000

-- the unit flags of this mode
abbrev pub flags_of : Mode → ℕ
flags_of mode =
    (if mode.soft then software_protection else 0) + (if mode.hard then hardware_protection else 0)
