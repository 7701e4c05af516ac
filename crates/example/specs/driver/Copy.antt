-- The copy of a unit to another.
use Rattle.std.specs.Prelude.{◌≡◌, ℕ, ◌<◌, ◌≤◌, false, List, Option, Some, None, slice_get}
use Rattle.uda_disk.specs.Disk.{Disk}
use Rattle.uda_disk.specs.Units.{Units, disks_of}

-- units 0 and 1 have this many blocks, at most 32; unit 1 is available, and has no hardware write
-- protection
pub record CanCopy (units : Units) (blocks : ℕ) : Type 0 where
  pub some : 0 < blocks
  pub few : blocks ≤ 32
  pub source : Disk
  pub from : slice_get (disks_of units) 0 ≡ Some (Some source)
  pub source_size : source.size ≡ blocks
  pub target : Disk
  pub to : slice_get (disks_of units) 1 ≡ Some (Some target)
  pub target_size : target.size ≡ blocks
  pub available : target.mode.online ≡ false
  pub writable : target.mode.hard ≡ false

-- the blocks of a unit, if it has a drive
abbrev pub blocks_in : Option (Option Disk) → Option (List (List ℕ))
blocks_in (Some (Some disk)) = Some disk.blocks
blocks_in _ = None

abbrev pub blocks_at : Units → ℕ → Option (List (List ℕ))
blocks_at units u = blocks_in (slice_get (disks_of units) u)

-- unit 1 has the blocks of unit 0, which are unchanged
pub record IsCopied (units units_after : Units) : Type 0 where
  pub copied : blocks_at units_after 1 ≡ blocks_at units 0
  pub source_stays : blocks_at units_after 0 ≡ blocks_at units 0
