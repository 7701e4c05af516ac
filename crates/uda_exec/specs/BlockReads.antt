-- What a command reads of the blocks of its unit: only those of its range.
-- MSCP Basic Disk Functions Manual: transfer commands.
use Rattle.std.specs.Prelude.{◌≡◌, ℕ, List, Option, Some, None, slice_get}
use Rattle.uda_mem.specs.Put.{part}
use Rattle.uda_packet.specs.declared.command.Command.{Command}
use Rattle.uda_packet.specs.declared.end.End.{End}
use Rattle.uda_disk.specs.Disk.{Disk, Disks}
use Rattle.uda_disk.specs.Request.{Act, Extent, extent_of, blocks_for}
use Rattle.uda_disk.specs.Units.{Units, disks_of}
use Rattle.uda_exec.specs.Commands.{act_of}
use Rattle.uda_exec.specs.Effect.{effect}
use Rattle.uda_exec.specs.Execution.{TakesEffect}

-- the blocks of a range are the same in two lists
abbrev pub HaveSameRange : Option Extent → List (List ℕ) → List (List ℕ) → Type 0
HaveSameRange None blocks other = Unit {0}
HaveSameRange (Some e) blocks other = part other e.lbn (blocks_for e.bytes) ≡ part blocks e.lbn (blocks_for e.bytes)

-- two states of a unit look the same to an act: both have the same size, mode, and blocks of its range
abbrev pub LookSame : Act → Option (Option Disk) → Option (Option Disk) → Type 0
LookSame act (Some (Some disk)) (Some (Some other)) =
    (other.size ≡ disk.size) × ((other.mode ≡ disk.mode)
    × HaveSameRange (extent_of act) disk.blocks other.blocks)
LookSame act slot other = other ≡ slot

-- the same of all that a command sees of its unit
abbrev pub LookSameTo : Option Act → Option (Option Disk) → Option (Option Disk) → Type 0
LookSameTo None slot other = Unit {0}
LookSameTo (Some act) slot other = LookSame act slot other

-- Whatever the other blocks were, a command that takes effect would have had the same end message and left the same
-- memory
abbrev pub OnlyUsedBlocksAreRead : Type 0
OnlyUsedBlocksAreRead =
    (c : Command) (units units_after : Units) (memory memory_left : List ℕ) (e : End) (other : Disks)
    → (it : TakesEffect c units memory e units_after memory_left)
    → LookSameTo (act_of c.op memory) (slice_get (disks_of units) c.unit) (slice_get other c.unit)
    → ((effect it.outcome c (record { memory = memory; disks = other })).0 ≡ e)
    × ((effect it.outcome c (record { memory = memory; disks = other })).1.memory ≡ memory_left)
