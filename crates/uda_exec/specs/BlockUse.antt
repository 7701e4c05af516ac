-- The blocks that a pending command uses, and the bytes that it writes to them.
-- MSCP Basic Disk Functions Manual: transfer commands, Compare Host Data.
use Rattle.std.specs.Prelude.{ℕ, ◌*◌, ◌&&◌, nat_lt, is_none, List, [], length, Option, Some, None, slice_get}
use Rattle.std.specs.Prelude.{if◌then◌else◌}
use Rattle.std.specs.List.{concat}
use Rattle.uda_packet.specs.declared.command.Op.{Op}
use Rattle.uda_packet.specs.declared.end.Kind.{Kind}
use Rattle.uda_packet.specs.declared.end.Kind.TheVariants as kind
use Rattle.uda_packet.specs.declared.guest_command.GuestCommand.{GuestCommand}
use Rattle.uda_packet.specs.declared.guest_command.GuestOp.{GuestOp}
use Rattle.uda_packet.specs.declared.guest_command.GuestOp.TheVariants as guest
use Rattle.uda_packet.specs.declared.transfer.Transfer.{Transfer}
use Rattle.uda_packet.specs.Transfer.{transfer_of, changes_blocks}
use Rattle.uda_exec.specs.declared.block_use.BlockAccess.{BlockAccess}
use Rattle.uda_exec.specs.declared.block_use.BlockAccess.TheVariants.{Reads, Checks, Writes}
use Rattle.uda_exec.specs.declared.block_use.BlockUse.{BlockUse}
use Rattle.uda_exec.specs.declared.drive_unit.UnitInfo.{UnitInfo}
use Rattle.uda_exec.specs.BufferChecks.{transfer_refusal}
use Rattle.uda_exec.specs.BufferUse.{guest_at}
use Rattle.uda_exec.specs.Commands.{block_count}
use Rattle.uda_exec.specs.Compare.{compared}
use Rattle.uda_exec.specs.Disks.{ExecState}
use Rattle.uda_exec.specs.Drives.{info_at}
use Rattle.uda_exec.specs.Transfers.{blocks_due, blocks_stored}

-- the transfer of a command: a Compare Host Data counts as a Read
abbrev pub transfer_by : GuestOp → Op → Option Transfer
transfer_by guest.Basic o = transfer_of o
transfer_by guest.SetUnit o = None
transfer_by guest.Compare o = Some (compared o)

-- how a transfer of this kind uses the blocks of its range
abbrev pub access_by : Kind → BlockAccess
access_by kind.Access = Checks
access_by kind.Erase = Writes
access_by kind.Read = Reads
access_by kind.Write = Writes

-- a transfer that moves blocks in memory of this length, on a unit in this state: no check fails, and it has blocks
abbrev pub used_by : Option Transfer → ℕ → Option UnitInfo → Option Transfer
used_by (Some t) memory (Some info) =
    if is_none (transfer_refusal t memory info.size info.mode) && nat_lt 0 (block_count t) then Some t else None
used_by _ memory _ = None

-- such a transfer of a command
abbrev pub transfer_used : Option GuestCommand → ExecState → ℕ → Option Transfer
transfer_used None exec memory = None
transfer_used (Some g) exec memory =
    used_by (transfer_by g.op g.command.op) memory (info_at (slice_get exec.units g.command.unit))

-- such a transfer of the pending command at an index
abbrev pub transfer_used_at : ExecState → ℕ → ℕ → Option Transfer
transfer_used_at exec place memory = transfer_used (guest_at exec place) exec memory

-- the blocks of its range, on the unit of its command
abbrev pub range_of : Option GuestCommand → Option Transfer → Option BlockUse
range_of (Some g) (Some t) = Some (record {
  unit = g.command.unit;
  first = t.lbn;
  count = block_count t;
  access = access_by t.kind;
})
range_of _ _ = None

-- the blocks that the pending command at an index uses, in memory of this length
abbrev pub block_use_at : ExecState → ℕ → ℕ → Option BlockUse
block_use_at exec place memory = range_of (guest_at exec place) (transfer_used_at exec place memory)

-- the bytes of the blocks that a transfer writes if none of them fails
abbrev pub bytes_written : Option Transfer → List ℕ → List ℕ
bytes_written None memory = []
bytes_written (Some t) memory = concat (blocks_stored t (blocks_due t [] memory))

-- the same of the pending command at an index
abbrev pub written_at : ExecState → ℕ → List ℕ → List ℕ
written_at exec place memory = bytes_written (transfer_used_at exec place (length memory)) memory

-- their number
abbrev pub size_written : Option Transfer → ℕ
size_written None = 0
size_written (Some t) = if changes_blocks t.kind then 512 * block_count t else 0
