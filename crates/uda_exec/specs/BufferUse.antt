-- The part of host memory that a pending command uses.
-- MSCP Basic Disk Functions Manual: transfer commands, Compare Host Data.
use Rattle.std.specs.Prelude.{ℕ, min, Option, option_map, slice_get}
use Rattle.uda_packet.specs.declared.command.Op.{Op}
use Rattle.uda_packet.specs.declared.guest_command.GuestCommand.{GuestCommand}
use Rattle.uda_packet.specs.declared.guest_command.GuestOp.{GuestOp}
use Rattle.uda_packet.specs.declared.guest_command.GuestOp.TheVariants as guest
use Rattle.uda_packet.specs.declared.reply.Reply.{Reply}
use Rattle.uda_packet.specs.declared.reply.ReplyBody.{ReplyBody}
use Rattle.uda_packet.specs.declared.reply.ReplyBody.TheVariants.{Basic}
use Rattle.uda_exec.specs.declared.buffer_use.BufferUse.{BufferUse}
use Rattle.uda_exec.specs.Commands.{buffer_start, buffer_length, memory_read_length, memory_write_length}
use Rattle.uda_exec.specs.Compare.{compared}
use Rattle.uda_exec.specs.Disks.{ExecState}
use Rattle.uda_exec.specs.Execution.{bytes_of}
use Rattle.uda_exec.specs.GuestOps.{op_at}

-- the number of bytes of its buffer that a command may read or change, by its additional operation
abbrev pub used_length : GuestOp → Op → ℕ
used_length guest.Compare o = (compared o).bytes
used_length _ o = buffer_length o

-- the number that it may change
abbrev pub changed_length : GuestOp → Op → ℕ
changed_length guest.Basic o = memory_write_length o
changed_length _ o = 0

-- the number that it reads
abbrev pub read_length : GuestOp → Op → ℕ
read_length guest.Compare o = (compared o).bytes
read_length _ o = memory_read_length o

-- the byte count of the end message of a command that the strict profile has, 0 of any other
abbrev pub bytes_moved : ReplyBody → ℕ
bytes_moved (Basic body) = bytes_of body
bytes_moved _ = 0

-- the number of bytes that a command with this end message changed: a Read that failed leaves the rest of its buffer
abbrev pub moved_length : GuestOp → Op → Reply → ℕ
moved_length g o r = min (changed_length g o) (bytes_moved r.body)

abbrev pub buffer_use : GuestCommand → BufferUse
buffer_use g = record {
  start = buffer_start g.command.op;
  used = used_length g.op g.command.op;
  changed = changed_length g.op g.command.op;
}

-- the pending command at an index, with its additional operation
abbrev pub guest_at : ExecState → ℕ → Option GuestCommand
guest_at exec place =
    option_map (λ c. record { command = c; op = op_at exec.guest_ops place }) (slice_get exec.pending place)

-- what it uses, if there is one
abbrev pub buffer_use_at : ExecState → ℕ → Option BufferUse
buffer_use_at exec place = option_map buffer_use (guest_at exec place)
