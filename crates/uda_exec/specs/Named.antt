-- Search for pending commands by their unit and reference.
-- MSCP Basic Disk Functions Manual: Abort, Get Command Status.
use Rattle.std.specs.Prelude.{ℕ, Bool, ◌&&◌, nat_eq, List, ◌++◌, Option, Some, None, find, position, remove}
use Rattle.std.specs.Prelude.{unwrap_or}
use Rattle.std.specs.List.{before_first, after_first}
use Rattle.std.specs.Option.{option_map_or}
use Rattle.uda_packet.specs.declared.command.Command.{Command}
use Rattle.uda_packet.specs.declared.guest_command.GuestOp.{GuestOp}
use Rattle.uda_packet.specs.declared.reply.Reply.{Reply}
use Rattle.uda_packet.specs.GuestCommands.{blank_reply}
use Rattle.uda_disk.specs.Status.{ABORTED}
use Rattle.uda_exec.specs.Disks.{ExecState}
use Rattle.uda_exec.specs.Commands.{bytes_asked, is_transfer}
use Rattle.uda_exec.specs.GuestOps.{op_at}
use Rattle.uda_exec.specs.SetUnit.{guest_reply}

-- a command is for this unit and has this reference
abbrev pub is_named : ℕ → ℕ → Command → Bool
is_named drive number c = nat_eq c.unit drive && nat_eq c.reference number

-- the oldest such pending command
abbrev pub oldest_named : ℕ → ℕ → List Command → Option Command
oldest_named drive number pending = find (is_named drive number) pending

-- its index, and its additional operation
abbrev pub place_named : ℕ → ℕ → ExecState → Option ℕ
place_named drive number exec = position (is_named drive number) exec.pending

abbrev pub guest_op_named : ℕ → ℕ → ExecState → GuestOp
guest_op_named drive number exec = op_at exec.guest_ops (unwrap_or (place_named drive number exec) 0)

abbrev pub without_op : Option ℕ → List GuestOp → List GuestOp
without_op None ops = ops
without_op (Some place) ops = remove ops place

-- the executor without that command
abbrev pub taken_out : ℕ → ℕ → ExecState → ExecState
taken_out drive number exec = record exec {
  pending =
      before_first (is_named drive number) exec.pending ++ after_first (is_named drive number) exec.pending;
  guest_ops = without_op (place_named drive number exec) exec.guest_ops;
}

-- MSCP: Abort. The end message of a removed command: all its numbers are 0.
abbrev pub aborted : GuestOp → Command → Reply
aborted op c = guest_reply c ABORTED (blank_reply op c.op)

-- such a command that is a transfer
abbrev pub is_named_transfer : ℕ → ℕ → Command → Bool
is_named_transfer drive number c = is_named drive number c && is_transfer c.op

-- MSCP: Get Command Status. The byte count of the oldest such transfer, or 0 if there is none.
abbrev pub progress_of : ℕ → ℕ → List Command → ℕ
progress_of drive number pending =
    option_map_or (λ c. bytes_asked c.op) (find (is_named_transfer drive number) pending) 0
