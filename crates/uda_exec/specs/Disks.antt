-- The pending commands of a controller. MSCP Basic Disk Functions Manual: command ordering.
use Rattle.std.specs.Prelude.{ℕ, List, []}
use Rattle.uda_packet.specs.declared.command.Command.{Command}
use Rattle.uda_packet.specs.declared.guest_command.GuestOp.{GuestOp}
use Rattle.uda_disk.specs.Units.{Units}
use Rattle.uda_exec.specs.declared.scheduler.Position.{Position}

-- the maximum number of pending commands, which is also the most that a host may have outstanding
abbrev pub PENDING_LIMIT : ℕ
PENDING_LIMIT = 15

-- block 0 of unit 0
abbrev pub FIRST_POSITION : Position
FIRST_POSITION = record { unit = 0; lbn = 0 }

-- An executor: its units, its pending commands with the oldest first, and the additional operation of each. A
-- command past the end of the last list has no additional operation. The position is the start of the last
-- transfer.
pub record ExecState : Type 0 where
  pub units : Units
  pub pending : List Command
  pub guest_ops : List GuestOp
  pub position : Position

-- an executor whose commands have no additional operation, and which has executed no transfer yet
abbrev pub basic_exec : Units → List Command → ExecState
basic_exec units pending =
    record { units = units; pending = pending; guest_ops = []; position = FIRST_POSITION }
