-- The effect of one execution in the compatible profile: an eligible pending command is removed and executed
-- with its additional operation.
-- MSCP Basic Disk Functions Manual: command ordering, end messages.
use Rattle.std.specs.Prelude.{◌≡◌, ℕ, List, remove}
use Rattle.uda_packet.specs.declared.command.Command.{Command}
use Rattle.uda_packet.specs.declared.end.End.{End}
use Rattle.uda_packet.specs.declared.guest_command.GuestOp.{GuestOp}
use Rattle.uda_packet.specs.declared.guest_command.GuestOp.TheVariants as guest
use Rattle.uda_packet.specs.declared.reply.Reply.{Reply}
use Rattle.uda_packet.specs.Reply.{basic_reply}
use Rattle.uda_disk.specs.Units.{Units, unit_attributes}
use Rattle.uda_exec.specs.Disks.{ExecState}
use Rattle.uda_exec.specs.Execution.{Executes, TakesOut}
use Rattle.uda_exec.specs.GuestOps.{op_at}
use Rattle.uda_exec.specs.SetUnit.{SetsUnit}
use Rattle.uda_exec.specs.Compare.{ComparesUnits}

-- a command that the strict profile has is executed without an additional operation
pub record ExecutesBasic (c : Command) (units : Units) (memory : List ℕ) (r : Reply) (units_after : Units)
    (memory_left : List ℕ) : Type 0 where
  pub end : End
  pub reply_is : r ≡ basic_reply end
  pub executes : Executes c units memory end units_after memory_left

-- the effect of a command, by its additional operation
abbrev pub ExecutesAs : GuestOp → Command → Units → List ℕ → Reply → Units → List ℕ → Type 0
ExecutesAs guest.Basic c units memory r units_after memory_left =
    ExecutesBasic c units memory r units_after memory_left
ExecutesAs guest.SetUnit c units memory r units_after memory_left =
    SetsUnit c units memory r units_after memory_left
ExecutesAs guest.Compare c units memory r units_after memory_left =
    ComparesUnits c units memory r units_after memory_left

-- the command at index j is removed and executed with its additional operation
pub record ExecutesGuestAt (j : ℕ) (old : ExecState) (memory : List ℕ) (r : Reply) (new : ExecState)
    (memory_left : List ℕ) : Type 0 where
  pub command : Command
  pub taken : TakesOut old.pending j command new.pending
  pub ops_left : new.guest_ops ≡ remove old.guest_ops j
  pub executes : ExecutesAs (op_at old.guest_ops j) command old.units memory r new.units memory_left
  pub all_attributes_stay : unit_attributes new.units ≡ unit_attributes old.units
