-- Laws of one execution: of the only pending command, and of the blocks that a command uses.
-- MSCP Basic Disk Functions Manual: command ordering, transfer commands.
use Rattle.std.specs.Prelude.{◌≡◌, ℕ, List, [], ◌∷◌, length}
use Rattle.uda_packet.specs.declared.command.Command.{Command}
use Rattle.uda_packet.specs.declared.end.End.{End}
use Rattle.uda_packet.specs.declared.reply.Reply.{Reply}
use Rattle.uda_exec.specs.Disks.{ExecState}
use Rattle.uda_exec.specs.Execution.{Executes, ExecutesAt}
use Rattle.uda_exec.specs.GuestExecution.{ExecutesAs, ExecutesGuestAt}
use Rattle.uda_exec.specs.GuestOps.{op_at}
use Rattle.uda_exec.specs.BlockUse.{block_use_at, written_at}
use Rattle.uda_exec.specs.BlockChanges.{ChangesOnly}

-- the only pending command is the one that is executed, and none is pending then
abbrev pub OnlyOneIsExecuted : Type 0
OnlyOneIsExecuted =
    (j : ℕ) (c : Command) (old new : ExecState) (memory memory_left : List ℕ) (e : End)
    → old.pending ≡ c ∷ [] → ExecutesAt j old memory e new memory_left
    → (new.pending ≡ []) × Executes c old.units memory e new.units memory_left

-- the same in the compatible profile
abbrev pub OnlyGuestIsExecuted : Type 0
OnlyGuestIsExecuted =
    (j : ℕ) (c : Command) (old new : ExecState) (memory memory_left : List ℕ) (r : Reply)
    → old.pending ≡ c ∷ [] → ExecutesGuestAt j old memory r new memory_left
    → (new.pending ≡ [])
    × ExecutesAs (op_at old.guest_ops 0) c old.units memory r new.units memory_left

-- a command changes only the blocks that it uses, and if it writes them, they get the bytes of `written_at`
abbrev pub OnlyUsedBlocksChange : Type 0
OnlyUsedBlocksChange =
    (j : ℕ) (old new : ExecState) (memory memory_left : List ℕ) (r : Reply)
    → ExecutesGuestAt j old memory r new memory_left
    → ChangesOnly (block_use_at old j (length memory)) (written_at old j memory) old.units new.units
