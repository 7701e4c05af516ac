-- The blocks that the next turn uses, and the bytes that it writes to them.
-- MSCP Basic Disk Functions Manual: transfer commands, Compare Host Data.
use Rattle.std.specs.Prelude.{ℕ, List, [], length, Option, Some, None}
use Rattle.uda_exec.specs.declared.block_use.BlockUse.{BlockUse}
use Rattle.uda_exec.specs.BlockUse.{block_use_at, written_at}
use Rattle.uda_exec.specs.Disks.{ExecState}
use Rattle.uda_port.specs.declared.memory_use.Missing.{Missing}
use Rattle.uda_port.specs.declared.plan.Plan.{Plan}
use Rattle.uda_port.specs.declared.plan.Plan.TheVariants.{ToExecute}
use Rattle.uda_port.specs.declared.turn_at.Fate.{Fate}
use Rattle.uda_port.specs.declared.turn_at.Fate.TheVariants.{Usual, WithoutBuffer}
use Rattle.uda_port.specs.MemoryUse.{fate_of}
use Rattle.uda_port.specs.Plan.{plan_of}
use Rattle.uda_port.specs.Port.{PortState}

-- the memory in which a turn with this fate executes a command
abbrev pub memory_by : Fate → List ℕ → Option (List ℕ)
memory_by Usual memory = Some memory
memory_by WithoutBuffer memory = Some []
memory_by _ memory = None

-- the same of a turn of this plan: only one that executes a command has such a memory
abbrev pub memory_executed : Plan → Fate → List ℕ → Option (List ℕ)
memory_executed ToExecute fate memory = memory_by fate memory
memory_executed _ fate memory = None

-- the memory in which the next turn executes a pending command, if it executes one
abbrev pub memory_for : Missing → PortState → List ℕ → Option (List ℕ)
memory_for missing port memory =
    memory_executed (plan_of port memory) (fate_of missing port memory) memory

-- the blocks that this command then uses, and the bytes that it writes to them
abbrev pub blocks_in : ExecState → ℕ → Option (List ℕ) → Option BlockUse
blocks_in exec j None = None
blocks_in exec j (Some memory) = block_use_at exec j (length memory)

abbrev pub written_in : ExecState → ℕ → Option (List ℕ) → List ℕ
written_in exec j None = []
written_in exec j (Some memory) = written_at exec j memory

-- the blocks that the next turn uses, and the bytes that it writes to them
abbrev pub blocks_of : Missing → PortState → List ℕ → ℕ → Option BlockUse
blocks_of missing port memory j = blocks_in port.exec j (memory_for missing port memory)

abbrev pub block_bytes_of : Missing → PortState → List ℕ → ℕ → List ℕ
block_bytes_of missing port memory j = written_in port.exec j (memory_for missing port memory)
