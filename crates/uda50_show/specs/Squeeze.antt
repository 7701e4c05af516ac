-- Rows and blocks that repeat.
use Rattle.std.specs.Prelude.{ℕ, ◌≡◌, ◌<◌, ◌+◌, ◌-◌, ◌*◌, List, Option, Some, None, if◌then◌else◌, nat_lt}
use Rattle.uda50_show.specs.declared.squeeze.LeftOutBlocks.{LeftOutBlocks}
use Rattle.uda50_show.specs.declared.squeeze.PrintedBlock.{PrintedBlock}
use Rattle.uda50_show.specs.Block.{block_bytes}

-- the sixteen bytes of a row
abbrev pub row_bytes : ℕ → List ℕ → List ℕ
row_bytes row block = block_bytes (16 * row) 16 block

-- a row has the bytes of the row before it; the first one has none before it
abbrev pub Repeats : ℕ → List ℕ → Type 0
Repeats row block = (0 < row) × (row_bytes row block ≡ row_bytes (row - 1) block)

-- the block that was printed, with its number
abbrev pub printed_block : ℕ → List ℕ → PrintedBlock
printed_block number bytes = record { number = number; bytes = bytes }

-- the bytes of the last block that was printed
abbrev pub last_bytes : Option PrintedBlock → Option (List ℕ)
last_bytes None = None
last_bytes (Some last) = Some last.bytes

abbrev pub left_out_blocks : ℕ → ℕ → LeftOutBlocks
left_out_blocks start end = record { start = start; end = end }

-- the blocks between the last one that was printed and this one, if there are any
abbrev pub left_out_before : ℕ → Option PrintedBlock → Option LeftOutBlocks
left_out_before number None = None
left_out_before number (Some last) =
    if nat_lt (last.number + 1) number then Some (left_out_blocks (last.number + 1) number) else None
