-- The amount that a line transfers.
use Rattle.std.specs.Prelude.{ℕ, ◌*◌, ◌/◌}
use Rattle.uda_disk.specs.InOrderRun.{transfer_limit}
use Rattle.uda_grammar.specs.declared.statement.Measure.{Measure}
use Rattle.uda_grammar.specs.declared.statement.Measure.TheVariants as measure
use Rattle.uda_grammar.specs.declared.statement.Amount.{Amount}
use Rattle.uda_grammar.specs.declared.statement.Amount.TheVariants.{Blocks, Bytes}

-- this many, in this measure
abbrev pub amount_of : Measure → ℕ → Amount
amount_of measure.Blocks count = Blocks count
amount_of measure.Bytes count = Bytes count

-- the number of bytes
abbrev pub bytes_in : Amount → ℕ
bytes_in (Blocks count) = 512 * count
bytes_in (Bytes count) = count

-- the most that a line can write: as much as one command
abbrev pub most_written : Measure → ℕ
most_written measure.Blocks = transfer_limit / 512
most_written measure.Bytes = transfer_limit
