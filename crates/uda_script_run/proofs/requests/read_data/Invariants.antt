use Rattle.std.proofs.Common.{◌≡◌, ◌≤◌, length, take}
use Rattle.std.specs.Io.KnownBytes.{Consumes}
use Rattle.uda_script_run.proofs.requests.read_data.Given as goal

-- the front was read, and the reader isn't called if there is nothing to read
abbrev pub invariant-loop : goal.invariant-loop
invariant-loop g l =
    (l.filled ≤ length l.bytes) × Consumes (g.R.Read.remaining l.initial.input) (g.R.Read.remaining l.input)
    (take l.filled l.bytes)
    × (length l.bytes ≡ 0 → l.input ≡ l.initial.input)
