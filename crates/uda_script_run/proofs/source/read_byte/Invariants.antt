use Rattle.std.proofs.Common.{◌≡◌, length}
use Rattle.std.specs.Io.KnownBytes.{Keeps}
use Rattle.uda_script_run.proofs.source.read_byte.Given as goal

-- no byte was read yet
abbrev pub invariant-loop : goal.invariant-loop
invariant-loop g l =
    (length l.bytes ≡ 1) × Keeps (g.T.Read.remaining l.initial.text) (g.T.Read.remaining l.text)
