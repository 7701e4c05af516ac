use Rattle.uda_script_run.proofs.Streaming.{ReadsPart}
use Rattle.uda_script_run.proofs.source.read_line.Given as goal

-- the first bytes of the line were read
abbrev pub invariant-loop : goal.invariant-loop
invariant-loop g l =
    ReadsPart (g.T.Read.remaining l.initial.text) (g.T.Read.remaining l.text) l.line.items
