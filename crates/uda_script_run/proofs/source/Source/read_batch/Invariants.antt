use Rattle.std.proofs.Common.{◌≤◌, length}
use Rattle.uda_script_run.specs.Lines.{text_at, ReadsOn}
use Rattle.uda_script_run.proofs.source.Source.read_batch.Given as goal

-- whole lines were read, which make the requests so far
abbrev pub invariant-loop : goal.invariant-loop
invariant-loop g l =
    ReadsOn (text_at l.initial.self.lines_read (g.T.Read.remaining l.initial.self.text))
    (text_at l.self.lines_read (g.T.Read.remaining l.self.text)) l.lines.items
    × (length l.lines.items ≤ 64)
