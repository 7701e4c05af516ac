use Rattle.std.proofs.Common.{◌≤◌, ◌+◌, ◌*◌}
use Rattle.uda_script_run.specs.Lines.{text_at}
use Rattle.uda_script_run.specs.Batches.{setting}
use Rattle.uda_script_run.proofs.Streaming.{HasRun}
use Rattle.uda_script_run.proofs.stream.run_lines.Given as goal

-- all lines that were read were run
abbrev pub invariant-loop : goal.invariant-loop
invariant-loop g l =
    HasRun l.fn.style (g.T.Read.remaining l.fn.text)
    (setting (g.R.Read.remaining l.initial.channels.input) (g.W.Write.contents l.initial.channels.out)
    (g.V.Write.contents l.initial.channels.report) l.initial.driver)
    (text_at l.source.lines_read (g.T.Read.remaining l.source.text)) l.progress.part l.progress.outcome
    (setting (g.R.Read.remaining l.channels.input) (g.W.Write.contents l.channels.out)
    (g.V.Write.contents l.channels.report) l.driver)
    × (l.progress.part.first ≤ 1 + 64 * l.counter)
