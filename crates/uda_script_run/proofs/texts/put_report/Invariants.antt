use Rattle.uda_script_run.proofs.Texting.{LacksFrom}
use Rattle.uda_script_run.proofs.texts.put_report.Given as goal

-- the lines of the answers from this one on are still to come
abbrev pub invariant-loop-place : goal.invariant-loop-place
invariant-loop-place g l =
    LacksFrom l.part l.answers l.place (g.V.Write.contents l.initial.report) (g.V.Write.contents l.report)
