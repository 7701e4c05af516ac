use Rattle.std.proofs.Common.{drop}
use Rattle.uda_disk.specs.Values.{answer_values}
use Rattle.uda_script_run.specs.Texts.{out_text}
use Rattle.uda_script_run.proofs.Puts.{LeavesRest}
use Rattle.uda_script_run.proofs.texts.put_all_data.Given as goal

-- the bytes of the answers from this one on are still to come
abbrev pub invariant-loop-answer : goal.invariant-loop-answer
invariant-loop-answer g l =
    LeavesRest (g.W.Write.contents l.initial.out) (g.W.Write.contents l.out)
    (out_text (answer_values l.answers)) (out_text (answer_values (drop l.answer-index l.answers)))
