use Rattle.uda_script_run.proofs.Puts.{LeavesRest}
use Rattle.uda_script_run.proofs.put.put_all.Given as goal

-- a beginning of the bytes was written, and `rest` follows it
abbrev pub invariant-loop : goal.invariant-loop
invariant-loop g l = LeavesRest (g.W.Write.contents l.initial.writer)
    (g.W.Write.contents l.writer) l.bytes l.rest
