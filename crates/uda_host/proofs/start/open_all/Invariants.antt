use Rattle.uda_host.proofs.Startings.{Opening}
use Rattle.uda_host.proofs.start.open_all.Given as goal

abbrev pub invariant-loop-i : goal.invariant-loop-i
invariant-loop-i l = Opening l.fn.memory l.memory l.i
