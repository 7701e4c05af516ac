use Rattle.uda_exec.proofs.Choices.{PassesFirst}
use Rattle.uda_exec.proofs.scheduler.is_eligible.Given as goal

abbrev pub invariant-loop-older : goal.invariant-loop-older
invariant-loop-older l = PassesFirst l.pending l.older-index l.command
