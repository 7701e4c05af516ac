use Rattle.std.proofs.Common.{length}
use Rattle.uda_host.specs.Host.{turns_left}
use Rattle.uda_driver.specs.RunInvariant.{RunInvariant}
use Rattle.uda_driver.proofs.run_loop.drive.Given as goal

abbrev pub invariant-loop-n : goal.invariant-loop-n
invariant-loop-n g l = RunInvariant l.fn.host l.requests l.n l.out l.answers.items l.host

abbrev pub invariant-loop-host : goal.invariant-loop-host
invariant-loop-host g l = RunInvariant l.fn.host l.requests l.n l.out l.answers.items l.host

abbrev pub decreases-loop-host : goal.decreases-loop-host
decreases-loop-host g l = turns_left l.host

abbrev pub invariant-loop-host-2 : goal.invariant-loop-host-2
invariant-loop-host-2 g l = RunInvariant l.fn.host l.requests (length l.requests) l.out l.answers.items l.host

abbrev pub decreases-loop-host-2 : goal.decreases-loop-host-2
decreases-loop-host-2 g l = turns_left l.host
