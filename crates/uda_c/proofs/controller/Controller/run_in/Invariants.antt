use Rattle.std.proofs.Common.{◌-◌}
use Rattle.uda_c.specs.declared.call_status.CallStatus.{CallStatus}
use Rattle.uda_c.specs.declared.call_status.CallStatus.TheVariants.{Done}
use Rattle.uda_c.specs.Runs.{Machine, TakesTurns}
use Rattle.uda_c.proofs.controller.Controller.run_in.Given as goal

-- the effect of the remaining turns completes the effect of all turns
abbrev pub invariant-loop : goal.invariant-loop
invariant-loop l = (answer : CallStatus) (new : Machine) → TakesTurns (l.limit - l.counter) l.answer
    (l.self, l.memory) answer new
    → TakesTurns l.limit Done (l.initial.self, l.initial.memory) answer new
