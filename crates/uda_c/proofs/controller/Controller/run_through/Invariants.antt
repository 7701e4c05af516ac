use Rattle.std.proofs.Common.{◌≡◌, ◌-◌, length}
use Rattle.uda_c.specs.declared.call_status.CallStatus.{CallStatus}
use Rattle.uda_c.specs.declared.call_status.CallStatus.TheVariants.{Done}
use Rattle.uda_c.specs.Maps.{TakesTurnsThroughMap}
use Rattle.uda_c.specs.Runs.{Machine}
use Rattle.uda_c.proofs.controller.Controller.run_through.Given as goal

-- The window keeps its length. The effect of the remaining turns completes the effect of all turns.
abbrev pub invariant-loop : goal.invariant-loop
invariant-loop l = (length l.window ≡ l.bus.size)
    × ((after : CallStatus × Machine)
    → TakesTurnsThroughMap l.bus (l.limit - l.counter) l.answer (l.self, l.memory) after
    → TakesTurnsThroughMap l.bus l.limit Done (l.initial.self, l.initial.memory) after)
