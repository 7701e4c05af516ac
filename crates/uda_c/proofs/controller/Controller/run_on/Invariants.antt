use Rattle.std.proofs.Common.{◌≡◌, ◌-◌, length}
use Rattle.uda_c.specs.declared.call_status.CallStatus.{CallStatus}
use Rattle.uda_c.specs.RunsToBlocks.{BusRun, TurnsToBlocks}
use Rattle.uda_c.proofs.controller.Controller.run_on.Given as goal

-- The window keeps its length, and the struct stays. The effect of the remaining turns completes the effect of all turns.
abbrev pub invariant-loop-taken : goal.invariant-loop-taken
invariant-loop-taken l = (length l.window ≡ l.bus.size)
    × (l.turn ≡ l.initial.turn)
    × ((after : CallStatus × BusRun)
    → TurnsToBlocks l.bus (l.turns - l.taken) l.answer ((l.self, l.memory), l.initial.turn) after
    → TurnsToBlocks l.bus l.turns l.fn.before ((l.initial.self, l.initial.memory), l.initial.turn) after)
