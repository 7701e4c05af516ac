use Rattle.std.proofs.Common.{ℕ, List, drop}
use Rattle.uda_port.specs.Port.{PortState}
use Rattle.uda_port.specs.Events.{EventsEffect}
use Rattle.uda_port.proofs.port.Port.play_all.Given as goal

-- the effect of the remaining events completes the effect of all events
abbrev pub invariant-loop-event : goal.invariant-loop-event
invariant-loop-event g l = (new : PortState) (memory_after : List ℕ)
    → EventsEffect (drop l.event-index l.events) l.self l.memory new memory_after
    → EventsEffect l.events l.initial.self l.initial.memory new memory_after
