-- Events applied one after another.
use Rattle.std.proofs.Common.{ℕ, ◌+◌, ◌<◌, List, length, get_or, drop}
use Rattle.std.proofs.lemmas.List.{drop_more}
use Rattle.uda_port.specs.declared.play.HostEvent.{HostEvent}
use Rattle.uda_port.specs.Port.{PortState}
use Rattle.uda_port.specs.Events.{EventEffect, EventsEffect}

-- an event, and then the following ones
pub played_on : (events : List HostEvent) (i : ℕ) (d : HostEvent) (old : PortState) (memory : List ℕ)
    (between : PortState) (memory_between : List ℕ) (new : PortState) (memory_after : List ℕ)
    → i < length events → EventEffect (get_or events i d) old memory between memory_between
    → EventsEffect (drop (i + 1) events) between memory_between new memory_after
    → EventsEffect (drop i events) old memory new memory_after
played_on events i d old memory between memory_between new memory_after h goes rest =
    rw (drop_more events i d h) ((between, memory_between), goes, rest)
