-- The numbers of buses in C.
use Rattle.std.specs.Prelude.{ℕ, ◌==◌, Option, Some, None, if◌then◌else◌}
use Rattle.uda_packet.specs.declared.guest_end.Bus.{Bus}
use Rattle.uda_packet.specs.declared.guest_end.Bus.TheVariants.{Unibus, Qbus}

abbrev pub bus_of : ℕ → Option Bus
bus_of code = if code == 0 then Some Unibus else if code == 1 then Some Qbus else None
