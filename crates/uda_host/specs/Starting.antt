-- Initialization of a host's port.
-- UDA50 Programmer's Documentation Kit: initialization, communication area.
use Rattle.uda_port.specs.declared.phase.Phase.TheVariants.{Running}
use Rattle.uda_port.specs.Port.{PortState}
use Rattle.uda_host.specs.Layout.{command_ring_at, response_ring_at}

-- the port runs, with its rings at the host's addresses
abbrev pub port_running : PortState → PortState
port_running port =
    record port { phase = Running; responses = response_ring_at 0; commands = command_ring_at 0 }
