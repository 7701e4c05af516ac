-- The invariant between a host and its port.
use Rattle.std.specs.Prelude.{◌≡◌, ◌+◌, ◌%◌, ◌<◌, ◌≤◌, List, length, drop, Ok}
use Rattle.uda_mem.specs.Put.{Overlap}
use Rattle.uda_packet.specs.declared.command.Command.{Command}
use Rattle.uda_packet.specs.Written.{written_command}
use Rattle.uda_packet.specs.Reading.{read_command}
use Rattle.uda_exec.specs.Commands.{buffer_start, buffer_length}
use Rattle.uda_host.specs.Layout.{slots, buffers_start, command_ring_at, response_ring_at}
use Rattle.uda_host.specs.declared.host.Host.TheInside.{Inside}

-- ---- the commands

-- no byte of its buffer is below the buffers, in the rings and packets
abbrev pub IsAbove : Command → Type 0
IsAbove c = Overlap (buffer_start c.op) (buffer_length c.op) 0 buffers_start → ⊥

-- a command that the port decodes as it was written, and that changes no ring or packet
pub record IsServable (c : Command) : Type 0 where
  pub above : IsAbove c
  pub legible : read_command (written_command c) ≡ Ok c

-- the commands that the port hasn't fetched yet: those after the first `fetches` that were posted since
-- initialization
abbrev pub unfetched : {S : Type 0} → Inside S → List Command
unfetched h = drop h.port.fetches h.posted

-- ---- host and port

-- The port has the same rings as the host. The host posts next after what is posted, and reads next the
-- descriptor to which the port will deliver.
pub record RingsAgree {S : Type 0} (h : Inside S) : Type 0 where
  pub commands_are : h.port.commands ≡ command_ring_at h.port.commands.place
  pub responses_are : h.port.responses ≡ response_ring_at h.response_place
  pub posts_next : h.command_place ≡ (h.port.commands.place + length (unfetched h)) % slots
  pub looks_within : h.response_place < slots

-- The fetched commands were posted. Each turn was a fetch, an execution or a delivery. The host has each of
-- the port's credits, or used it for a command that isn't fetched yet.
pub record CountsAgree {S : Type 0} (h : Inside S) : Type 0 where
  pub fetched : h.port.fetches ≤ length h.posted
  pub turned :
      h.port.turns ≡ h.port.fetches + (h.port.deliveries + length h.port.waiting) + h.port.deliveries
  pub credits : h.port.credits ≡ h.held + length (unfetched h)
