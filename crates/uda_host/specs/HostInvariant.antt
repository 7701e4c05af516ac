-- The view and the invariant of a host's fields.
use Rattle.std.specs.Prelude.{◌≡◌, ◌<◌, true, ◌++◌, length, map, All}
use Rattle.uda_packet.specs.Reply.{strict_end}
use Rattle.uda_port.specs.declared.phase.Phase.TheVariants.{Running}
use Rattle.uda_port.specs.declared.profile.Profile.TheVariants.{Strict}
use Rattle.uda_port.specs.Port.{PortState, CreditsAgree}
use Rattle.uda_host.specs.Slots.{RingsHold}
use Rattle.uda_host.specs.HostPortAgreement.{IsServable, unfetched, RingsAgree, CountsAgree}
use Rattle.uda_host.specs.Host.{HostState}
use Rattle.uda_host.specs.declared.host.Host.TheInside.{Inside}

-- a strict port sends the end messages of the strict profile
abbrev pub host_view : {S : Type 0} → Inside S → HostState
host_view h = record {
  phase = h.port.phase;
  memory = h.memory;
  units = h.port.exec.units;
  due = h.port.exec.pending ++ unfetched h;
  waiting = map strict_end h.port.waiting;
  credits = h.held;
  turns = h.port.turns;
  fetches = h.port.fetches;
  taken = h.port.deliveries;
  load = h.port.load;
}

-- the port is a strict one, and runs
pub record RunsStrict (port : PortState) : Type 0 where
  pub strict : port.profile ≡ Strict
  pub runs : port.phase ≡ Running

-- The port runs, and polls while a command is unfetched. Each side reads what the other wrote. Rings, credits
-- and counts agree. Each posted command that isn't executed yet is servable.
pub record HostInvariant {S : Type 0} (h : Inside S) : Type 0 where
  pub port : RunsStrict h.port
  pub looks : 0 < length (unfetched h) → h.port.polling ≡ true
  pub rings : RingsAgree h
  pub written : RingsHold h.memory h.port.commands.place (unfetched h)
  pub agree : CreditsAgree h.port
  pub counts : CountsAgree h
  pub servable : All IsServable (host_view h).due
