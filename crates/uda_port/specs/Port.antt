-- The state of a port for its callers, and its credits.
-- UDA50 Programmer's Documentation Kit: port registers, initialization, credits.
use Rattle.std.specs.Prelude.{◌≡◌, ℕ, ◌+◌, ◌-◌, ◌*◌, ◌≤◌, ◌==◌, min, Bool, true, false, ◌&&◌, List, [], length, map}
use Rattle.std.specs.Prelude.{is_some, Option, None, Some, ◌||◌, option_map, slice_get, set}
use Rattle.uda_packet.specs.declared.reply.Reply.{Reply}
use Rattle.uda_exec.specs.Disks.{ExecState, PENDING_LIMIT, basic_exec}
use Rattle.uda_packet.specs.declared.drive_type.DriveType.{DriveType}
use Rattle.uda_packet.specs.DriveTypes.{drive_traits}
use Rattle.uda_exec.specs.Drives.{DriveState, reset_unit, with_drive}
use Rattle.uda_port.specs.declared.profile.Profile.{Profile}
use Rattle.uda_port.specs.declared.profile.Profile.TheVariants.{Strict, Compatible}
use Rattle.uda_port.specs.declared.phase.Phase.{Phase}
use Rattle.uda_port.specs.declared.phase.Phase.TheVariants.{Step1, PollTest, Step4, Running}
use Rattle.uda_port.specs.declared.interrupt.Interrupts.{Interrupts}
use Rattle.uda_port.specs.declared.guest.Guest.{Guest}
use Rattle.uda_port.specs.Guest.{attention_set, GUEST_AT_FIRST, guest_restarted, asks_attention}
use Rattle.uda_port.specs.Ring.{RingState}
use Rattle.uda_port.specs.Interrupt.{NO_INTERRUPTS, raised_by_step, noted, indicator_at, word_below}

-- The profile, the phase, the executor and the two rings. The queued end messages, the next one first.
-- Whether the port polls, its credits and its interrupts. Then four counts since initialization: turns,
-- fetches, deliveries, and the load. Each execution adds the number of commands then pending to the load.
pub record PortState : Type 0 where
  pub profile : Profile
  pub phase : Phase
  pub exec : ExecState
  pub responses : RingState
  pub commands : RingState
  pub waiting : List Reply
  pub polling : Bool
  pub credits : ℕ
  pub interrupts : Interrupts
  pub turns : ℕ
  pub fetches : ℕ
  pub deliveries : ℕ
  pub load : ℕ
  pub guest : Guest

-- a ring until initialization gives its address
abbrev pub ring_at_start : RingState
ring_at_start = record { base = 0; count = 1; place = 0 }

-- nothing is pending, and every unit with a drive is available without software write protection; blocks and
-- hardware write protection stay
abbrev pub exec_at_start : ExecState → ExecState
exec_at_start exec = basic_exec (map reset_unit exec.units) []

-- the state after the creation of a port with these units
abbrev pub port_at_start : Profile → ExecState → PortState
port_at_start profile exec = record {
  profile = profile;
  phase = Step1;
  exec = exec_at_start exec;
  responses = ring_at_start;
  commands = ring_at_start;
  waiting = [];
  polling = false;
  credits = 1;
  interrupts = NO_INTERRUPTS;
  turns = 0;
  fetches = 0;
  deliveries = 0;
  load = 0;
  guest = GUEST_AT_FIRST;
}

-- the state after a write to IP: only the profile, the blocks, the hardware write protection and the drive
-- types stay
abbrev pub port_restarted : PortState → PortState
port_restarted old = record (port_at_start old.profile old.exec) { guest = guest_restarted old.guest }

-- the credits granted since initialization: 1 at first, 15 by the first end message that is delivered, and 1
-- by each later one
abbrev pub credits_granted : ℕ → ℕ
credits_granted deliveries = 1 + PENDING_LIMIT * min deliveries 1 + (deliveries - 1)

-- the credits that the next end message grants
abbrev pub next_grant : ℕ → ℕ
next_grant deliveries = credits_granted (deliveries + 1) - credits_granted deliveries

-- whether the host has no credit left, in the compatible profile: its port doesn't fetch. The strict profile
-- fetches, which is fatal.
abbrev pub lacks_credit : Profile → ℕ → Bool
lacks_credit Strict credits = false
lacks_credit (Compatible identity) credits = credits == 0

-- The credits left are those granted less one for each fetched command. Each fetched command is pending, or
-- its end message is queued or was delivered. No more commands than may be pending are pending or have queued
-- end messages.
pub record CreditsAgree (port : PortState) : Type 0 where
  pub credits : port.credits + port.fetches ≡ credits_granted port.deliveries
  pub conserved : port.fetches ≡ port.deliveries + (length port.exec.pending + length port.waiting)
  pub within : length port.exec.pending + length port.waiting ≤ PENDING_LIMIT

-- the port enters a step of initialization, which may raise a request
abbrev pub port_in_phase : PortState → Phase → PortState
port_in_phase old phase = record old { phase = phase; interrupts = raised_by_step old.profile old.interrupts }

-- the interrupt indicators to set, if any: for the command ring 4 bytes below the ring base, for the response
-- ring 2
abbrev pub command_indicator : PortState → List ℕ → Option ℕ
command_indicator port memory = indicator_at port.profile (word_below port.responses.base 4) memory port.commands

abbrev pub response_indicator : PortState → List ℕ → Option ℕ
response_indicator port memory = indicator_at port.profile (word_below port.responses.base 2) memory port.responses

-- the interrupts after an indicator was set
abbrev pub interrupts_after : PortState → Option ℕ → Interrupts
interrupts_after port indicator = noted indicator port.profile port.interrupts

-- after a read of IP a running port polls; in the poll test step 4 follows
abbrev pub port_after_ip_read : Phase → PortState → PortState
port_after_ip_read Running old = record old { polling = true }
port_after_ip_read PollTest old = port_in_phase old Step4
port_after_ip_read _ old = old

-- whether the host asks for a message about a drive that is attached, by the profile, the phase and the
-- controller flags
abbrev pub expects_attention : Profile → Phase → ℕ → Bool
expects_attention (Compatible identity) Running flags = asks_attention flags
expects_attention _ _ flags = false

abbrev pub attention_due : PortState → Bool → Bool
attention_due port is_there = is_there && expects_attention port.profile port.phase port.guest.flags

-- whether a drive type is read-only, and whether this unit's is in the compatible profile
abbrev pub is_read_only_type : Option DriveType → Bool
is_read_only_type None = false
is_read_only_type (Some kind) = (drive_traits kind).is_read_only

abbrev pub read_only_by : Profile → Option DriveType → Bool
read_only_by Strict kind = false
read_only_by (Compatible identity) kind = is_read_only_type kind

abbrev pub read_only_at : PortState → ℕ → Bool
read_only_at port unit = read_only_by port.profile (slice_get port.guest.types unit)

-- the drive, write-protected if its unit's type is read-only
abbrev pub protected_drive : Bool → Option DriveState → Option DriveState
protected_drive read_only drive =
    option_map (λ (d : DriveState). record d { hard = read_only || d.hard }) drive

abbrev pub drive_put : PortState → ℕ → Option DriveState → Option DriveState
drive_put port unit drive = protected_drive (read_only_at port unit) drive

-- a unit with another type
abbrev pub with_type : PortState → ℕ → DriveType → PortState
with_type old unit kind =
    record old { guest = record old.guest { types = set old.guest.types unit kind } }

-- the port with another drive in this unit, or with none
abbrev pub port_with_drive : PortState → ℕ → Option DriveState → PortState
port_with_drive old unit drive = record old {
  exec = with_drive old.exec unit (drive_put old unit drive);
  guest = attention_set old.guest unit (attention_due old (is_some drive));
}
