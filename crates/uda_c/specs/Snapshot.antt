-- The state of a port for C.
use Rattle.std.specs.Prelude.{ℕ, ◌+◌, Bool, List, length, Option, Some, None, is_some, slice_get, unwrap_or, if◌then◌else◌}
use Rattle.uda_packet.specs.declared.drive_type.DriveType.{DriveType}
use Rattle.uda_packet.specs.DriveTypes.{type_number}
use Rattle.uda_exec.specs.declared.drive_unit.UnitInfo.{UnitInfo}
use Rattle.uda_exec.specs.Drives.{info_at, ABSENT}
use Rattle.uda_port.specs.declared.phase.Phase.{Phase}
use Rattle.uda_port.specs.declared.phase.Phase.TheVariants.{Step1, Step2, Step3, PurgeTest, PollTest, Step4, Wrap}
use Rattle.uda_port.specs.declared.phase.Phase.TheVariants.{Running, Dead}
use Rattle.uda_port.specs.Guest.{is_due}
use Rattle.uda_port.specs.Port.{PortState}
use Rattle.uda_port.specs.Ring.{RingState}
use Rattle.uda_port.specs.Startup.{sa_shown}
use Rattle.uda_c.specs.declared.snapshot.RingSnapshot.{RingSnapshot}
use Rattle.uda_c.specs.declared.snapshot.PortSnapshot.{PortSnapshot}
use Rattle.uda_c.specs.declared.snapshot.UnitSnapshot.{UnitSnapshot}
use Rattle.uda_c.specs.UnitImage.{is_called_in}

-- the number of a phase in C: in the order of initialization, and 9 for wrap mode
abbrev pub phase_number : Phase → ℕ
phase_number Step1 = 1
phase_number (Step2 first) = 2
phase_number (Step3 first second) = 3
phase_number PurgeTest = 4
phase_number PollTest = 5
phase_number Step4 = 6
phase_number Running = 7
phase_number (Dead cause) = 8
phase_number (Wrap word) = 9

abbrev pub ring_snapshot : RingState → RingSnapshot
ring_snapshot ring = record { base = ring.base; count = ring.count; next = ring.place }

-- the units for which an attention message is due: bit u for unit u
abbrev pub attention_bits : List Bool → ℕ
attention_bits due =
    (if is_due due 0 then 1 else 0) + (if is_due due 1 then 2 else 0) + (if is_due due 2 then 4 else 0)
    + (if is_due due 3 then 8 else 0)

-- the number of bytes of the struct
abbrev pub PORT_SNAPSHOT_SIZE : ℕ
PORT_SNAPSHOT_SIZE = 48

abbrev pub port_snapshot : PortState → PortSnapshot
port_snapshot port = record {
  size = PORT_SNAPSHOT_SIZE;
  phase = phase_number port.phase;
  responses = ring_snapshot port.responses;
  commands = ring_snapshot port.commands;
  pending = length port.exec.pending;
  queued = length port.waiting;
  sa = sa_shown port;
  credits = port.credits;
  polling = if port.polling then 1 else 0;
  vector = port.interrupts.vector;
  attentions = attention_bits port.guest.attentions;
}

-- ---- a unit

-- the number of bytes of the struct
abbrev pub UNIT_SNAPSHOT_SIZE : ℕ
UNIT_SNAPSHOT_SIZE = 32

abbrev pub type_code : Option DriveType → ℕ
type_code (Some kind) = type_number kind
type_code None = 0

-- the mode and the size of a unit, and those of a unit without a drive
abbrev pub shown_info : PortState → ℕ → UnitInfo
shown_info port u = unwrap_or (info_at (slice_get port.exec.units u)) ABSENT

abbrev pub unit_snapshot : PortState → ℕ → UnitSnapshot
unit_snapshot port u = record {
  size = UNIT_SNAPSHOT_SIZE;
  blocks = (shown_info port u).size;
  drive_type = type_code (slice_get port.guest.types u);
  attached = if is_some (info_at (slice_get port.exec.units u)) then 1 else 0;
  called = if is_called_in (slice_get port.exec.units u) then 1 else 0;
  online = if (shown_info port u).mode.online then 1 else 0;
  write_protected = if (shown_info port u).mode.hard then 1 else 0;
  soft_protected = if (shown_info port u).mode.soft then 1 else 0;
}
