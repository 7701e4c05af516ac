-- The rows of a saved state: eight bytes each. Numbers are little-endian, and a flag is 0 or 1. Each row has
-- a
-- definition that writes it and one that reads it.
-- UDA50 Programmer's Documentation Kit: initialization, communication area, credits. MSCP Basic Disk
-- Functions
-- Manual: unit states, controller flags.
use Rattle.std.specs.Prelude.{ℕ, ◌==◌, nat_lt, Bool, List, [], ◌∷◌, ◌++◌, replicate, map, Option}
use Rattle.std.specs.Prelude.{Some, None, unwrap_or, slice_index, if◌then◌else◌}
use Rattle.byteorder.specs.Endian.{little_from, little_bytes}
use Rattle.uda_packet.specs.declared.drive_type.DriveType.{DriveType}
use Rattle.uda_packet.specs.declared.drive_type.DriveType.TheVariants.{Ra81}
use Rattle.uda_packet.specs.declared.guest_command.GuestOp.{GuestOp}
use Rattle.uda_packet.specs.declared.guest_command.GuestOp.TheVariants.{Basic, SetUnit, Compare}
use Rattle.uda_packet.specs.declared.guest_end.Bus.{Bus}
use Rattle.uda_packet.specs.declared.guest_end.Bus.TheVariants.{Unibus, Qbus}
use Rattle.uda_packet.specs.DriveTypes.{type_number, type_numbered}
use Rattle.uda_exec.specs.declared.drive_unit.UnitInfo.{UnitInfo}
use Rattle.uda_exec.specs.declared.scheduler.Position.{Position}
use Rattle.uda_port.specs.declared.phase.Phase.{Phase}
use Rattle.uda_port.specs.declared.phase.Phase.TheVariants.{Step1, Step2, Step3, Wrap, PurgeTest, PollTest}
use Rattle.uda_port.specs.declared.phase.Phase.TheVariants.{Step4, Running, Dead}
use Rattle.uda_port.specs.declared.phase.Fatal.{Fatal}
use Rattle.uda_port.specs.declared.phase.Fatal.TheVariants.{PacketRead, PacketWrite, RingRead, RingWrite}
use Rattle.uda_port.specs.declared.phase.Fatal.TheVariants.{CreditsExceeded, InvalidConnection}
use Rattle.uda_port.specs.declared.phase.Fatal.TheVariants.{InitializationError}
use Rattle.uda_port.specs.declared.profile.Profile.{Profile}
use Rattle.uda_port.specs.declared.profile.Profile.TheVariants.{Strict, Compatible}
use Rattle.uda_port.specs.Ring.{RingState, ring_of}
use Rattle.uda_port.specs.Startup.{code_of}
use Rattle.uda_saved.specs.declared.rows.PhaseNumbers.{PhaseNumbers}
use Rattle.uda_saved.specs.declared.rows.ControllerRow.{ControllerRow}
use Rattle.uda_saved.specs.declared.rows.CountsRow.{CountsRow}
use Rattle.uda_saved.specs.declared.rows.DrivesRow.{DrivesRow}

-- the version of these bytes
abbrev pub VERSION_NUMBER : ℕ
VERSION_NUMBER = 1

abbrev pub flag_byte : Bool → ℕ
flag_byte flag = if flag then 1 else 0

abbrev pub is_set : ℕ → Bool
is_set byte = nat_lt 0 byte

-- ---- version (2 bytes), phase, a 0, and two words: those of the phase, or the code of its fatal error

abbrev pub numbers : ℕ → ℕ → ℕ → PhaseNumbers
numbers kind first second = record { kind = kind; first = first; second = second }

abbrev pub phase_numbers : Phase → PhaseNumbers
phase_numbers Step1 = numbers 0 0 0
phase_numbers (Step2 first) = numbers 1 first 0
phase_numbers (Step3 first second) = numbers 2 first second
phase_numbers (Wrap word) = numbers 3 word 0
phase_numbers PurgeTest = numbers 4 0 0
phase_numbers PollTest = numbers 5 0 0
phase_numbers Step4 = numbers 6 0 0
phase_numbers Running = numbers 7 0 0
phase_numbers (Dead cause) = numbers 8 (code_of cause) 0

abbrev pub cause_in : ℕ → Fatal
cause_in code =
    if code == 1 then PacketRead
    else if code == 2 then PacketWrite
    else if code == 6 then RingRead
    else if code == 7 then RingWrite
    else if code == 10 then CreditsExceeded
    else if code == 14 then InvalidConnection
    else InitializationError

abbrev pub phase_numbered : PhaseNumbers → Phase
phase_numbered n =
    if n.kind == 0 then Step1
    else if n.kind == 1 then Step2 n.first
    else if n.kind == 2 then Step3 n.first n.second
    else if n.kind == 3 then Wrap n.first
    else if n.kind == 4 then PurgeTest
    else if n.kind == 5 then PollTest
    else if n.kind == 6 then Step4
    else if n.kind == 7 then Running
    else Dead (cause_in n.first)

abbrev pub phase_row : Phase → List ℕ
phase_row phase =
    let n = phase_numbers phase in
    little_bytes 2 VERSION_NUMBER ++ n.kind ∷ 0 ∷ little_bytes 2 n.first ++ little_bytes 2 n.second

abbrev pub phase_in : List ℕ → Phase
phase_in row = phase_numbered (numbers (slice_index row 2) (little_from 4 2 row) (little_from 6 2 row))

-- ---- profile, a 0, the number of the first unit, the controller flags, the interrupt vector (2 bytes each)

abbrev pub bus_number : Bus → ℕ
bus_number Unibus = 1
bus_number Qbus = 2

abbrev pub profile_number : Profile → ℕ
profile_number Strict = 0
profile_number (Compatible identity) = bus_number identity.bus

abbrev pub first_unit_of : Profile → ℕ
first_unit_of Strict = 0
first_unit_of (Compatible identity) = identity.first_unit

abbrev pub profile_in : ℕ → ℕ → Profile
profile_in number first =
    if number == 0 then Strict
    else if number == 1 then Compatible (record { bus = Unibus; first_unit = first })
    else Compatible (record { bus = Qbus; first_unit = first })

abbrev pub controller_row : ControllerRow → List ℕ
controller_row c =
    profile_number c.profile ∷ 0 ∷ little_bytes 2 (first_unit_of c.profile) ++ little_bytes 2 c.flags
    ++ little_bytes 2 c.vector

abbrev pub controller_in : List ℕ → ControllerRow
controller_in row = record {
  profile = profile_in (slice_index row 0) (little_from 2 2 row);
  flags = little_from 4 2 row;
  vector = little_from 6 2 row;
}

-- ---- four flags, the credits, and the numbers of pending commands, listed operations and queued end
-- messages

abbrev pub counts_row : CountsRow → List ℕ
counts_row c =
    flag_byte c.begun ∷ flag_byte c.polling ∷ flag_byte c.enabled ∷ flag_byte c.requested ∷ c.credits
    ∷ c.pending ∷ c.ops ∷ c.waiting ∷ []

abbrev pub counts_in : List ℕ → CountsRow
counts_in row = record {
  begun = is_set (slice_index row 0);
  polling = is_set (slice_index row 1);
  enabled = is_set (slice_index row 2);
  requested = is_set (slice_index row 3);
  credits = slice_index row 4;
  pending = slice_index row 5;
  ops = slice_index row 6;
  waiting = slice_index row 7;
}

-- ---- the types of the four units, and whether an attention message is due for each

abbrev pub drives_row : DrivesRow → List ℕ
drives_row d = map type_number d.types ++ map flag_byte d.attentions

abbrev pub type_in : ℕ → DriveType
type_in number = unwrap_or (type_numbered number) Ra81

abbrev pub drives_row_in : List ℕ → DrivesRow
drives_row_in row = record {
  types = type_in (slice_index row 0) ∷ type_in (slice_index row 1) ∷ type_in (slice_index row 2)
      ∷ type_in (slice_index row 3) ∷ [];
  attentions = is_set (slice_index row 4) ∷ is_set (slice_index row 5) ∷ is_set (slice_index row 6)
      ∷ is_set (slice_index row 7) ∷ [];
}

-- ---- the start of the last transfer: its unit (2 bytes), two 0, its block (4 bytes)

abbrev pub position_row : Position → List ℕ
position_row p = little_bytes 2 p.unit ++ 0 ∷ 0 ∷ little_bytes 4 p.lbn

abbrev pub position_in : List ℕ → Position
position_in row = record { unit = little_from 0 2 row; lbn = little_from 4 4 row }

-- ---- a ring: its base (4 bytes), its number of descriptors, and the index of the next one (2 bytes each)

abbrev pub ring_row : RingState → List ℕ
ring_row r = little_bytes 4 r.base ++ little_bytes 2 r.count ++ little_bytes 2 r.place

abbrev pub ring_or_first : Option RingState → RingState
ring_or_first (Some ring) = ring
ring_or_first None = record { base = 0; count = 1; place = 0 }

abbrev pub ring_in : List ℕ → RingState
ring_in row =
    ring_or_first (ring_of (record {
      base = little_from 0 4 row;
      count = little_from 4 2 row;
      place = little_from 6 2 row;
    }))

-- ---- a unit: 1, the three flags of its mode, and its size (4 bytes); only 0 if it has no drive

abbrev pub unit_row : Option UnitInfo → List ℕ
unit_row None = replicate 8 0
unit_row (Some info) =
    1 ∷ flag_byte info.mode.online ∷ flag_byte info.mode.hard ∷ flag_byte info.mode.soft
    ∷ little_bytes 4 info.size

abbrev pub unit_in : List ℕ → Option UnitInfo
unit_in row =
    if is_set (slice_index row 0)
    then Some (record {
      mode = record {
        online = is_set (slice_index row 1);
        hard = is_set (slice_index row 2);
        soft = is_set (slice_index row 3);
      };
      size = little_from 4 4 row;
    })
    else None

-- ---- the number of a call that is to fail: 1, three 0, the number (4 bytes); only 0 if none was set to fail

abbrev pub call_row : Option ℕ → List ℕ
call_row None = replicate 8 0
call_row (Some number) = 1 ∷ 0 ∷ 0 ∷ 0 ∷ little_bytes 4 number

abbrev pub call_in : List ℕ → Option ℕ
call_in row = if is_set (slice_index row 0) then Some (little_from 4 4 row) else None

-- ---- the additional operation of a pending command

abbrev pub op_number : GuestOp → ℕ
op_number Basic = 0
op_number SetUnit = 1
op_number Compare = 2

abbrev pub op_in : ℕ → GuestOp
op_in number = if number == 0 then Basic else if number == 1 then SetUnit else Compare
