-- The bytes of a saved state: fifteen rows, the additional operations, and the texts of the pending commands
-- and of the queued end messages. Each part has a fixed place; what a list doesn't fill is 0.
-- UDA50 Programmer's Documentation Kit: port registers, communication area, credits. MSCP Basic Disk
-- Functions
-- Manual: command and end messages.
use Rattle.std.specs.Prelude.{◌≡◌, ◌≢◌, ◌≤◌, ℕ, ◌+◌, ◌*◌, ◌-◌, nat_lt, zero, suc, All, get_or, List, [], ◌∷◌, ◌++◌}
use Rattle.std.specs.Prelude.{length, map, replicate, slice_index, Option, Some, None, Result, Ok, Err}
use Rattle.std.specs.Prelude.{if◌then◌else◌}
use Rattle.std.specs.List.{concat}
use Rattle.byteorder.specs.Endian.{little_from}
use Rattle.uda_mem.specs.Put.{part}
use Rattle.uda_packet.specs.declared.bad.Bad.{Bad}
use Rattle.uda_packet.specs.declared.command.Command.{Command}
use Rattle.uda_packet.specs.declared.command.Op.TheVariants.{Status}
use Rattle.uda_packet.specs.declared.guest_command.GuestOp.{GuestOp}
use Rattle.uda_packet.specs.declared.reply.Reply.{Reply}
use Rattle.uda_packet.specs.declared.reply.ReplyBody.TheVariants.{Flush}
use Rattle.uda_packet.specs.Reading.{read_command}
use Rattle.uda_packet.specs.Reply.{read_reply, written_reply}
use Rattle.uda_packet.specs.Written.{written_command}
use Rattle.uda_exec.specs.declared.drive_unit.UnitInfo.{UnitInfo}
use Rattle.uda_exec.specs.declared.saved.SavedExec.{SavedExec}
use Rattle.uda_port.specs.declared.saved.Saved.{Saved}
use Rattle.uda_saved.specs.declared.rows.ControllerRow.{ControllerRow}
use Rattle.uda_saved.specs.declared.rows.CountsRow.{CountsRow}
use Rattle.uda_saved.specs.declared.rows.DrivesRow.{DrivesRow}
use Rattle.uda_saved.specs.declared.state.BytesError.{BytesError}
use Rattle.uda_saved.specs.declared.state.BytesError.TheVariants as cause
use Rattle.uda_saved.specs.declared.state.SavedState.{SavedState}
use Rattle.uda_saved.specs.Rows.{VERSION_NUMBER, phase_row, phase_in, controller_row, controller_in, counts_row}
use Rattle.uda_saved.specs.Rows.{counts_in, drives_row, drives_row_in, position_row, position_in, ring_row, ring_in}
use Rattle.uda_saved.specs.Rows.{unit_row, unit_in, call_row, call_in, op_number, op_in}

-- ---- written

abbrev pub controller_of : Saved → ControllerRow
controller_of port =
    record { profile = port.profile; flags = port.guest.flags; vector = port.interrupts.vector }

abbrev pub counts_of : Saved → CountsRow
counts_of port = record {
  begun = port.begun;
  polling = port.polling;
  enabled = port.interrupts.enabled;
  requested = port.interrupts.requested;
  credits = port.credits;
  pending = length port.exec.pending.items;
  ops = length port.exec.guest_ops.items;
  waiting = length port.waiting.items;
}

abbrev pub drives_row_of : Saved → DrivesRow
drives_row_of port = record { types = port.guest.types; attentions = port.guest.attentions }

-- the rows of the port, then those of its units, and then those of the calls that are to fail
abbrev pub port_rows : Saved → List (List ℕ)
port_rows port =
    phase_row port.phase ∷ controller_row (controller_of port) ∷ counts_row (counts_of port)
    ∷ drives_row (drives_row_of port) ∷ position_row port.exec.position ∷ ring_row port.responses
    ∷ ring_row port.commands ∷ []

abbrev pub unit_rows : List (Option UnitInfo) → List (List ℕ)
unit_rows units =
    unit_row (get_or units 0 None) ∷ unit_row (get_or units 1 None) ∷ unit_row (get_or units 2 None)
    ∷ unit_row (get_or units 3 None) ∷ []

abbrev pub call_rows : List (Option ℕ) → List (List ℕ)
call_rows calls =
    call_row (get_or calls 0 None) ∷ call_row (get_or calls 1 None) ∷ call_row (get_or calls 2 None)
    ∷ call_row (get_or calls 3 None) ∷ []

abbrev pub rows : SavedState → List (List ℕ)
rows s = port_rows s.port ++ (unit_rows s.port.exec.units ++ call_rows s.failing_calls)

abbrev pub op_bytes : GuestOp → List ℕ
op_bytes op = op_number op ∷ []

-- bytes, and 0 up to this number of them
abbrev pub filled : ℕ → List ℕ → List ℕ
filled n bytes = bytes ++ replicate (n - length bytes) 0

-- the bytes of a state
abbrev pub state_bytes : SavedState → List ℕ
state_bytes s =
    concat (rows s)
    ++ (filled 16 (concat (map op_bytes s.port.exec.guest_ops.items))
    ++ (filled 720 (concat (map written_command s.port.exec.pending.items))
    ++ filled 720 (concat (map written_reply s.port.waiting.items))))

-- ---- read

abbrev pub row_in : List ℕ → ℕ → List ℕ
row_in bytes index = part bytes (8 * index) 8

abbrev pub op_of_byte : List ℕ → GuestOp
op_of_byte bytes = op_in (slice_index bytes 0)

-- the command of a text, and some command if it is invalid
abbrev pub command_or : Result Command Bad → Command
command_or (Ok c) = c
command_or (Err bad) = record { reference = 0; unit = 0; op = Status }

abbrev pub command_in : List ℕ → Command
command_in text = command_or (read_command text)

-- the end message of a text, and some end message if it has none
abbrev pub reply_or : Option Reply → Reply
reply_or (Some reply) = reply
reply_or None = record { reference = 0; unit = 0; status = 0; body = Flush }

abbrev pub reply_in : List ℕ → Reply
reply_in text = reply_or (read_reply text)

-- a number of items, or 15 if it is larger
abbrev pub limited : ℕ → ℕ
limited count = if nat_lt 15 count then 15 else count

-- the items of this width that follow each other from an offset on
abbrev pub items_in : {A : Type 0} → ℕ → (List ℕ → A) → ℕ → ℕ → List ℕ → List A
items_in width read zero at bytes = []
items_in width read (suc n) at bytes =
    items_in width read n at bytes ++ read (part bytes (at + width * n) width) ∷ []

abbrev pub exec_in : List ℕ → CountsRow → SavedExec
exec_in bytes counts = record {
  units = unit_in (row_in bytes 7) ∷ unit_in (row_in bytes 8) ∷ unit_in (row_in bytes 9)
      ∷ unit_in (row_in bytes 10) ∷ [];
  pending = record { items = items_in 48 command_in (limited counts.pending) 136 bytes };
  guest_ops = record { items = items_in 1 op_of_byte (limited counts.ops) 120 bytes };
  position = position_in (row_in bytes 4);
}

abbrev pub port_from : List ℕ → ControllerRow → CountsRow → DrivesRow → Saved
port_from bytes controller counts drives = record {
  profile = controller.profile;
  phase = phase_in (row_in bytes 0);
  begun = counts.begun;
  responses = ring_in (row_in bytes 5);
  commands = ring_in (row_in bytes 6);
  waiting = record { items = items_in 48 reply_in (limited counts.waiting) 856 bytes };
  polling = counts.polling;
  credits = counts.credits;
  interrupts =
      record { enabled = counts.enabled; vector = controller.vector; requested = counts.requested };
  guest =
      record { types = drives.types; flags = controller.flags; attentions = drives.attentions };
  exec = exec_in bytes counts;
}

abbrev pub port_in : List ℕ → Saved
port_in bytes =
    port_from bytes (controller_in (row_in bytes 1)) (counts_in (row_in bytes 2))
    (drives_row_in (row_in bytes 3))

-- the state that has these bytes, if there is one, and some state otherwise
abbrev pub state_in : List ℕ → SavedState
state_in bytes = record {
  port = port_in bytes;
  failing_calls = call_in (row_in bytes 11) ∷ call_in (row_in bytes 12) ∷ call_in (row_in bytes 13)
      ∷ call_in (row_in bytes 14) ∷ [];
}

-- these are the bytes of the state
pub record IsRead (bytes : List ℕ) (s : SavedState) : Type 0 where
  pub written : state_bytes s ≡ bytes
  pub back : state_in bytes ≡ s

-- the version of bytes, which is their first number
abbrev pub version_in : List ℕ → ℕ
version_in bytes = little_from 0 2 bytes

-- The state that has the bytes is read. They are rejected if their version is another, whatever their number is, if
-- their number is another, or if no state has them.
abbrev pub BytesEffect : List ℕ → Result SavedState BytesError → Type 0
BytesEffect bytes (Ok s) = IsRead bytes s
BytesEffect bytes (Err cause.Version) = (2 ≤ length bytes) × (version_in bytes ≢ VERSION_NUMBER)
BytesEffect bytes (Err cause.Length) =
    (length bytes ≢ 1576) × (2 ≤ length bytes → version_in bytes ≡ VERSION_NUMBER)
BytesEffect bytes (Err cause.Invalid) =
    (length bytes ≡ 1576) × (version_in bytes ≡ VERSION_NUMBER) × ((s : SavedState) → IsRead bytes s → ⊥)

-- ---- the law

-- a row that is read as this
pub record IsRow {X : Type 0} (read : List ℕ → X) (bytes : List ℕ) (x : X) : Type 0 where
  pub long : length bytes ≡ 8
  pub back : read bytes ≡ x

-- an item whose bytes have this width and are read as the item
pub record IsReadBack {A : Type 0} (width : ℕ) (read : List ℕ → A) (write : A → List ℕ) (x : A)
    : Type 0 where
  pub long : length (write x) ≡ width
  pub back : read (write x) ≡ x

pub record ArePortRows (port : Saved) : Type 0 where
  pub phase : IsRow phase_in (phase_row port.phase) port.phase
  pub controller : IsRow controller_in (controller_row (controller_of port)) (controller_of port)
  pub counts : IsRow counts_in (counts_row (counts_of port)) (counts_of port)
  pub drives : IsRow drives_row_in (drives_row (drives_row_of port)) (drives_row_of port)
  pub position : IsRow position_in (position_row port.exec.position) port.exec.position
  pub responses : IsRow ring_in (ring_row port.responses) port.responses
  pub commands : IsRow ring_in (ring_row port.commands) port.commands

-- the rows of four units
pub record AreUnitRows (units : List (Option UnitInfo)) : Type 0 where
  pub four : length units ≡ 4
  pub unit_0 : IsRow unit_in (unit_row (get_or units 0 None)) (get_or units 0 None)
  pub unit_1 : IsRow unit_in (unit_row (get_or units 1 None)) (get_or units 1 None)
  pub unit_2 : IsRow unit_in (unit_row (get_or units 2 None)) (get_or units 2 None)
  pub unit_3 : IsRow unit_in (unit_row (get_or units 3 None)) (get_or units 3 None)

pub record AreCallRows (calls : List (Option ℕ)) : Type 0 where
  pub four : length calls ≡ 4
  pub call_0 : IsRow call_in (call_row (get_or calls 0 None)) (get_or calls 0 None)
  pub call_1 : IsRow call_in (call_row (get_or calls 1 None)) (get_or calls 1 None)
  pub call_2 : IsRow call_in (call_row (get_or calls 2 None)) (get_or calls 2 None)
  pub call_3 : IsRow call_in (call_row (get_or calls 3 None)) (get_or calls 3 None)

pub record AreRows (s : SavedState) : Type 0 where
  pub port : ArePortRows s.port
  pub units : AreUnitRows s.port.exec.units
  pub calls : AreCallRows s.failing_calls

-- each part of the state is read as it was written, and no list is longer than 15
pub record IsEachBack (s : SavedState) : Type 0 where
  pub rows : AreRows s
  pub ops : All (IsReadBack 1 op_of_byte op_bytes) s.port.exec.guest_ops.items
  pub pending : All (IsReadBack 48 command_in written_command) s.port.exec.pending.items
  pub waiting : All (IsReadBack 48 reply_in written_reply) s.port.waiting.items
  pub ops_few : length s.port.exec.guest_ops.items ≤ 15
  pub pending_few : length s.port.exec.pending.items ≤ 15
  pub waiting_few : length s.port.waiting.items ≤ 15
