-- The commands: all the facts in which they differ. A command has a row in `row_of` and one in `ops_in`.
-- The body of its end message has one in `body_row`, `answer_entries`, `bodies_in` and `BodyFits`. MSCP
-- Basic Disk Functions Manual: command and end messages.
use Rattle.std.specs.Prelude.{ℕ, ◌+◌, ◌*◌, ◌^◌, ◌<◌, ◌==◌, ◌||◌, Bool, true, false, Option, Some, None, List}
use Rattle.std.specs.Prelude.{[], ◌∷◌, ◌++◌, codes, if◌then◌else◌}
use Rattle.std.specs.Int.RustNames.{bit_and}
use Rattle.std.specs.Fmt.{decimal}
use Rattle.uda_packet.specs.declared.command.Op.{Op}
use Rattle.uda_packet.specs.declared.command.Op.TheVariants as op
use Rattle.uda_packet.specs.declared.end.EndBody.{EndBody}
use Rattle.uda_packet.specs.declared.end.EndBody.TheVariants as body
use Rattle.uda_packet.specs.declared.end.Kind.{Kind}
use Rattle.uda_packet.specs.declared.end.Kind.TheVariants as kind
use Rattle.uda_packet.specs.declared.transfer.Transfer.{Transfer}
use Rattle.uda_packet.specs.Field.{Entry, ◌holds◌, number_in, modifiers_field, byte_count_field}
use Rattle.uda_packet.specs.Field.{unit_flags_field, address_field, identifier_field, lbn_field}
use Rattle.uda_packet.specs.Field.{media_type_field, unit_size_field}
use Rattle.uda_packet.specs.Flags.{set_write_protect}
use Rattle.uda_disk.specs.Disk.{software_protection}
use Rattle.uda_disk.specs.Display.{word_digits}
use Rattle.uda_disk.specs.Status.{SUCCESS, AVAILABLE, ALREADY_ONLINE}

-- ---- commands

-- the constant facts of a command; its opcode is in the row of its end message
pub record OpRow : Type 0 where
  -- the body of its end message with all numbers 0
  pub blank : EndBody
  -- the modifier bits that it may have
  pub allowed : ℕ
  -- whether it has a field for the version of MSCP
  pub versioned : Bool
  -- the range and the buffer of a transfer
  pub transfer : Option Transfer
  -- the fields of its text after the opcode
  pub parameters : List Entry

abbrev pub protection_flags : Bool → ℕ
protection_flags true = software_protection
protection_flags false = 0

abbrev pub protection_entries : Option Bool → List Entry
protection_entries None = []
protection_entries (Some soft) =
    modifiers_field holds set_write_protect ∷ unit_flags_field holds (protection_flags soft) ∷ []

-- a command without modifiers, version, blocks and parameters
abbrev plain_row : EndBody → OpRow
plain_row answer = record {
  blank = answer;
  allowed = 0;
  versioned = false;
  transfer = None;
  parameters = [];
}

-- a transfer without a buffer; the address 0 replaces it
abbrev extent_row : Kind → ℕ → ℕ → OpRow
extent_row which bytes lbn = record (plain_row (body.Moved which 0)) {
  transfer = Some (record { kind = which; bytes = bytes; lbn = lbn; buffer = 0 });
  parameters = byte_count_field holds bytes ∷ lbn_field holds lbn ∷ [];
}

-- a transfer with a buffer in host memory
abbrev buffer_row : Kind → ℕ → ℕ → ℕ → OpRow
buffer_row which bytes address lbn = record (plain_row (body.Moved which 0)) {
  transfer = Some (record { kind = which; bytes = bytes; lbn = lbn; buffer = address });
  parameters = byte_count_field holds bytes ∷ address_field holds address ∷ lbn_field holds lbn ∷ [];
}

abbrev pub row_of : Op → OpRow
row_of op.Status = plain_row (body.Status 0)
row_of op.Controller = record (plain_row body.Controller) { versioned = true }
row_of op.Available = plain_row body.Available
row_of (op.Online soft) = record (plain_row (body.Online 0 0)) {
  allowed = set_write_protect;
  parameters = protection_entries soft;
}
row_of (op.Access bytes lbn) = extent_row kind.Access bytes lbn
row_of (op.Erase bytes lbn) = extent_row kind.Erase bytes lbn
row_of (op.Read bytes address lbn) = buffer_row kind.Read bytes address lbn
row_of (op.Write bytes address lbn) = buffer_row kind.Write bytes address lbn

-- whether the unit flags of the text ask for software protection
abbrev pub asks_protection : List ℕ → Bool
asks_protection bytes =
    bit_and (number_in unit_flags_field bytes) software_protection == software_protection

-- the request of an Online for software protection, if it makes one
abbrev pub protection_in : List ℕ → Option Bool
protection_in bytes =
    if number_in modifiers_field bytes == set_write_protect
    then Some (asks_protection bytes) else None

-- each command with the numbers that a text holds for it
abbrev pub ops_in : List ℕ → List Op
ops_in bytes =
    let count = number_in byte_count_field bytes in
    let address = number_in address_field bytes in
    let lbn = number_in lbn_field bytes in
    op.Status ∷ op.Controller ∷ op.Available ∷ op.Online (protection_in bytes)
    ∷ op.Access count lbn ∷ op.Erase count lbn
    ∷ op.Read count address lbn ∷ op.Write count address lbn ∷ []

-- ---- end messages

-- the constant facts of the body of an end message
pub record BodyRow : Type 0 where
  -- the opcode of its command, or 0 for an invalid command
  pub opcode : ℕ
  -- the length in bytes that the manual gives its text
  pub length : ℕ
  -- the name of the command
  pub name : List ℕ
  -- the printed text of its numbers
  pub numbers : List ℕ

abbrev pub body_line : ℕ → ℕ → List ℕ → List ℕ → BodyRow
body_line code bytes title shown = record {
  opcode = code;
  length = bytes;
  name = title;
  numbers = shown;
}

abbrev flags_shown : ℕ → List ℕ
flags_shown flags = codes ", flags 0x" ++ word_digits flags

abbrev moved_shown : ℕ → List ℕ
moved_shown bytes = codes ", " ++ decimal bytes ++ codes " bytes"

abbrev pub transfer_opcode : Kind → ℕ
transfer_opcode kind.Access = 16
transfer_opcode kind.Erase = 18
transfer_opcode kind.Read = 33
transfer_opcode kind.Write = 34

abbrev pub kind_display : Kind → List ℕ
kind_display kind.Access = codes "Access"
kind_display kind.Erase = codes "Erase"
kind_display kind.Read = codes "Read"
kind_display kind.Write = codes "Write"

abbrev pub body_row : EndBody → BodyRow
body_row body.Invalid = body_line 0 12 (codes "invalid command") []
body_row (body.Status flags) = body_line 3 48 (codes "Get Unit Status") (flags_shown flags)
body_row body.Controller = body_line 4 32 (codes "Set Controller Characteristics") []
body_row body.Available = body_line 8 12 (codes "Available") []
body_row (body.Online flags size) =
    body_line 9 44 (codes "Online")
    (codes ", flags 0x" ++ word_digits flags ++ codes ", " ++ decimal size ++ codes " blocks")
body_row (body.Moved which bytes) =
    body_line (transfer_opcode which) 32 (kind_display which) (moved_shown bytes)

-- the unit's number in the low bytes, its class 2 (disk) in the highest byte
abbrev strict_unit_identifier : ℕ → ℕ
strict_unit_identifier number = number + 2 * 256 ^ 7

-- the controller's number 1 in the low bytes, its model 6 and its class 1 (mass storage controller) in the
-- highest bytes
abbrev controller_identifier : ℕ
controller_identifier = 1 + 6 * 256 ^ 6 + 1 * 256 ^ 7

-- every drive of this controller has the same media type, that of an RA81
abbrev media_type : ℕ
media_type = 0x25641051

-- an end message of Get Unit Status has identifier and media type if the unit is online or available
abbrev pub tells_status : ℕ → Bool
tells_status status = (status == SUCCESS) || (status == AVAILABLE)

-- one of Online has them if the unit is online now, or was
abbrev pub tells_online : ℕ → Bool
tells_online status = (status == SUCCESS) || (status == ALREADY_ONLINE)

abbrev pub unit_entries : Bool → ℕ → List Entry
unit_entries true unit =
    identifier_field holds (strict_unit_identifier unit) ∷ media_type_field holds media_type ∷ []
unit_entries false unit = []

-- the controller's identifier, only after success
abbrev pub strict_controller_entries : Bool → List Entry
strict_controller_entries true = identifier_field holds controller_identifier ∷ []
strict_controller_entries false = []

-- the fields after the status of an end message of this unit and status
abbrev pub answer_entries : ℕ → ℕ → EndBody → List Entry
answer_entries unit status body.Invalid = []
answer_entries unit status (body.Status flags) =
    unit_flags_field holds flags ∷ unit_entries (tells_status status) unit
answer_entries unit status body.Controller = strict_controller_entries (status == SUCCESS)
answer_entries unit status body.Available = []
answer_entries unit status (body.Online flags size) =
    unit_flags_field holds flags
    ∷ (unit_entries (tells_online status) unit ++ unit_size_field holds size ∷ [])
answer_entries unit status (body.Moved which moved) = byte_count_field holds moved ∷ []

-- each body with the numbers that a text holds for it
abbrev pub bodies_in : List ℕ → List EndBody
bodies_in bytes =
    let flags = number_in unit_flags_field bytes in
    let moved = number_in byte_count_field bytes in
    body.Invalid ∷ body.Status flags ∷ body.Controller ∷ body.Available
    ∷ body.Online flags (number_in unit_size_field bytes)
    ∷ body.Moved kind.Access moved ∷ body.Moved kind.Erase moved
    ∷ body.Moved kind.Read moved ∷ body.Moved kind.Write moved ∷ []

-- the numbers of a body are in the ranges of their types
abbrev pub BodyFits : EndBody → Type 0
BodyFits body.Invalid = Unit {0}
BodyFits (body.Status flags) = flags < 2 ^ 16
BodyFits body.Controller = Unit {0}
BodyFits body.Available = Unit {0}
BodyFits (body.Online flags size) = (flags < 2 ^ 16) × (size < 2 ^ 32)
BodyFits (body.Moved which moved) = moved < 2 ^ 32
