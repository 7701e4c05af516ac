-- The text of a packet: a title, and a line for each field.
use Rattle.std.specs.Prelude.{ℕ, ◌==◌, Bool, true, false, List, [], ◌++◌, codes, Option, Some, None, Result, Ok, Err, if◌then◌else◌}
use Rattle.std.specs.Int.RustNames.{bit_and}
use Rattle.std.specs.Fmt.{decimal}
use Rattle.uda_disk.specs.Disk.{software_protection, hardware_protection}
use Rattle.uda_disk.specs.Status.{status_name}
use Rattle.uda_packet.specs.declared.bad.Bad.{Bad}
use Rattle.uda_packet.specs.declared.bad.BadKind.{BadKind}
use Rattle.uda_packet.specs.declared.bad.BadKind.TheVariants as fault
use Rattle.uda_packet.specs.declared.command.Command.{Command}
use Rattle.uda_packet.specs.declared.command.Op.{Op}
use Rattle.uda_packet.specs.declared.command.Op.TheVariants as op
use Rattle.uda_packet.specs.declared.end.End.{End}
use Rattle.uda_packet.specs.declared.end.EndBody.{EndBody}
use Rattle.uda_packet.specs.declared.end.EndBody.TheVariants as body
use Rattle.uda_packet.specs.declared.transfer.Transfer.{Transfer}
use Rattle.uda_packet.specs.Bad.{bad_end}
use Rattle.uda_packet.specs.Display.{body_name, op_name, fault_display}
use Rattle.uda_packet.specs.Field.{number_in, code_field, modifiers_field}
use Rattle.uda_packet.specs.Opcode.{opcode_of, end_code}
use Rattle.uda_packet.specs.Reading.{read_command, read_end}
use Rattle.uda_packet.specs.Transfer.{transfer_of, has_buffer}
use Rattle.uda50_show.specs.Hex.{hex_byte, hex_word, hex_long}

-- a line: a label and a value
abbrev pub line : List ℕ → List ℕ → List ℕ
line label value = label ++ value ++ codes "\n"

-- the lines of the reference and the unit
abbrev pub request_lines : ℕ → ℕ → List ℕ
request_lines reference unit =
    line (codes "  reference   ") (decimal reference) ++ line (codes "  unit        ") (decimal unit)

-- a status word, and its name in parentheses
abbrev pub named_status : ℕ → List ℕ
named_status status = hex_word status ++ codes " (" ++ status_name status ++ codes ")"

-- ---- end messages

abbrev has_flag : ℕ → ℕ → Bool
has_flag flag flags = bit_and flags flag == flag

-- the write protection that the unit flags tell
abbrev pub protection_name : ℕ → List ℕ
protection_name flags =
    if has_flag software_protection flags
    then (if has_flag hardware_protection flags then codes " (software and hardware write protection)"
    else codes " (software write protection)")
    else if has_flag hardware_protection flags then codes " (hardware write protection)" else []

abbrev pub flags_line : ℕ → List ℕ
flags_line flags = line (codes "  unit flags  0x") (hex_word flags ++ protection_name flags)

-- what follows the number of a unit's blocks
abbrev pub size_end : ℕ → List ℕ
size_end size = if size == 1 then codes " block\n" else codes " blocks\n"

abbrev pub size_line : ℕ → List ℕ
size_line size = codes "  unit size   " ++ decimal size ++ size_end size

-- the lines of an end message's results
abbrev pub result_lines : EndBody → List ℕ
result_lines body.Invalid = []
result_lines (body.Status flags) = flags_line flags
result_lines body.Controller = []
result_lines body.Available = []
result_lines (body.Online flags size) =
    flags_line flags ++ size_line size
result_lines (body.Moved which bytes) = line (codes "  byte count  ") (decimal bytes)

abbrev pub end_message_text : End → List ℕ
end_message_text e =
    line (codes "end message: ") (body_name e.body)
    ++ request_lines e.reference e.unit
    ++ line (codes "  end code    0x") (hex_byte (end_code e.body))
    ++ line (codes "  status      0x") (named_status e.status)
    ++ result_lines e.body

-- ---- commands

-- the lines of the fields that valid and invalid commands have: reference, unit, opcode and modifiers
abbrev pub head_lines : ℕ → ℕ → ℕ → ℕ → List ℕ
head_lines reference unit opcode modifiers =
    request_lines reference unit
    ++ line (codes "  opcode      0x") (hex_byte opcode)
    ++ line (codes "  modifiers   0x") (hex_word modifiers)

abbrev pub buffer_line : Bool → ℕ → List ℕ
buffer_line true address = line (codes "  buffer      0x") (hex_long address)
buffer_line false address = []

abbrev pub transfer_lines : Option Transfer → List ℕ
transfer_lines None = []
transfer_lines (Some t) =
    line (codes "  byte count  ") (decimal t.bytes)
    ++ buffer_line (has_buffer t.kind) t.buffer
    ++ line (codes "  lbn         ") (decimal t.lbn)

-- the line of an Online that says whether the unit is to have software protection
abbrev pub protection_line : Option Bool → List ℕ
protection_line None = []
protection_line (Some true) = codes "  protection  on (Set Write Protect)\n"
protection_line (Some false) = codes "  protection  off (Set Write Protect)\n"

-- the lines of a command's parameters
abbrev pub parameter_lines : Op → List ℕ
parameter_lines (op.Online soft) = protection_line soft
parameter_lines op.Status = []
parameter_lines op.Controller = []
parameter_lines op.Available = []
parameter_lines (op.Access bytes lbn) = transfer_lines (transfer_of (op.Access bytes lbn))
parameter_lines (op.Erase bytes lbn) = transfer_lines (transfer_of (op.Erase bytes lbn))
parameter_lines (op.Read bytes address lbn) = transfer_lines (transfer_of (op.Read bytes address lbn))
parameter_lines (op.Write bytes address lbn) = transfer_lines (transfer_of (op.Write bytes address lbn))

-- a command with these modifiers
abbrev pub command_text : Command → ℕ → List ℕ
command_text c modifiers =
    line (codes "command: ") (op_name c.op)
    ++ head_lines c.reference c.unit (opcode_of c.op) modifiers
    ++ parameter_lines c.op

-- ---- invalid commands

-- the title of an invalid command of this name, up to the fault
abbrev pub bad_title : BadKind → List ℕ → List ℕ
bad_title fault.Opcode name = codes "neither a command nor an end message: "
bad_title fault.Modifiers name = codes "invalid command, " ++ name ++ codes ": "
bad_title fault.Version name = codes "invalid command, " ++ name ++ codes ": "

-- an invalid command with this byte in the place of an opcode, and with these modifiers
abbrev pub bad_text : Bad → ℕ → ℕ → List ℕ
bad_text b opcode modifiers =
    line (bad_title b.kind (body_name b.body)) (fault_display b.kind)
    ++ head_lines b.reference b.unit opcode modifiers
    ++ line (codes "  rejected    status 0x") (named_status (bad_end b).status)

-- ---- any bytes

-- the text of an end message, or else of a command or of an invalid command
abbrev text_with : List ℕ → Option End → Result Command Bad → List ℕ
text_with bytes (Some e) r = end_message_text e
text_with bytes None (Ok c) = command_text c (number_in modifiers_field bytes)
text_with bytes None (Err b) = bad_text b (number_in code_field bytes) (number_in modifiers_field bytes)

unfoldable pub packet_text : List ℕ → List ℕ
packet_text bytes = text_with bytes (read_end bytes) (read_command bytes)
