-- The printed texts of messages.
use Rattle.std.specs.Prelude.{ℕ, List, [], ◌++◌, codes, Option, Some, None}
use Rattle.std.specs.Fmt.{decimal}
use Rattle.uda_packet.specs.declared.bad.Bad.{Bad}
use Rattle.uda_packet.specs.declared.bad.BadKind.{BadKind}
use Rattle.uda_packet.specs.declared.bad.BadKind.TheVariants as fault
use Rattle.uda_packet.specs.declared.command.Command.{Command}
use Rattle.uda_packet.specs.declared.command.Op.{Op}
use Rattle.uda_packet.specs.declared.end.End.{End}
use Rattle.uda_packet.specs.declared.end.EndBody.{EndBody}
use Rattle.uda_packet.specs.declared.transfer.Transfer.{Transfer}
use Rattle.uda_packet.specs.Commands.{body_row}
use Rattle.uda_packet.specs.Opcode.{blank_body}
use Rattle.uda_packet.specs.Transfer.{transfer_of}
use Rattle.uda_disk.specs.Status.{status_name}
use Rattle.uda_disk.specs.Display.{word_digits}

-- the name of the command of a body
abbrev pub body_name : EndBody → List ℕ
body_name b = (body_row b).name

-- the printed text of its numbers
abbrev pub body_numbers : EndBody → List ℕ
body_numbers b = (body_row b).numbers

abbrev pub body_display : EndBody → List ℕ
body_display b = body_name b ++ body_numbers b

abbrev pub end_display : End → List ℕ
end_display e =
    codes "reference " ++ decimal e.reference ++ codes ", unit " ++ decimal e.unit
    ++ codes ", status 0x" ++ word_digits e.status
    ++ codes " (" ++ status_name e.status ++ codes "): "
    ++ body_display e.body

abbrev pub fault_display : BadKind → List ℕ
fault_display fault.Opcode = codes "no command has this opcode"
fault_display fault.Modifiers = codes "a modifier is none of the command's"
fault_display fault.Version = codes "the version of MSCP is not 0"

abbrev pub bad_display : Bad → List ℕ
bad_display b =
    codes "reference " ++ decimal b.reference ++ codes ", unit " ++ decimal b.unit
    ++ codes ": " ++ fault_display b.kind

-- the name of an operation: that of the body of its end message
abbrev pub op_name : Op → List ℕ
op_name o = body_name (blank_body o)

-- the range of a transfer
abbrev pub range_display : Option Transfer → List ℕ
range_display (Some t) = codes " lbn " ++ decimal t.lbn ++ codes " bytes " ++ decimal t.bytes
range_display None = []

-- a command: its reference, its name, its unit, and the blocks of a transfer
abbrev pub command_display : Command → List ℕ
command_display c =
    decimal c.reference ++ codes " " ++ op_name c.op ++ codes " unit " ++ decimal c.unit
    ++ range_display (transfer_of c.op)
