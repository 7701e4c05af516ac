-- Commands of the compatible profile: those of the strict profile, and two that it doesn't know. Each of
-- the two has the parameters of one that the strict profile knows, and a line in each table here. MSCP
-- Basic Disk Functions Manual: Set Unit Characteristics, Compare Host Data, opcodes.
use Rattle.std.specs.Prelude.{ℕ, ◌==◌, List, ◌++◌, codes, if◌then◌else◌}
use Rattle.std.specs.Fmt.{decimal}
use Rattle.uda_packet.specs.declared.command.Command.{Command}
use Rattle.uda_packet.specs.declared.command.Op.{Op}
use Rattle.uda_packet.specs.declared.guest_command.GuestCommand.{GuestCommand}
use Rattle.uda_packet.specs.declared.guest_command.GuestOp.{GuestOp}
use Rattle.uda_packet.specs.declared.guest_command.GuestOp.TheVariants as guest
use Rattle.uda_packet.specs.declared.reply.ReplyBody.{ReplyBody}
use Rattle.uda_packet.specs.declared.reply.ReplyBody.TheVariants as reply
use Rattle.uda_packet.specs.Opcode.{opcode_of, blank_body}
use Rattle.uda_packet.specs.Display.{op_name, range_display}
use Rattle.uda_packet.specs.Transfer.{transfer_of}

-- the operation to execute with the command of this opcode
abbrev pub guest_op : ℕ → GuestOp
guest_op code = if code == 10 then guest.SetUnit else if code == 32 then guest.Compare else guest.Basic

-- the opcode of the command whose parameters it has: those of Online, and those of Read
abbrev pub opcode_resembled : ℕ → ℕ
opcode_resembled code = if code == 10 then 9 else if code == 32 then 33 else code

-- the opcode of such a command
abbrev pub opcode_meant : GuestOp → Op → ℕ
opcode_meant guest.Basic o = opcode_of o
opcode_meant guest.SetUnit o = 10
opcode_meant guest.Compare o = 32

-- the name of such a command
abbrev pub guest_name : GuestOp → Op → List ℕ
guest_name guest.Basic o = op_name o
guest_name guest.SetUnit o = codes "Set Unit Characteristics"
guest_name guest.Compare o = codes "Compare Host Data"

-- the body of its end message, with all numbers 0
abbrev pub blank_reply : GuestOp → Op → ReplyBody
blank_reply guest.Basic o = reply.Basic (blank_body o)
blank_reply guest.SetUnit o = reply.SetUnit 0 0
blank_reply guest.Compare o = reply.Compare 0

-- a command that the strict profile knows
abbrev pub basic_command : Command → GuestCommand
basic_command c = record { command = c; op = guest.Basic }

-- a command: its reference, its name, its unit, and the range of a transfer
abbrev pub guest_command_display : GuestCommand → List ℕ
guest_command_display g =
    decimal g.command.reference ++ codes " " ++ guest_name g.op g.command.op ++ codes " unit "
    ++ decimal g.command.unit ++ range_display (transfer_of g.command.op)
