-- The request in the text of a guest's command: any command of basic MSCP, whatever its modifiers. MSCP
-- Basic Disk Functions Manual: command messages, opcodes, command modifiers.
use Rattle.std.specs.Prelude.{ℕ, ◌+◌, ◌%◌, ◌==◌, nat_lt, ◌&&◌, Bool, List, Option, Some, None, Result, Ok, Err}
use Rattle.std.specs.Prelude.{if◌then◌else◌}
use Rattle.std.specs.Int.RustNames.{bit_and}
use Rattle.uda_packet.specs.declared.bad.Bad.{Bad}
use Rattle.uda_packet.specs.declared.command.Command.{Command}
use Rattle.uda_packet.specs.declared.reply.Reply.{Reply}
use Rattle.uda_packet.specs.declared.reply.ReplyBody.{ReplyBody}
use Rattle.uda_packet.specs.declared.reply.ReplyBody.TheVariants.{Abort, CommandStatus, AccessPaths}
use Rattle.uda_packet.specs.declared.reply.ReplyBody.TheVariants.{CompareController, Flush}
use Rattle.uda_packet.specs.declared.command.Op.{Op}
use Rattle.uda_packet.specs.declared.command.Op.TheVariants as op
use Rattle.uda_packet.specs.Field.{number_in, with_number, reference_field, unit_field, code_field}
use Rattle.uda_packet.specs.Field.{modifiers_field, named_field, address_field}
use Rattle.uda_packet.specs.declared.guest_end.Identity.{Identity}
use Rattle.uda_packet.specs.GuestEnd.{drive_number, addresses_of}
use Rattle.uda_packet.specs.Flags.{next_unit}
use Rattle.uda_packet.specs.Opcode.{opcode_of, allowed_modifiers, op_named}
use Rattle.uda_packet.specs.Bad.{bad_end}
use Rattle.uda_packet.specs.Reading.{read_command}
use Rattle.uda_packet.specs.declared.guest_command.GuestCommand.{GuestCommand}
use Rattle.uda_packet.specs.declared.guest_command.GuestOp.{GuestOp}
use Rattle.uda_packet.specs.declared.guest_command.GuestOp.TheVariants as guest
use Rattle.uda_packet.specs.GuestCommands.{guest_op, opcode_resembled}
use Rattle.uda_packet.specs.Reply.{basic_reply}
use Rattle.uda_packet.specs.declared.end.EndBody.TheVariants.{Invalid}
use Rattle.uda_disk.specs.Status.{SUCCESS, INVALID_OPCODE}

-- ---- commands that the port executes when it fetches them

-- the body of the end message, which depends only on the text; the progress for a Get Command Status is not
-- known yet
abbrev pub body_at_once : ℕ → List ℕ → Option ReplyBody
body_at_once code bytes =
    if code == 1 then Some (Abort (number_in named_field bytes))
    else if code == 2 then Some (CommandStatus (number_in named_field bytes) 0)
    else if code == 11 then Some AccessPaths
    else if code == 17 then Some CompareController
    else if code == 19 then Some Flush
    else None

-- ---- other commands, as the strict profile reads them

-- "Get Unit Status with next unit": the lowest of the controller's units that isn't below the unit asked for,
-- and unit 0 if there is none
abbrev pub next_from : ℕ → ℕ → ℕ
next_from first asked =
    if nat_lt asked first then first else if nat_lt asked (first + 4) then asked else 0

abbrev pub asks_next : List ℕ → Bool
asks_next bytes =
    (number_in code_field bytes == opcode_of op.Status)
    && (bit_and (number_in modifiers_field bytes) next_unit == next_unit)

-- the unit that the command is for
abbrev pub unit_meant : Identity → List ℕ → ℕ
unit_meant identity bytes =
    if asks_next bytes then next_from identity.first_unit (number_in unit_field bytes)
    else number_in unit_field bytes

-- the address of a buffer, without the bits that an address on the bus doesn't have
abbrev pub address_meant : Identity → List ℕ → ℕ
address_meant identity bytes = number_in address_field bytes % addresses_of identity.bus

abbrev allowed_by : Option Op → ℕ
allowed_by None = 0
allowed_by (Some o) = allowed_modifiers o

-- the modifiers that have a meaning for the command
abbrev pub modifiers_meant : List ℕ → ℕ
modifiers_meant bytes =
    bit_and (number_in modifiers_field bytes) (allowed_by (op_named (number_in code_field bytes) bytes))

-- the text with the drive of that unit, those modifiers and that address
abbrev pub plain_text : Identity → List ℕ → List ℕ
plain_text identity bytes =
    with_number address_field (address_meant identity bytes)
    (with_number modifiers_field (modifiers_meant bytes)
    (with_number unit_field (drive_number identity (unit_meant identity bytes)) bytes))

-- a command on a connection that isn't MSCP's has the end message of an unknown opcode
abbrev pub other_connection_reply : Identity → List ℕ → Reply
other_connection_reply identity bytes = basic_reply (record {
  reference = number_in reference_field bytes;
  unit = drive_number identity (number_in unit_field bytes);
  status = INVALID_OPCODE;
  body = Invalid;
})

-- ---- the request

abbrev pub reply_to_bad : Result Command Bad → Result Command Reply
reply_to_bad (Ok c) = Ok c
reply_to_bad (Err bad) = Err (basic_reply (bad_end bad))

-- the command of a text as the strict profile reads it, or the end message of an invalid one
abbrev pub read_plain : Identity → List ℕ → Result Command Reply
read_plain identity bytes = reply_to_bad (read_command (plain_text identity bytes))

abbrev pub asked_by : Identity → List ℕ → Option ReplyBody → Result Command Reply
asked_by identity bytes (Some answer) =
    Err (record {
      reference = number_in reference_field bytes;
      unit = drive_number identity (number_in unit_field bytes);
      status = SUCCESS;
      body = answer;
    })
asked_by identity bytes None = read_plain identity bytes

-- the command of a text that the strict profile knows, or the end message of one that is invalid or
-- ended at once; its unit is the drive that the guest means
abbrev pub read_resembled : Identity → List ℕ → Result Command Reply
read_resembled identity bytes = asked_by identity bytes (body_at_once (number_in code_field bytes) bytes)

-- the text of the command whose parameters this one has: only the opcode differs
abbrev pub resembled_text : List ℕ → List ℕ
resembled_text bytes = with_number code_field (opcode_resembled (number_in code_field bytes)) bytes

-- the operation to execute with the command, if it is valid
abbrev pub asked_as : GuestOp → Result Command Reply → Result GuestCommand Reply
asked_as op (Ok c) = Ok (record { command = c; op = op })
asked_as op (Err r) = Err r

abbrev pub read_as : GuestOp → Identity → List ℕ → Result GuestCommand Reply
read_as guest.Basic identity bytes = asked_as guest.Basic (read_resembled identity bytes)
read_as op identity bytes = asked_as op (read_resembled identity (resembled_text bytes))

-- a command to be executed, or the end message of one that is invalid or ended at once
abbrev pub read_guest : Identity → List ℕ → Result GuestCommand Reply
read_guest identity bytes = read_as (guest_op (number_in code_field bytes)) identity bytes
