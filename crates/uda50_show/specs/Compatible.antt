-- The messages that only the compatible profile has.
use Rattle.std.specs.Prelude.{ℕ, ◌+◌, ◌==◌, List, [], ◌∷◌, Option, Some, None, if◌then◌else◌, nat_lt}
use Rattle.uda_packet.specs.declared.reply.Reply.{Reply}
use Rattle.uda_packet.specs.declared.reply.ReplyBody.{ReplyBody}
use Rattle.uda_packet.specs.declared.reply.ReplyBody.TheVariants as body
use Rattle.uda_packet.specs.Field.{field, number_in, with_number, unit_field, code_field, modifiers_field}
use Rattle.uda_packet.specs.Field.{address_field, lbn_field, unit_flags_field, media_type_field}
use Rattle.uda_packet.specs.Reply.{read_reply}
use Rattle.uda50_show.specs.declared.compatible.CompatibleCommand.{CompatibleCommand}
use Rattle.uda50_show.specs.declared.compatible.CompatibleMessage.{CompatibleMessage}
use Rattle.uda50_show.specs.declared.compatible.CompatibleMessage.TheVariants as message
use Rattle.uda50_show.specs.declared.compatible.UnitAvailable.{UnitAvailable}

-- an end message with this body, if the strict profile doesn't have it
abbrev pub unless_basic : ReplyBody → Reply → Option Reply
unless_basic (body.Basic b) r = None
unless_basic (body.Abort named) r = Some r
unless_basic (body.CommandStatus named progress) r = Some r
unless_basic body.AccessPaths r = Some r
unless_basic body.CompareController r = Some r
unless_basic body.Flush r = Some r
unless_basic (body.SetUnit flags size) r = Some r
unless_basic (body.Compare bytes) r = Some r

abbrev pub additional_of : Option Reply → Option Reply
additional_of None = None
additional_of (Some r) = unless_basic r.body r

-- the end message in a text, if only the compatible profile has it
abbrev pub additional : List ℕ → Option Reply
additional bytes = additional_of (read_reply bytes)

-- a command's text with its opcode as an end code
abbrev pub as_end : List ℕ → List ℕ
as_end bytes = with_number code_field (number_in code_field bytes + 0x80) bytes

-- the parameters of a command, of which the others are those of its end message
abbrev pub compatible_command : List ℕ → Reply → CompatibleCommand
compatible_command bytes r = record {
  form = r;
  modifiers = number_in modifiers_field bytes;
  buffer = number_in address_field bytes;
  lbn = number_in lbn_field bytes;
  flags = number_in unit_flags_field bytes;
}

-- the fields of an attention message; the identifier of the unit has eight bytes, in two halves
abbrev pub unit_available_fields : List ℕ → UnitAvailable
unit_available_fields bytes = record {
  unit = number_in unit_field bytes;
  flags = number_in unit_flags_field bytes;
  identifier = number_in (field 20 4) bytes ∷ number_in (field 24 4) bytes ∷ [];
  media = number_in media_type_field bytes;
}

abbrev pub end_message : Option Reply → Option CompatibleMessage
end_message None = None
end_message (Some r) = Some (message.End r)

abbrev pub command_message : List ℕ → Option Reply → Option CompatibleMessage
command_message bytes None = None
command_message bytes (Some r) = Some (message.Command (compatible_command bytes r))

-- the message in a text: an end message from 0x80 on, the attention message 0x40, or a command
abbrev pub message_with : ℕ → List ℕ → Option CompatibleMessage
message_with code bytes =
    if nat_lt code 0x80
    then (if code == 0x40 then Some (message.UnitAvailable (unit_available_fields bytes))
    else command_message bytes (additional (as_end bytes)))
    else end_message (additional bytes)

abbrev pub compatible_message : List ℕ → Option CompatibleMessage
compatible_message bytes = message_with (number_in code_field bytes) bytes
