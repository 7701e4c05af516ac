-- The grammar of the texts as functions from bytes to messages.
use Rattle.std.specs.Prelude.{ℕ, ◌==◌, List, Bool, true, false, Option, Some, None, Result, Ok, Err}
use Rattle.std.specs.Prelude.{if◌then◌else◌}
use Rattle.std.specs.Int.RustNames.{bit_and}
use Rattle.uda_packet.specs.declared.command.Command.{Command}
use Rattle.uda_packet.specs.declared.command.Op.{Op}
use Rattle.uda_packet.specs.declared.end.End.{End}
use Rattle.uda_packet.specs.declared.end.EndBody.{EndBody}
use Rattle.uda_packet.specs.declared.end.EndBody.TheVariants as body
use Rattle.uda_packet.specs.declared.bad.Bad.{Bad}
use Rattle.uda_packet.specs.declared.bad.BadKind.{BadKind}
use Rattle.uda_packet.specs.declared.bad.BadKind.TheVariants as fault
use Rattle.uda_packet.specs.Field.{number_in, reference_field, unit_field, code_field, modifiers_field}
use Rattle.uda_packet.specs.Field.{status_field, version_field}
use Rattle.uda_packet.specs.Opcode.{blank_body, allowed_modifiers, names_version, op_named, body_named}

-- ---- commands

-- the version is checked if a command has a field for it
abbrev pub op_by_version : List ℕ → Op → Bool → Result Op (BadKind × EndBody)
op_by_version bytes o false = Ok o
op_by_version bytes o true =
    if number_in version_field bytes == 0 then Ok o else Err (fault.Version, blank_body o)

abbrev pub op_by_modifiers : List ℕ → Op → Result Op (BadKind × EndBody)
op_by_modifiers bytes o =
    if bit_and (number_in modifiers_field bytes) (allowed_modifiers o)
    == number_in modifiers_field bytes
    then op_by_version bytes o (names_version o)
    else Err (fault.Modifiers, blank_body o)

abbrev pub op_by_name : List ℕ → Option Op → Result Op (BadKind × EndBody)
op_by_name bytes None = Err (fault.Opcode, body.Invalid)
op_by_name bytes (Some o) = op_by_modifiers bytes o

-- the operation, or the invalid field: the opcode is checked first, then the modifiers, then the version
unfoldable pub read_op : List ℕ → Result Op (BadKind × EndBody)
read_op bytes = op_by_name bytes (op_named (number_in code_field bytes) bytes)

abbrev pub with_head : ℕ → ℕ → Result Op (BadKind × EndBody) → Result Command Bad
with_head number drive (Ok o) = Ok (record { reference = number; unit = drive; op = o })
with_head number drive (Err f) =
    Err (record { reference = number; unit = drive; kind = f.0; body = f.1 })

-- the command of a text, or the reason why it is invalid
unfoldable pub read_command : List ℕ → Result Command Bad
read_command bytes =
    with_head (number_in reference_field bytes) (number_in unit_field bytes) (read_op bytes)

-- ---- end messages

abbrev pub end_of : ℕ → ℕ → ℕ → Option EndBody → Option End
end_of number drive outcome None = None
end_of number drive outcome (Some b) =
    Some (record { reference = number; unit = drive; status = outcome; body = b })

-- the end message of a text
unfoldable pub read_end : List ℕ → Option End
read_end bytes =
    end_of (number_in reference_field bytes) (number_in unit_field bytes)
    (number_in status_field bytes) (body_named (number_in code_field bytes) bytes)
