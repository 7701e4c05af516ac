-- Encoding of texts.
use Rattle.std.specs.Prelude.{ℕ, List, ◌∷◌}
use Rattle.uda_packet.specs.declared.command.Command.{Command}
use Rattle.uda_packet.specs.declared.end.End.{End}
use Rattle.uda_packet.specs.Field.{◌holds◌, text_of, reference_field, unit_field, code_field, status_field}
use Rattle.uda_packet.specs.Commands.{answer_entries}
use Rattle.uda_packet.specs.Opcode.{opcode_of, end_code, parameters}

-- the text of a command
unfoldable pub written_command : Command → List ℕ
written_command c =
    text_of (
    reference_field holds c.reference ∷ unit_field holds c.unit ∷ code_field holds (opcode_of c.op)
    ∷ parameters c.op)

-- the text of an end message
unfoldable pub written_end : End → List ℕ
written_end e =
    text_of (
    reference_field holds e.reference ∷ unit_field holds e.unit ∷ code_field holds (end_code e.body)
    ∷ status_field holds e.status ∷ answer_entries e.unit e.status e.body)
