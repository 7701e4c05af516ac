-- Functions of a command's row.
use Rattle.std.specs.Prelude.{ℕ, ◌+◌, ◌==◌, List, [], ◌∷◌, Bool, Option, Some, None}
use Rattle.std.specs.Prelude.{if◌then◌else◌}
use Rattle.uda_packet.specs.declared.command.Op.{Op}
use Rattle.uda_packet.specs.declared.end.EndBody.{EndBody}
use Rattle.uda_packet.specs.Field.{Entry}
use Rattle.uda_packet.specs.Commands.{row_of, body_row, ops_in, bodies_in}

-- the body of a command's end message before anything is known of its result: that of its opcode, with all
-- numbers 0
abbrev pub blank_body : Op → EndBody
blank_body o = (row_of o).blank

abbrev pub allowed_modifiers : Op → ℕ
allowed_modifiers o = (row_of o).allowed

abbrev pub parameters : Op → List Entry
parameters o = (row_of o).parameters

-- the opcode of the command of a body, or 0 for an invalid command
abbrev pub answered_opcode : EndBody → ℕ
answered_opcode b = (body_row b).opcode

abbrev pub opcode_of : Op → ℕ
opcode_of o = answered_opcode (blank_body o)

-- an end code is the opcode with bit 7 set
abbrev pub end_code : EndBody → ℕ
end_code b = answered_opcode b + 0x80

-- the length in bytes that the manual gives an end message with this body
abbrev pub end_length : EndBody → ℕ
end_length b = (body_row b).length

-- whether a command has a field for the version of MSCP
abbrev pub names_version : Op → Bool
names_version o = (row_of o).versioned

abbrev op_with : ℕ → List Op → Option Op
op_with code [] = None
op_with code (o ∷ rest) = if code == opcode_of o then Some o else op_with code rest

-- the operation of an opcode, with the parameters in the text
abbrev pub op_named : ℕ → List ℕ → Option Op
op_named code bytes = op_with code (ops_in bytes)

abbrev body_with : ℕ → List EndBody → Option EndBody
body_with code [] = None
body_with code (b ∷ rest) = if code == end_code b then Some b else body_with code rest

-- the body of an end code, with the numbers in the text
abbrev pub body_named : ℕ → List ℕ → Option EndBody
body_named code bytes = body_with code (bodies_in bytes)
