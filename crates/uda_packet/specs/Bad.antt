-- Invalid commands. MSCP Basic Disk Functions Manual: invalid command end message.
use Rattle.std.specs.Prelude.{ℕ, List}
use Rattle.uda_packet.specs.declared.bad.Bad.{Bad}
use Rattle.uda_packet.specs.declared.bad.BadKind.{BadKind}
use Rattle.uda_packet.specs.declared.bad.BadKind.TheVariants as fault
use Rattle.uda_packet.specs.declared.end.End.{End}
use Rattle.uda_packet.specs.declared.end.EndBody.TheVariants as body
use Rattle.uda_packet.specs.Field.{number_in, reference_field, unit_field}
use Rattle.uda_disk.specs.Status.{INVALID_LENGTH, INVALID_OPCODE, INVALID_MODIFIERS, INVALID_VERSION}

-- the invalid fields, numbered in the order of the checks
abbrev pub fault_number : BadKind → ℕ
fault_number fault.Opcode = 1
fault_number fault.Modifiers = 2
fault_number fault.Version = 3

abbrev pub fault_status : BadKind → ℕ
fault_status fault.Opcode = INVALID_OPCODE
fault_status fault.Modifiers = INVALID_MODIFIERS
fault_status fault.Version = INVALID_VERSION

-- the end message of an invalid command: its reference, unit and body, and the status of the invalid field
abbrev pub bad_end : Bad → End
bad_end b = record {
  reference = b.reference;
  unit = b.unit;
  status = fault_status b.kind;
  body = b.body;
}

-- the end message of a packet whose length is not that of a command: the reference and unit in its text,
-- and no other of its fields
abbrev pub invalid_length_end : List ℕ → End
invalid_length_end bytes = record {
  reference = number_in reference_field bytes;
  unit = number_in unit_field bytes;
  status = INVALID_LENGTH;
  body = body.Invalid;
}
