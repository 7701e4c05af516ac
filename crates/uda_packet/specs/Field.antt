-- The offsets of a message's fields, and two views of them: the number in a field, and the bytes of a text
-- with given numbers.
use Rattle.std.specs.Prelude.{ℕ, ◌+◌, ◌-◌, List, [], ◌∷◌, ◌++◌, replicate}
use Rattle.std.specs.List.{splice}
use Rattle.byteorder.specs.Endian.{little_from, little_bytes}

-- a field of a message: the offset of its first byte, and its width in bytes
pub record Field : Type 0 where
  pub offset : ℕ
  pub width : ℕ

abbrev pub field : ℕ → ℕ → Field
field first bytes = record { offset = first; width = bytes }

-- MSCP Basic Disk Functions Manual: command and end message formats. The one table of the fields.
abbrev pub reference_field : Field
reference_field = field 0 4

abbrev pub unit_field : Field
unit_field = field 4 2

-- the opcode of a command, the end code of an end message
abbrev pub code_field : Field
code_field = field 8 1

abbrev pub modifiers_field : Field
modifiers_field = field 10 2

abbrev pub status_field : Field
status_field = field 10 2

abbrev pub byte_count_field : Field
byte_count_field = field 12 4

-- the reference of the command that an Abort or a Get Command Status concerns
abbrev pub named_field : Field
named_field = field 12 4

-- the progress of the command that a Get Command Status concerns
abbrev pub progress_field : Field
progress_field = field 16 4

abbrev pub version_field : Field
version_field = field 12 2

abbrev pub unit_flags_field : Field
unit_flags_field = field 14 2

-- the address of the host's buffer, the first part of the buffer descriptor
abbrev pub address_field : Field
address_field = field 16 4

-- the identifier of the unit or of the controller
abbrev pub identifier_field : Field
identifier_field = field 20 8

abbrev pub lbn_field : Field
lbn_field = field 28 4

abbrev pub media_type_field : Field
media_type_field = field 28 4

abbrev pub unit_size_field : Field
unit_size_field = field 36 4

-- the number in a field, low byte first
abbrev pub number_in : Field → List ℕ → ℕ
number_in f bytes = little_from f.offset f.width bytes

-- a field and the number to write into it
pub record Entry : Type 0 where
  pub place : Field
  pub number : ℕ

infix 90 ◌holds◌
abbrev pub ◌holds◌ : Field → ℕ → Entry
f holds n = record { place = f; number = n }

-- the bytes of a text from byte `start` to its end: the entries are at their offsets, in rising order, and
-- every byte between them is 0
abbrev pub text_from : ℕ → List Entry → List ℕ
text_from start [] = replicate (48 - start) 0
text_from start (e ∷ rest) =
    replicate (e.place.offset - start) 0
    ++ (little_bytes e.place.width e.number ++ text_from (e.place.offset + e.place.width) rest)

-- the text of 48 bytes that has these entries and is 0 elsewhere
abbrev pub text_of : List Entry → List ℕ
text_of entries = text_from 0 entries

-- a text after a write of a number into a field
abbrev pub with_number : Field → ℕ → List ℕ → List ℕ
with_number f n bytes = splice bytes f.offset (f.offset + f.width) (little_bytes f.width n)

-- a text after writes of the entries, one after another
abbrev pub with_entries : List Entry → List ℕ → List ℕ
with_entries [] bytes = bytes
with_entries (e ∷ rest) bytes = with_entries rest (with_number e.place e.number bytes)
