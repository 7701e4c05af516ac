-- End messages of the compatible profile: those of the strict profile, and those of commands that it doesn't
-- know. A body of the second kind has a line in `reply_row`, `reply_entries`, `replies_in` and `ReplyFits`.
-- MSCP Basic Disk Functions Manual: end messages; Abort, Get Command Status, Determine Access Paths, Compare
-- Controller Data, Flush, Set Unit Characteristics, Compare Host Data.
use Rattle.std.specs.Prelude.{ℕ, ◌+◌, ◌^◌, ◌<◌, ◌==◌, List, [], ◌∷◌, Option, Some, None, codes}
use Rattle.std.specs.Prelude.{if◌then◌else◌}
use Rattle.uda_packet.specs.declared.end.End.{End}
use Rattle.uda_packet.specs.declared.end.EndBody.{EndBody}
use Rattle.uda_packet.specs.declared.end.EndBody.TheVariants.{Invalid}
use Rattle.uda_packet.specs.declared.reply.Reply.{Reply}
use Rattle.uda_packet.specs.declared.reply.ReplyBody.{ReplyBody}
use Rattle.uda_packet.specs.declared.reply.ReplyBody.TheVariants.{Basic, Abort, CommandStatus, AccessPaths}
use Rattle.uda_packet.specs.declared.reply.ReplyBody.TheVariants.{CompareController, Flush, SetUnit, Compare}
use Rattle.uda_packet.specs.Field.{Entry, ◌holds◌, text_of, number_in, reference_field, unit_field, code_field}
use Rattle.uda_packet.specs.Field.{status_field, named_field, progress_field, byte_count_field}
use Rattle.uda_packet.specs.Field.{unit_flags_field, unit_size_field}
use Rattle.uda_packet.specs.Commands.{BodyRow, body_line, body_row, answer_entries, BodyFits}
use Rattle.uda_packet.specs.Opcode.{body_named}

-- an end message of the strict profile
abbrev pub basic_reply : End → Reply
basic_reply e = record {
  reference = e.reference;
  unit = e.unit;
  status = e.status;
  body = Basic e.body;
}

abbrev pub basic_body : ReplyBody → EndBody
basic_body (Basic b) = b
basic_body (Abort named) = Invalid
basic_body (CommandStatus named progress) = Invalid
basic_body AccessPaths = Invalid
basic_body CompareController = Invalid
basic_body Flush = Invalid
basic_body (SetUnit flags size) = Invalid
basic_body (Compare bytes) = Invalid

-- the end message that a strict port sends: it has only those of the strict profile
abbrev pub strict_end : Reply → End
strict_end r = record {
  reference = r.reference;
  unit = r.unit;
  status = r.status;
  body = basic_body r.body;
}

-- ---- the facts in which bodies differ

abbrev pub reply_row : ReplyBody → BodyRow
reply_row (Basic b) = body_row b
reply_row (Abort named) = body_line 1 16 (codes "Abort") []
reply_row (CommandStatus named progress) = body_line 2 20 (codes "Get Command Status") []
reply_row AccessPaths = body_line 11 12 (codes "Determine Access Paths") []
reply_row CompareController = body_line 17 12 (codes "Compare Controller Data") []
reply_row Flush = body_line 19 12 (codes "Flush") []
reply_row (SetUnit flags size) = body_line 10 44 (codes "Set Unit Characteristics") []
reply_row (Compare bytes) = body_line 32 32 (codes "Compare Host Data") []

abbrev pub reply_code : ReplyBody → ℕ
reply_code b = (reply_row b).opcode + 0x80

-- the length in bytes that the manual gives such an end message
abbrev pub reply_length : ReplyBody → ℕ
reply_length b = (reply_row b).length

abbrev pub reply_name : ReplyBody → List ℕ
reply_name b = (reply_row b).name

-- the numbers of a body are in the ranges of their types
abbrev pub ReplyFits : ReplyBody → Type 0
ReplyFits (Basic b) = BodyFits b
ReplyFits (Abort named) = named < 2 ^ 32
ReplyFits (CommandStatus named progress) = (named < 2 ^ 32) × (progress < 2 ^ 32)
ReplyFits AccessPaths = Unit {0}
ReplyFits CompareController = Unit {0}
ReplyFits Flush = Unit {0}
ReplyFits (SetUnit flags size) = (flags < 2 ^ 16) × (size < 2 ^ 32)
ReplyFits (Compare bytes) = bytes < 2 ^ 32

-- ---- encoding

-- the fields after the status of an end message of this unit and status
abbrev pub reply_entries : ℕ → ℕ → ReplyBody → List Entry
reply_entries unit status (Basic b) = answer_entries unit status b
reply_entries unit status (Abort named) = named_field holds named ∷ []
reply_entries unit status (CommandStatus named progress) =
    named_field holds named ∷ progress_field holds progress ∷ []
reply_entries unit status AccessPaths = []
reply_entries unit status CompareController = []
reply_entries unit status Flush = []
reply_entries unit status (SetUnit flags size) =
    unit_flags_field holds flags ∷ unit_size_field holds size ∷ []
reply_entries unit status (Compare bytes) = byte_count_field holds bytes ∷ []

-- the text of an end message
unfoldable pub written_reply : Reply → List ℕ
written_reply r =
    text_of (
    reference_field holds r.reference ∷ unit_field holds r.unit ∷ code_field holds (reply_code r.body)
    ∷ status_field holds r.status ∷ reply_entries r.unit r.status r.body)

-- ---- decoding

-- each body that the strict profile doesn't know, with the numbers that a text holds for it
abbrev pub replies_in : List ℕ → List ReplyBody
replies_in bytes =
    let named = number_in named_field bytes in
    Abort named ∷ CommandStatus named (number_in progress_field bytes)
    ∷ AccessPaths ∷ CompareController ∷ Flush
    ∷ SetUnit (number_in unit_flags_field bytes) (number_in unit_size_field bytes)
    ∷ Compare (number_in byte_count_field bytes) ∷ []

abbrev reply_with : ℕ → List ReplyBody → Option ReplyBody
reply_with code [] = None
reply_with code (b ∷ rest) = if code == reply_code b then Some b else reply_with code rest

abbrev basic_or : Option EndBody → Option ReplyBody → Option ReplyBody
basic_or None other = other
basic_or (Some b) other = Some (Basic b)

-- the body of an end code, with the numbers of the text
abbrev pub reply_named : ℕ → List ℕ → Option ReplyBody
reply_named code bytes = basic_or (body_named code bytes) (reply_with code (replies_in bytes))

abbrev pub reply_from : ℕ → ℕ → ℕ → Option ReplyBody → Option Reply
reply_from number drive outcome None = None
reply_from number drive outcome (Some b) =
    Some (record { reference = number; unit = drive; status = outcome; body = b })

-- the end message of a text: the grammar of `read_end`, and seven bodies more
unfoldable pub read_reply : List ℕ → Option Reply
read_reply bytes =
    reply_from (number_in reference_field bytes) (number_in unit_field bytes)
    (number_in status_field bytes) (reply_named (number_in code_field bytes) bytes)
