-- The record of a turn for C, and its line as a string of C.
use Rattle.std.specs.Prelude.{◌≡◌, ℕ, List, [], ◌∷◌, ◌++◌, length, take, drop, Option, Some, None}
use Rattle.uda_packet.specs.declared.guest_command.GuestCommand.{GuestCommand}
use Rattle.uda_packet.specs.declared.end.EndBody.TheVariants.{Moved}
use Rattle.uda_packet.specs.declared.transfer.Transfer.{Transfer}
use Rattle.uda_packet.specs.declared.reply.Reply.{Reply}
use Rattle.uda_packet.specs.declared.reply.ReplyBody.{ReplyBody}
use Rattle.uda_packet.specs.declared.reply.ReplyBody.TheVariants.{Basic, Compare}
use Rattle.uda_packet.specs.GuestCommands.{opcode_meant}
use Rattle.uda_packet.specs.Reply.{reply_code}
use Rattle.uda_packet.specs.Transfer.{transfer_of}
use Rattle.uda_port.specs.declared.trace.Trace.{Trace}
use Rattle.uda_port.specs.declared.trace.Trace.TheVariants.{Fetched, InvalidCommand, Answered, Aborted, Executed}
use Rattle.uda_port.specs.declared.trace.Trace.TheVariants.{Delivered, Notified, Idle, Dead}
use Rattle.uda_port.specs.Startup.{code_of}
use Rattle.uda_port.specs.Trace.{trace_display}
use Rattle.uda_c.specs.declared.last.TurnRecord.{TurnRecord}
use Rattle.uda_c.specs.declared.call_status.CallStatus.{CallStatus}
use Rattle.uda_c.specs.declared.call_status.CallStatus.TheVariants.{Done, NoMemory}

-- the number of bytes of the struct
abbrev pub TURN_RECORD_SIZE : ℕ
TURN_RECORD_SIZE = 32

-- a turn without a command: its number, and the code of the fatal error
abbrev pub told_number : ℕ → ℕ → TurnRecord
told_number kind code =
    record {
      size = TURN_RECORD_SIZE;
      kind = kind;
      reference = 0;
      lbn = 0;
      bytes = 0;
      unit = 0;
      code = code;
      status = 0;
    }

-- the first block of a transfer, and its bytes
abbrev pub told_lbn : Option Transfer → ℕ
told_lbn (Some t) = t.lbn
told_lbn None = 0

abbrev pub told_count : Option Transfer → ℕ
told_count (Some t) = t.bytes
told_count None = 0

-- a fetched command
abbrev pub told_command : GuestCommand → TurnRecord
told_command g = record {
  size = TURN_RECORD_SIZE;
  kind = 1;
  reference = g.command.reference;
  lbn = told_lbn (transfer_of g.command.op);
  bytes = told_count (transfer_of g.command.op);
  unit = g.command.unit;
  code = opcode_meant g.op g.command.op;
  status = 0;
}

-- the byte count that an end message reports
abbrev pub told_bytes : ReplyBody → ℕ
told_bytes (Basic (Moved kind bytes)) = bytes
told_bytes (Compare bytes) = bytes
told_bytes _ = 0

-- a turn with an end message
abbrev pub told_end : ℕ → Reply → TurnRecord
told_end kind e = record {
  size = TURN_RECORD_SIZE;
  kind = kind;
  reference = e.reference;
  lbn = 0;
  bytes = told_bytes e.body;
  unit = e.unit;
  code = reply_code e.body;
  status = e.status;
}

-- The record of a turn, by its kind. Kinds 0 to 5 are the statuses of a turn. Kind 6 is an invalid command,
-- and 7 no turn yet. Kind 8 is a command that was ended at once, and 9 an Abort that removed a pending command.
abbrev pub turn_record : Option Trace → TurnRecord
turn_record (Some Idle) = told_number 0 0
turn_record (Some (Fetched command)) = told_command command
turn_record (Some (Executed end)) = told_end 2 end
turn_record (Some (Delivered end)) = told_end 3 end
turn_record (Some (Dead cause)) = told_number 5 (code_of cause)
turn_record (Some (InvalidCommand end)) = told_end 6 end
turn_record (Some (Answered end)) = told_end 8 end
turn_record (Some (Aborted end)) = told_end 9 end
turn_record (Some Notified) = told_number 4 0
turn_record None = told_number 7 0

-- its line, which is empty if there was no turn yet
abbrev pub last_line : Option Trace → List ℕ
last_line (Some trace) = trace_display trace
last_line None = []

-- A string in a buffer of C: as much of it as fits, followed by a 0. The rest of the buffer is unchanged.
abbrev pub text_in : List ℕ → List ℕ → List ℕ
text_in text [] = []
text_in text (b ∷ rest) = take (length rest) text ++ 0 ∷ drop (length (take (length rest) text)) rest

-- the line is in the buffer; or its allocation failed, and the buffer is unchanged
abbrev pub TellsLine : Option Trace → List ℕ → CallStatus → List ℕ → Type 0
TellsLine last buffer Done after = after ≡ text_in (last_line last) buffer
TellsLine last buffer NoMemory after = after ≡ buffer
TellsLine last buffer _ after = ⊥
