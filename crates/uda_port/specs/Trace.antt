-- Trace records of turns, and their lines.
-- UDA50 Programmer's Documentation Kit: command ring polling, message envelopes, fatal errors.
use Rattle.std.specs.Prelude.{◌≡◌, ℕ, Bool, true, false, List, [], ◌∷◌, ◌++◌, codes, length}
use Rattle.std.specs.Fmt.{decimal}
use Rattle.uda_disk.specs.Display.{word_digits}
use Rattle.uda_packet.specs.declared.end.EndBody.TheVariants.{Moved}
use Rattle.uda_packet.specs.declared.reply.Reply.{Reply}
use Rattle.uda_packet.specs.declared.reply.ReplyBody.{ReplyBody}
use Rattle.uda_packet.specs.declared.reply.ReplyBody.TheVariants.{Basic, Compare}
use Rattle.uda_packet.specs.declared.guest_command.GuestCommand.{GuestCommand}
use Rattle.uda_packet.specs.GuestCommands.{guest_command_display}
use Rattle.uda_exec.specs.GuestOps.{op_at}
use Rattle.uda_packet.specs.Reply.{reply_name}
use Rattle.uda_port.specs.declared.phase.Phase.TheVariants.{Dead as DeadPhase}
use Rattle.uda_port.specs.declared.turn.Turn.{Turn}
use Rattle.uda_port.specs.declared.turn.Turn.TheVariants as turn
use Rattle.uda_port.specs.declared.trace.Trace.{Trace}
use Rattle.uda_port.specs.declared.trace.Trace.TheVariants.{Fetched, InvalidCommand, Answered, Aborted, Executed}
use Rattle.uda_port.specs.declared.trace.Trace.TheVariants.{Delivered, Notified, Idle, Dead}
use Rattle.uda_port.specs.Port.{PortState}
use Rattle.uda_port.specs.Startup.{code_of}

-- the turn of a record
abbrev pub turn_of : Trace → Turn
turn_of (Fetched command) = turn.Fetched
turn_of (InvalidCommand end) = turn.Fetched
turn_of (Answered end) = turn.Fetched
turn_of (Aborted end) = turn.Fetched
turn_of (Executed end) = turn.Executed
turn_of (Delivered end) = turn.Delivered
turn_of Notified = turn.Notified
turn_of Idle = turn.Idle
turn_of (Dead cause) = turn.Dead

-- a fetched command is the last pending one, with its additional operation
pub record IsPending (g : GuestCommand) (old new : PortState) : Type 0 where
  pub command : new.exec.pending ≡ old.exec.pending ++ g.command ∷ []
  pub op : op_at new.exec.guest_ops (length old.exec.pending) ≡ g.op

-- an end message that the strict profile knows: of the fetched packets, that of an invalid command
abbrev pub IsBasic : ReplyBody → Type 0
IsBasic (Basic body) = Unit
IsBasic _ = ⊥

-- the end message of a command that is ended at once
abbrev pub IsAtOnce : ReplyBody → Type 0
IsAtOnce (Basic body) = ⊥
IsAtOnce _ = Unit

-- The record matches what happened:
-- - A fetched command is the last pending one.
-- - The end message of an invalid command, of a command that is ended at once, or of an executed one is
--   the last in the queue.
-- - The end message of an Abort follows that of the command that it removed.
-- - A delivered end message was the first in the queue.
-- - An attention message that was delivered leaves the queue unchanged.
-- - A dead port is dead of this cause.
abbrev pub Traces : Trace → PortState → PortState → Type 0
Traces (Fetched command) old new = IsPending command old new
Traces (InvalidCommand end) old new = IsBasic end.body × (new.waiting ≡ old.waiting ++ end ∷ [])
Traces (Answered end) old new = IsAtOnce end.body × (new.waiting ≡ old.waiting ++ end ∷ [])
Traces (Aborted end) old new = (taken : Reply) × (new.waiting ≡ old.waiting ++ taken ∷ end ∷ [])
Traces (Executed end) old new = new.waiting ≡ old.waiting ++ end ∷ []
Traces (Delivered end) old new = old.waiting ≡ end ∷ new.waiting
Traces Notified old new = new.waiting ≡ old.waiting
Traces Idle old new = Unit
Traces (Dead cause) old new = new.phase ≡ DeadPhase cause

-- the record is of this turn, and matches what happened
pub record Reports (taken : Turn) (trace : Trace) (old new : PortState) : Type 0 where
  pub turn_is : turn_of trace ≡ taken
  pub accurate : Traces trace old new

-- the same if the turn was taken
abbrev pub ReportsIf : Bool → Turn → Trace → PortState × PortState → Type 0
ReportsIf true taken trace ports = Reports taken trace ports.0 ports.1
ReportsIf false taken trace ports = Unit

-- the end messages that a command ended at once adds to the queued ones
abbrev pub TracesAnswer : Trace → List Reply → List Reply → Type 0
TracesAnswer (InvalidCommand end) old new = IsBasic end.body × (new ≡ old ++ end ∷ [])
TracesAnswer (Answered end) old new = IsAtOnce end.body × (new ≡ old ++ end ∷ [])
TracesAnswer (Aborted end) old new = (taken : Reply) × (new ≡ old ++ taken ∷ end ∷ [])
TracesAnswer _ old new = ⊥

-- the byte count that a transfer reports
abbrev pub bytes_display : ReplyBody → List ℕ
bytes_display (Basic (Moved kind bytes)) = codes " bytes " ++ decimal bytes
bytes_display (Compare bytes) = codes " bytes " ++ decimal bytes
bytes_display _ = []

-- an end message: its reference, the name of its command, its unit, its status, and a transfer's bytes
abbrev pub end_line : Reply → List ℕ
end_line e =
    decimal e.reference ++ codes " " ++ reply_name e.body ++ codes " unit " ++ decimal e.unit
    ++ codes " status 0x" ++ word_digits e.status ++ bytes_display e.body

abbrev pub trace_display : Trace → List ℕ
trace_display (Fetched command) = codes "fetched " ++ guest_command_display command
trace_display (InvalidCommand end) = codes "refused " ++ end_line end
trace_display (Answered end) = codes "answered " ++ end_line end
trace_display (Aborted end) = codes "aborted " ++ end_line end
trace_display (Executed end) = codes "executed " ++ end_line end
trace_display (Delivered end) = codes "delivered " ++ end_line end
trace_display Notified = codes "notified"
trace_display Idle = codes "idle"
trace_display (Dead cause) = codes "dead of code " ++ decimal (code_of cause)
