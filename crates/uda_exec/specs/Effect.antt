-- The effect of a command on memory and on the units, and its end message. Both follow from the command's
-- request.
-- MSCP Basic Disk Functions Manual: the commands, status and event codes.
use Rattle.std.specs.Prelude.{◌≡◌, ℕ, Bool, true, false, List, length, Option, Some, None, slice_get}
use Rattle.uda_mem.specs.Put.{put}
use Rattle.uda_packet.specs.declared.command.Command.{Command}
use Rattle.uda_packet.specs.declared.command.Op.{Op}
use Rattle.uda_packet.specs.declared.end.End.{End}
use Rattle.uda_packet.specs.declared.end.EndBody.{EndBody}
use Rattle.uda_packet.specs.declared.end.EndBody.TheVariants as body
use Rattle.uda_packet.specs.Opcode.{blank_body}
use Rattle.uda_disk.specs.Status.{SUCCESS}
use Rattle.uda_disk.specs.Disk.{Disk, Disks}
use Rattle.uda_disk.specs.Request.{Act}
use Rattle.uda_disk.specs.Answer.{Answer, TooLong, Plain, Online, Status, Moved, Data, status_of}
use Rattle.uda_disk.specs.RequestEffect.{CheckResult, Rejected, Accepted, check_at, TransferOutcome, is_lost, IsWithinRange, bytes_on, answer_by}
use Rattle.uda_disk.specs.RequestEffect.{disks_by, is_accepted}
use Rattle.uda_exec.specs.Commands.{act_of, buffer_start, buffer_length}
use Rattle.uda_exec.specs.BufferChecks.{is_odd, is_missing, check_with}

-- host memory, and the units
pub record World : Type 0 where
  pub memory : List ℕ
  pub disks : Disks

-- ---- the end message

-- a body with this byte count, if it has one
abbrev pub with_bytes_moved : EndBody → ℕ → EndBody
with_bytes_moved (body.Moved kind old) bytes = body.Moved kind bytes
with_bytes_moved body bytes = body

-- the body of an opcode's end message with this byte count, if it has one, and all other numbers 0
abbrev pub plain_body : Op → ℕ → EndBody
plain_body op bytes = with_bytes_moved (blank_body op) bytes

abbrev pub reply : Command → ℕ → EndBody → End
reply c status body = record { reference = c.reference; unit = c.unit; status = status; body = body }

-- the numbers of an answer, in the body of the command's opcode
abbrev pub body_for : Op → Answer → EndBody
body_for op (Online status flags size) = body.Online flags size
body_for op (Status status flags) = body.Status flags
body_for op (Moved status bytes) = plain_body op bytes
body_for op (Data status bytes) = plain_body op (length bytes)
body_for op (Plain status) = blank_body op
body_for op TooLong = blank_body op

abbrev pub end_for : Command → Answer → End
end_for c answer = reply c (status_of answer) (body_for c.op answer)

-- ---- the effect

-- the result of a command's checks, by the state of its unit
abbrev pub check_in : Op → Act → ℕ → Option (Option Disk) → CheckResult
check_in op act memory slot =
    check_with (is_odd (buffer_start op)) (is_missing (buffer_start op) (buffer_length op) memory) (check_at act slot)

abbrev pub check_of : Command → Act → World → CheckResult
check_of c act w = check_in c.op act (length w.memory) (slice_get w.disks c.unit)

-- memory afterwards: a Read's bytes are in its buffer
abbrev pub memory_by : TransferOutcome → Op → Act → CheckResult → List ℕ → List ℕ
memory_by outcome op act (Rejected refusal) memory = memory
memory_by outcome op act (Accepted disk) memory = put memory (buffer_start op) (bytes_on outcome act disk)

abbrev pub does : TransferOutcome → Command → Act → CheckResult → World → End × World
does outcome c act b w = (
  end_for c (answer_by outcome act b),
  record {
    memory = memory_by outcome c.op act b w.memory;
    disks = disks_by outcome (record { unit = c.unit; act = act }) b w.disks;
  },
)

-- the effect of a command with a fixed outcome: its end message, and memory and units afterwards
abbrev pub effect_by : TransferOutcome → Command → Option Act → World → End × World
effect_by outcome c None w = (reply c SUCCESS (blank_body c.op), w)
effect_by outcome c (Some act) w = does outcome c act (check_of c act w) w

abbrev pub effect : TransferOutcome → Command → World → End × World
effect outcome c w = effect_by outcome c (act_of c.op w.memory) w

-- ---- possible outcomes

-- a command is accepted: it has an action on a unit, and no check fails
abbrev pub passes_checks_by : Command → Option Act → World → Bool
passes_checks_by c None w = false
passes_checks_by c (Some act) w = is_accepted (check_of c act w)

abbrev pub passes_checks : Command → World → Bool
passes_checks c w = passes_checks_by c (act_of c.op w.memory) w

-- only an accepted command fails, at a block of its range
pub record FailureFits (outcome : TransferOutcome) (blocks : ℕ) (passes_checks : Bool) : Type 0 where
  pub acting : is_lost outcome ≡ true → passes_checks ≡ true
  pub count : IsWithinRange blocks outcome
