-- The translation of a request into a command, and of its end message into an answer. MSCP Basic Disk
-- Functions Manual: the commands.
use Rattle.std.specs.Prelude.{◌≡◌, ℕ, ◌+◌, ◌%◌, ◌≤◌, false, List, [], length, take, map, Some}
use Rattle.uda_mem.specs.Put.{part}
use Rattle.uda_packet.specs.declared.command.Command.{Command}
use Rattle.uda_packet.specs.declared.command.Op.{Op}
use Rattle.uda_packet.specs.declared.command.Op.TheVariants as op
use Rattle.uda_packet.specs.declared.end.End.{End}
use Rattle.uda_packet.specs.declared.end.EndBody.{EndBody}
use Rattle.uda_packet.specs.declared.end.EndBody.TheVariants as body
use Rattle.uda_disk.specs.Request.{Act, Online, Available, Status, Read, Access, Write, Erase, Request}
use Rattle.uda_disk.specs.Answer as tell
use Rattle.uda_disk.specs.Answer.{Answer}
use Rattle.uda_disk.specs.InOrderRun.{too_long}
use Rattle.uda_exec.specs.Commands.{buffer_start, buffer_length, act_of}
use Rattle.uda_exec.specs.Execution.{bytes_of}

-- the operation for an act, with its buffer at this address
abbrev pub op_of : Act → ℕ → Op
op_of (Online protect) address = op.Online (Some protect)
op_of Available address = op.Available
op_of Status address = op.Status
op_of (Read lbn bytes) address = op.Read bytes address lbn
op_of (Access lbn bytes) address = op.Access bytes lbn
op_of (Write lbn payload) address = op.Write (length payload) address lbn
op_of (Erase lbn bytes) address = op.Erase bytes lbn

abbrev pub command_of : Request → ℕ → ℕ → Command
command_of r reference address = record { reference = reference; unit = r.unit; op = op_of r.act address }

-- the flags and the size in a body, 0 if it has none
abbrev pub flags_of_body : EndBody → ℕ
flags_of_body (body.Status flags) = flags
flags_of_body (body.Online flags size) = flags
flags_of_body _ = 0

abbrev pub size_of_body : EndBody → ℕ
size_of_body (body.Online flags size) = size
size_of_body _ = 0

-- the answer of an act, by the end message of its command and the bytes that its buffer then holds
abbrev pub answer_of : Act → End → List ℕ → Answer
answer_of (Online protect) e buffer = tell.Online e.status (flags_of_body e.body) (size_of_body e.body)
answer_of Available e buffer = tell.Plain e.status
answer_of Status e buffer = tell.Status e.status (flags_of_body e.body)
answer_of (Read lbn bytes) e buffer = tell.Data e.status (take (bytes_of e.body) buffer)
answer_of _ e buffer = tell.Moved e.status (bytes_of e.body)

-- the bytes that an act puts in its buffer
abbrev pub write_payload : Act → List ℕ
write_payload (Write lbn payload) = payload
write_payload _ = []

-- a posted request: its index in the list, from 0, and the address of its buffer
pub record Posted : Type 0 where
  pub place : ℕ
  pub address : ℕ
  pub request : Request

-- its command, whose reference is the index plus 1
abbrev pub posted_command : Posted → Command
posted_command p = command_of p.request (p.place + 1) p.address

abbrev pub commands_in : List Posted → List Command
commands_in out = map posted_command out

-- the bytes of its buffer
abbrev pub buffer_of : Posted → List ℕ → List ℕ
buffer_of p memory = part memory (buffer_start (posted_command p).op) (buffer_length (posted_command p).op)

-- the command of a request is ready: it requests the same act, and its buffer lies in memory at an even
-- address
pub record Ready (p : Posted) (memory : List ℕ) : Type 0 where
  pub short : too_long p.request ≡ false
  pub even : buffer_start (posted_command p).op % 2 ≡ 0
  pub within : buffer_start (posted_command p).op + buffer_length (posted_command p).op ≤ length memory
  pub asks : act_of (posted_command p).op memory ≡ Some p.request.act
