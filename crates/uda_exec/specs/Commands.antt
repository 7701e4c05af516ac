-- The range and the buffer of a command, and its request.
-- MSCP Basic Disk Functions Manual: transfer commands.
use Rattle.std.specs.Prelude.{ℕ, ◌-◌, Bool, true, false, List, ◌++◌, length, replicate, Option, Some, None}
use Rattle.std.specs.Prelude.{option_map, unwrap_or, is_some, if◌then◌else◌}
use Rattle.std.specs.Option.{option_map_or}
use Rattle.uda_packet.specs.declared.command.Command.{Command}
use Rattle.uda_packet.specs.declared.command.Op.{Op}
use Rattle.uda_packet.specs.declared.command.Op.TheVariants as op
use Rattle.uda_packet.specs.declared.end.Kind.{Kind}
use Rattle.uda_packet.specs.declared.end.Kind.TheVariants.{Access, Erase, Read, Write}
use Rattle.uda_packet.specs.declared.transfer.Transfer.{Transfer}
use Rattle.uda_packet.specs.Transfer.{transfer_of, has_buffer}
use Rattle.uda_mem.specs.Put.{part}
use Rattle.uda_disk.specs.Request as ask
use Rattle.uda_disk.specs.Request.{Act, Request, blocks_for}

-- the number of blocks of a transfer's range, and the length of its buffer in bytes
abbrev pub block_count : Transfer → ℕ
block_count t = blocks_for t.bytes

abbrev pub transfer_buffer_length : Transfer → ℕ
transfer_buffer_length t = if has_buffer t.kind then t.bytes else 0

-- only a Read changes memory
abbrev pub changes_memory : Kind → Bool
changes_memory Read = true
changes_memory _ = false

-- Set Controller Characteristics concerns no unit
abbrev pub is_controller : Op → Bool
is_controller op.Controller = true
is_controller _ = false

-- the same of any command: an operation that isn't a transfer has no range and no buffer
abbrev pub is_transfer : Op → Bool
is_transfer o = is_some (transfer_of o)

abbrev pub bytes_asked : Op → ℕ
bytes_asked o = option_map_or (λ t. t.bytes) (transfer_of o) 0

abbrev pub blocks_asked : Op → ℕ
blocks_asked o = option_map_or block_count (transfer_of o) 0

abbrev pub buffer_start : Op → ℕ
buffer_start o = option_map_or (λ t. t.buffer) (transfer_of o) 0

abbrev pub buffer_length : Op → ℕ
buffer_length o = option_map_or transfer_buffer_length (transfer_of o) 0

-- the number of bytes of its buffer that a command may change
abbrev pub memory_write_length : Op → ℕ
memory_write_length o = option_map_or (λ t. if changes_memory t.kind then t.bytes else 0) (transfer_of o) 0

-- the number of bytes of its buffer that it reads: a Read reads none
abbrev pub memory_read_length : Op → ℕ
memory_read_length o =
    option_map_or (λ t. if changes_memory t.kind then 0 else transfer_buffer_length t) (transfer_of o) 0

-- ---- the request of a command

-- the bytes of a buffer, with zeros past the end of memory
abbrev pub bytes_at : List ℕ → ℕ → ℕ → List ℕ
bytes_at memory at n = part memory at n ++ replicate (n - length (part memory at n)) 0

abbrev pub asks_by : Kind → Transfer → List ℕ → Act
asks_by Access t memory = ask.Access t.lbn t.bytes
asks_by Erase t memory = ask.Erase t.lbn t.bytes
asks_by Read t memory = ask.Read t.lbn t.bytes
asks_by Write t memory = ask.Write t.lbn (bytes_at memory t.buffer t.bytes)

-- the action of a command that moves no blocks; Set Controller Characteristics has none
abbrev pub still_act : Op → Option Act
still_act op.Controller = None
still_act op.Status = Some ask.Status
still_act op.Available = Some ask.Available
still_act (op.Online soft) = Some (ask.Online (unwrap_or soft false))
still_act (op.Access bytes lbn) = None
still_act (op.Erase bytes lbn) = None
still_act (op.Read bytes address lbn) = None
still_act (op.Write bytes address lbn) = None

abbrev pub act_by : Option Transfer → Op → List ℕ → Option Act
act_by None o memory = still_act o
act_by (Some t) o memory = Some (asks_by t.kind t memory)

-- the action of a command; that of a Write contains the bytes of its buffer
abbrev pub act_of : Op → List ℕ → Option Act
act_of o memory = act_by (transfer_of o) o memory

abbrev pub request_asked : Command → List ℕ → Option Request
request_asked c memory = option_map (λ act. record { unit = c.unit; act = act }) (act_of c.op memory)
