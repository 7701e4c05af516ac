-- The range and the buffer of a transfer. MSCP Basic Disk Functions Manual: transfer commands.
use Rattle.std.specs.Prelude.{Bool, true, false, Option}
use Rattle.uda_packet.specs.declared.command.Op.{Op}
use Rattle.uda_packet.specs.declared.end.Kind.{Kind}
use Rattle.uda_packet.specs.declared.end.Kind.TheVariants as kind
use Rattle.uda_packet.specs.declared.transfer.Transfer.{Transfer}
use Rattle.uda_packet.specs.Commands.{row_of}

-- an operation as a transfer, if it is one: an Access and an Erase have no buffer, so its address is 0
abbrev pub transfer_of : Op → Option Transfer
transfer_of o = (row_of o).transfer

-- an Erase and a Write change blocks
abbrev pub changes_blocks : Kind → Bool
changes_blocks kind.Access = false
changes_blocks kind.Erase = true
changes_blocks kind.Read = false
changes_blocks kind.Write = true

-- a Read and a Write have a buffer in host memory
abbrev pub has_buffer : Kind → Bool
has_buffer kind.Access = false
has_buffer kind.Erase = false
has_buffer kind.Read = true
has_buffer kind.Write = true
