use Rattle.std.proofs.Common.{◌≡◌, ◌+◌, ◌*◌, ◌++◌, length, take, map, All}
use Rattle.std.specs.List.{concat}
use Rattle.uda_packet.specs.Written.{written_command}
use Rattle.uda_saved.specs.State.{IsReadBack, command_in}
use Rattle.uda_saved.proofs.state.put_commands.Given as goal

-- the items before this one are written, and are read back
abbrev pub invariant-loop-command : goal.invariant-loop-command
invariant-loop-command l =
    (l.bytes.items ≡ l.initial.bytes.items ++ concat (map written_command (take l.command-index l.commands)))
    × (length l.bytes.items ≡ length l.initial.bytes.items + 48 * l.command-index)
    × All (IsReadBack 48 command_in written_command) (take l.command-index l.commands)
