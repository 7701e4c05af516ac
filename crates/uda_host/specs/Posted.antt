-- The list of posted commands that a record represents.
use Rattle.std.specs.Prelude.{List, [], ◌∷◌, ◌++◌}
use Rattle.uda_packet.specs.declared.command.Command.{Command}
use Rattle.uda_host.specs.declared.posted.Queue.{Queue, Empty, Then'}

-- in the order in which they were posted
abbrev pub posted_commands : Queue → List Command
posted_commands Empty = []
posted_commands (Then' _ before command) = posted_commands before ++ command ∷ []
