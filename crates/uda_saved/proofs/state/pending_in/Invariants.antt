use Rattle.std.proofs.Common.{◌≡◌, length}
use Rattle.uda_saved.specs.State.{items_in, command_in}
use Rattle.uda_saved.proofs.state.pending_in.Given as goal

-- the items before this index are read
abbrev pub invariant-loop-index : goal.invariant-loop-index
invariant-loop-index l =
    (l.commands.items ≡ items_in 48 command_in l.index 136 l.bytes) × (length l.commands.items ≡ l.index)
