use Rattle.std.proofs.Common.{◌≡◌, length}
use Rattle.uda_saved.specs.State.{items_in, reply_in}
use Rattle.uda_saved.proofs.state.queued_in.Given as goal

-- the items before this index are read
abbrev pub invariant-loop-index : goal.invariant-loop-index
invariant-loop-index l =
    (l.replies.items ≡ items_in 48 reply_in l.index 856 l.bytes) × (length l.replies.items ≡ l.index)
