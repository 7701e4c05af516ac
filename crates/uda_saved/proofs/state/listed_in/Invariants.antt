use Rattle.std.proofs.Common.{◌≡◌, length}
use Rattle.uda_saved.specs.State.{items_in, op_of_byte}
use Rattle.uda_saved.proofs.state.listed_in.Given as goal

-- the items before this index are read
abbrev pub invariant-loop-index : goal.invariant-loop-index
invariant-loop-index l =
    (l.ops.items ≡ items_in 1 op_of_byte l.index 120 l.bytes) × (length l.ops.items ≡ l.index)
