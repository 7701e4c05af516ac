use Rattle.std.proofs.Common.{◌≡◌, ◌+◌, ◌*◌, ◌++◌, length, take, map, All}
use Rattle.std.specs.List.{concat}
use Rattle.uda_saved.specs.State.{IsReadBack, op_of_byte, op_bytes}
use Rattle.uda_saved.proofs.state.put_ops.Given as goal

-- the items before this one are written, and are read back
abbrev pub invariant-loop-op : goal.invariant-loop-op
invariant-loop-op l =
    (l.bytes.items ≡ l.initial.bytes.items ++ concat (map op_bytes (take l.op-index l.ops)))
    × (length l.bytes.items ≡ length l.initial.bytes.items + 1 * l.op-index)
    × All (IsReadBack 1 op_of_byte op_bytes) (take l.op-index l.ops)
