use Rattle.std.proofs.Common.{◌≡◌, take}
use Rattle.std.specs.List.{concat}
use Rattle.uda_plain.proofs.disk.joined.Given as goal

abbrev pub invariant-loop-block : goal.invariant-loop-block
invariant-loop-block l = l.bytes.items ≡ concat (take l.block-index l.fn.blocks)
