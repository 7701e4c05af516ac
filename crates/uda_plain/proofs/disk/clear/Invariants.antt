use Rattle.std.proofs.Common.{◌≡◌, replicate}
use Rattle.uda_mem.specs.Put.{put}
use Rattle.uda_plain.proofs.disk.clear.Given as goal

abbrev pub invariant-loop-k : goal.invariant-loop-k
invariant-loop-k l = l.blocks ≡ put l.fn.blocks l.first (replicate l.k (replicate 512 0))
