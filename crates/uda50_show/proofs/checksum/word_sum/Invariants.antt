use Rattle.std.proofs.Common.{◌≡◌}
use Rattle.uda50_show.specs.Block.{word_sum}
use Rattle.uda50_show.proofs.checksum.word_sum.Given as goal

abbrev pub invariant-loop-n : goal.invariant-loop-n
invariant-loop-n l = l.sum ≡ word_sum l.n l.block
