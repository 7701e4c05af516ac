use Rattle.std.proofs.Common.{◌≡◌}
use Rattle.uda50_show.specs.Block.{word_parity}
use Rattle.uda50_show.proofs.checksum.word_parity.Given as goal

abbrev pub invariant-loop-n : goal.invariant-loop-n
invariant-loop-n l = l.parity ≡ word_parity l.fn.offset l.n l.block
