use Rattle.std.proofs.Common.{◌≡◌}
use Rattle.uda50_show.specs.Container.{crc_sum}
use Rattle.uda50_show.proofs.container.crc_sum.Given as goal

abbrev pub invariant-loop-n : goal.invariant-loop-n
invariant-loop-n l = l.sum ≡ crc_sum l.n l.block
