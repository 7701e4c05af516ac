use Rattle.std.proofs.Common.{arith}
use Rattle.uda50_files.proofs.ZeroLaws.{zeros_of, part_more}
use Rattle.uda50_files.proofs.sparse.are_zeros.Goals as goal

pub loop-at-preserved : goal.loop-at-preserved
loop-at-preserved c = record {
  within = omega (arith, c.min-end.ensures);
  zeros = part_more c.args.bytes.now c.loop-at.at c.min-end.result c.largest.result c.loop-at.invariant.zeros
      (omega (arith, c.min-end.ensures, c.saturating_add.ensures, c.loop-at-test.true, c.loop-at.auto.at-fits))
      c.largest.ensures.largest c.if-largest-gt0.false (omega (arith, c.min-end.ensures));
}

pub returns : goal.returns
returns c = record { zeros = λ _. zeros_of c.args.bytes.now c.loop-at.at c.loop-at.invariant.zeros (omega (arith, c.loop-at-test.false)) }
