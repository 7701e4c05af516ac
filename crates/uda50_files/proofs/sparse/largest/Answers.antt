use Rattle.std.proofs.Common.{arith}
use Rattle.std.proofs.lemmas.Grind.{common_steps}
use Rattle.uda50_files.proofs.ZeroLaws.{most_more}
use Rattle.uda50_files.proofs.sparse.largest.Goals as goal

pub loop-byte-preserved : goal.loop-byte-preserved
loop-byte-preserved c =
    most_more c.args.bytes.now c.loop-byte.byte-index c.loop-byte.largest c.max-largest.result c.loop-byte.invariant
    (grind (arith, common_steps)) (grind (arith, common_steps))
