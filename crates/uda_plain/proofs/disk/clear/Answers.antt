use Rattle.std.proofs.Common.{sym, replicate}
use Rattle.uda_mem.proofs.PutLaws.{put-nil}
use Rattle.uda_plain.proofs.Ranges.{put-next}
use Rattle.uda_plain.proofs.disk.clear.Goals as goal

pub loop-k-init : goal.loop-k-init
loop-k-init c = sym (put-nil c.args.blocks.now c.args.first)

pub loop-k-preserved : goal.loop-k-preserved
loop-k-preserved c =
    put-next c.args.blocks.now c.loop-k.blocks c.overwrite.new.blocks c.args.first c.loop-k.k
    (replicate 512 0) c.loop-k.invariant c.overwrite.ensures.blocks
