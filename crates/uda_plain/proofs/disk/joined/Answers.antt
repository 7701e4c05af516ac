use Rattle.std.proofs.Common.{[]}
use Rattle.uda_plain.proofs.Ranges.{concat-next}
use Rattle.uda_plain.proofs.disk.joined.Goals as goal

pub loop-block-preserved : goal.loop-block-preserved
loop-block-preserved c =
    concat-next c.args.blocks.now c.loop-block.block-index [] c.loop-block.bytes.items
    c.extend_from_slice.new.self.items
    c.loop-block-test.true c.loop-block.invariant c.in_ok-extend_from_slice.ensures.items
