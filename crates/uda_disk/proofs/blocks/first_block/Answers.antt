use Rattle.uda_disk.proofs.Filling.{front_filled}
use Rattle.uda_disk.proofs.blocks.first_block.Goals as goal

pub returns : goal.returns
returns c = record {
  block = front_filled c.args.bytes.now c.copy_from_slice.new.self c.min-count.result
      c.min-count.ensures c.copy_from_slice.ensures.after;
}
