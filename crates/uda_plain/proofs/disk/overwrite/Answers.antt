use Rattle.std.proofs.Common.{◌+◌, ◌-◌, ◌++◌, length, take, drop, ap, ◌∙◌, arith}
use Rattle.uda_plain.proofs.Ranges.{put-range}
use Rattle.uda_plain.proofs.disk.overwrite.Goals as goal

pub returns : goal.returns
returns c =
    let count = c.args.first + length c.args.from.now - c.args.first in
    record {
      blocks = ap (λ ys. take c.args.first c.args.blocks.now
          ++ (ys ++ drop count (drop c.args.first c.args.blocks.now))) c.copy_from_slice.ensures.after
          ∙ put-range c.args.blocks.now c.args.first count c.args.from.now (omega arith) c.requires.inside;
    }
