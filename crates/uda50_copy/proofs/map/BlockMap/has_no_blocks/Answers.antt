use Rattle.std.proofs.Common.{leb-true}
use Rattle.uda50_copy.proofs.Spans.{no_blocks}
use Rattle.uda50_copy.proofs.map.BlockMap.has_no_blocks.Goals as goal

pub returns : goal.returns
returns c = record {
  none = λ is. no_blocks c.args.self.now c.start.ensures.consecutive
      (rw (← c.end.ensures.value, ← c.start.ensures.value) (leb-true _ _ is));
}
