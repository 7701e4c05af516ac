use Rattle.std.proofs.Common.{sym}
use Rattle.uda_bus.proofs.CopyLaws.{put_past, put_mid_clipped}
use Rattle.uda_bus.proofs.copy.copy_in.Goals as goal

pub returns-then-start-memory : goal.returns-then-start-memory
returns-then-start-memory c = record {
  memory = rw c.in-Some.is (put_mid_clipped _ _ _ _ _ c.min-count.ensures c.if-start-memory.true
      c.copy_from_slice.ensures.after);
}

pub returns-else-start-memory : goal.returns-else-start-memory
returns-else-start-memory c = record {
  memory = rw c.in-Some.is (sym (put_past _ _ _ c.if-start-memory.false));
}
