use Rattle.std.proofs.Common.{◌∙◌, arith}
use Rattle.uda_bus.proofs.StoredLaws.{stored_more}
use Rattle.uda_bus.proofs.map.BusMap.write.Goals as goal

pub loop-done-preserved : goal.loop-done-preserved
loop-done-preserved c =
    let piece = c.piece-piece.ensures in
    record {
      within = omega arith;
      stored = stored_more _ _ _ _ _ _ _ _ (omega arith)
          (rw c.from.ensures at piece.page, rw c.from.ensures at piece.start)
          piece.apart c.copy_in.ensures.memory ∙ c.loop-done.invariant.stored;
    }
