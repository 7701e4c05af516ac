use Rattle.std.proofs.Common.{arith}
use Rattle.uda_bus.proofs.ShownLaws.{shown_more, both_lead}
use Rattle.uda_bus.proofs.map.BusMap.read.Goals as goal

pub loop-done-preserved : goal.loop-done-preserved
loop-done-preserved c =
    let piece = c.piece-piece.ensures in
    record {
      within = omega arith;
      shown = shown_more _ _ _ _ _ _ _ _ (omega arith)
          (rw c.from.ensures at piece.page, rw c.from.ensures at piece.start)
          c.loop-done.invariant.shown c.copy_out-whole.ensures.bytes;
      whole = both_lead _ _ _ _ _ _ _ _ _ piece.some (omega arith)
          (rw c.from.ensures at piece.page, rw c.from.ensures at piece.start)
          c.loop-done.invariant.whole c.copy_out-whole.ensures.whole;
    }
