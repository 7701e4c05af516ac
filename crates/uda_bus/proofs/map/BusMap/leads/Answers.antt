use Rattle.std.proofs.Common.{arith}
use Rattle.uda_bus.proofs.ShownLaws.{leads_more, leads_not}
use Rattle.uda_bus.proofs.map.BusMap.leads.Goals as goal

pub returns-then-bytes_there-piece : goal.returns-then-bytes_there-piece
returns-then-bytes_there-piece c =
    let piece = c.piece-piece.ensures in
    record {
      all = (
        λ no. absurd (cc),
        λ all. absurd (leads_not _ _ _ _ _ _ _ piece.some (omega arith)
            (rw c.from.ensures at piece.page, rw c.from.ensures at piece.start)
            (rw c.bytes_there.ensures.bytes at c.if-bytes_there-piece.true) all),
      );
    }

pub loop-done-preserved : goal.loop-done-preserved
loop-done-preserved c =
    let piece = c.piece-piece.ensures in
    record {
      within = omega arith;
      all = (leads_more _ _ _ _ _ _ piece.some
          (rw c.from.ensures at piece.page, rw c.from.ensures at piece.start)).1
          (c.loop-done.invariant.all, rw c.bytes_there.ensures.bytes at c.if-bytes_there-piece.false);
    }
