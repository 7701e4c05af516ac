use Rattle.std.proofs.Common.{◌≡◌}
use Rattle.std.specs.Slice.Iter.{chunks_rest, chunks_size}
use Rattle.uda50_copy.specs.Copy.{units_in, ChangesNoBlock}
use Rattle.uda50_copy.proofs.Pairs.{ComparedIfSound}
use Rattle.uda50_copy.proofs.copier.Copier.compare_run.Given as goal

abbrev pub invariant-loop-pair : goal.invariant-loop-pair
invariant-loop-pair g l = (l.self.skips_lost ≡ l.fn.self.skips_lost)
    × (ChangesNoBlock (units_in l.fn.self) (units_in l.self) × ((chunks_size l.pair-iterator ≡ 2)
    × ComparedIfSound l.fn.self.skips_lost (record {
      rest = chunks_rest l.pair-iterator;
      from = l.fn.blocks.start;
      at = l.lbn;
      to = l.fn.blocks.end;
    }) (units_in l.fn.self) (units_in l.self)))
