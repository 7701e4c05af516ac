use Rattle.std.proofs.Common.{◌≡◌, ◌-◌, ◌≤◌, false}
use Rattle.uda50_copy.specs.Copy.{units_in}
use Rattle.uda50_copy.specs.Changes.{ChangesWithin}
use Rattle.uda50_copy.specs.Reports.{stage_of, LosesFailed}
use Rattle.uda50_copy.specs.Range.{CopiesAllUnfinished, states_of}
use Rattle.uda50_copy.proofs.range.copy_unfinished.Given as goal

abbrev pub invariant-loop-next : goal.invariant-loop-next
invariant-loop-next g l = record {
  begun : l.fn.blocks.start ≤ l.at;
  within : l.at ≤ l.fn.blocks.end;
  noted : l.fn.notes.broken ≡ false → l.notes.broken ≡ false;
  changes : ChangesWithin l.fn.blocks.start l.at (units_in l.fn.copier) (units_in l.copier);
  copies : l.fn.notes.broken ≡ false
      → CopiesAllUnfinished l.fn.blocks.start l.at (states_of l.fn.copier l.copier l.fn.notes l.notes)
      (g.Z.ZeroBlocks.zeros l.zeros);
  loses : LosesFailed (stage_of l.fn.copier l.fn.notes.reports) (stage_of l.copier l.notes.reports);
}

abbrev pub decreases-loop-next : goal.decreases-loop-next
decreases-loop-next g l = l.fn.blocks.end - l.at
