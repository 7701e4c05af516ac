use Rattle.std.proofs.Common.{◌≡◌, ◌≤◌, max}
use Rattle.uda50_copy.specs.Copy.{units_in, ChangesNoBlock, EqualIfSound}
use Rattle.uda50_copy.proofs.copier.Copier.compare_singly.Given as goal

abbrev pub invariant-loop-lbn : goal.invariant-loop-lbn
invariant-loop-lbn g l =
    ((goal.iterator-loop-lbn g).can_next l.lbn-iterator × (goal.iterator-loop-lbn g).is_finite l.lbn-iterator)
    × ((l.self.skips_lost ≡ l.fn.self.skips_lost) × (ChangesNoBlock (units_in l.fn.self) (units_in l.self)
    × ((l.fn.blocks.start ≤ l.lbn-iterator.start) × ((l.lbn-iterator.start ≤ max l.fn.blocks.start l.fn.blocks.end)
    × ((l.lbn-iterator.end ≡ l.fn.blocks.end) × EqualIfSound l.fn.self.skips_lost l.fn.blocks.start l.lbn-iterator.start
    (units_in l.fn.self) (units_in l.self))))))
