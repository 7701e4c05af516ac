use Rattle.std.proofs.Common.{◌≡◌, ◌-◌, ◌≤◌, max}
use Rattle.uda50_copy.specs.Copy.{units_in, ChangesNoBlock, EqualIfSound}
use Rattle.uda50_copy.proofs.Gathered.{ToldSoFar}
use Rattle.uda50_copy.proofs.copier.Copier.compare.Given as goal

abbrev pub invariant-loop-done : goal.invariant-loop-done
invariant-loop-done g l = (l.self.skips_lost ≡ l.fn.self.skips_lost)
    × (ChangesNoBlock (units_in l.fn.self) (units_in l.self) × ((l.fn.blocks.start ≤ l.done)
    × ((l.done ≤ max l.fn.blocks.start l.fn.blocks.end)
    × (EqualIfSound l.fn.self.skips_lost l.fn.blocks.start l.done (units_in l.fn.self) (units_in l.self)
    × ToldSoFar l.fn.blocks.start l.done (g.W.Observer.reports l.fn.observer) (g.W.Observer.reports l.observer)))))

abbrev pub decreases-loop-done : goal.decreases-loop-done
decreases-loop-done g l = l.blocks.end - l.done
