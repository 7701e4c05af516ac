use Rattle.std.proofs.Common.{◌≡◌, ◌-◌, max, ◌≤◌}
use Rattle.uda50_copy.specs.Copy.{units_in, CopiesIfSound}
use Rattle.uda50_copy.specs.Reports.{stage_of, LosesFailed}
use Rattle.uda50_copy.proofs.Gathered.{CopiedSoFar}
use Rattle.uda50_copy.proofs.copier.Copier.copy.Given as goal

abbrev pub invariant-loop-done : goal.invariant-loop-done
invariant-loop-done g l = (l.fn.blocks.start ≤ l.done) × ((l.done ≤ max l.fn.blocks.start l.fn.blocks.end)
    × ((l.self.skips_lost ≡ l.fn.self.skips_lost)
    × (CopiesIfSound l.fn.self.skips_lost l.fn.blocks.start l.done (units_in l.fn.self) (units_in l.self)
    × (CopiedSoFar l.fn.self.skips_lost l.fn.blocks.start l.done
    (stage_of l.fn.self (g.W.Observer.reports l.fn.observer)) (stage_of l.self (g.W.Observer.reports l.observer))
    × LosesFailed (stage_of l.fn.self (g.W.Observer.reports l.fn.observer))
    (stage_of l.self (g.W.Observer.reports l.observer))))))

abbrev pub decreases-loop-done : goal.decreases-loop-done
decreases-loop-done g l = l.blocks.end - l.done
