use Rattle.std.proofs.Common.{◌≡◌, ◌≤◌, ◌++◌, take, drop, length, ◌-◌}
use Rattle.uda50_show.specs.Container.{before_zero}
use Rattle.uda50_show.proofs.container.before_zero.Given as goal

abbrev pub invariant-loop-end : goal.invariant-loop-end
invariant-loop-end l =
    (l.end ≤ length l.text) × (before_zero l.text ≡ take l.end l.text ++ before_zero (drop l.end l.text))

abbrev pub decreases-loop-end : goal.decreases-loop-end
decreases-loop-end l = length l.text - l.end
