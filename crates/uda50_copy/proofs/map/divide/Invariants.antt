use Rattle.std.proofs.Common.{◌≡◌, ◌++◌}
use Rattle.uda50_copy.proofs.map.divide.Given as goal

abbrev pub invariant-loop-last : goal.invariant-loop-last
invariant-loop-last l = l.before.items ++ l.after.items ≡ l.fn.before.items ++ l.fn.after.items

abbrev pub decreases-loop-last : goal.decreases-loop-last
decreases-loop-last l = l.before.len

abbrev pub invariant-loop-next : goal.invariant-loop-next
invariant-loop-next l = l.before.items ++ l.after.items ≡ l.fn.before.items ++ l.fn.after.items

abbrev pub decreases-loop-next : goal.decreases-loop-next
decreases-loop-next l = l.after.len
