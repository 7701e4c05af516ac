use Rattle.std.proofs.Common.{◌≡◌, drop}
use Rattle.uda_port.specs.Possible.{are_basic}
use Rattle.uda_port.proofs.possible.are_basic.Given as goal

abbrev pub invariant-loop-reply : goal.invariant-loop-reply
invariant-loop-reply l = are_basic (drop l.reply-index l.replies) ≡ are_basic l.replies
