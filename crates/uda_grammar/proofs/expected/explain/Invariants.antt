use Rattle.std.proofs.Common.{◌+◌, ◌≤◌, length}
use Rattle.std.specs.Option.{option_copied}
use Rattle.uda_grammar.proofs.Scripts.{left_of}
use Rattle.uda_grammar.proofs.expected.explain.Given as goal

-- what is left of the line, with the words before it
abbrev pub invariant-loop-rest : goal.invariant-loop-rest
invariant-loop-rest l = (1 ≤ l.words) × (l.words + left_of (option_copied l.rest) ≤ length l.line + 2)

abbrev pub decreases-loop-rest : goal.decreases-loop-rest
decreases-loop-rest l = left_of (option_copied l.rest)
