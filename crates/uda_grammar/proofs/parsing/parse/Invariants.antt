use Rattle.std.specs.Option.{option_copied}
use Rattle.uda_grammar.proofs.Scripts.{left_of, HasRead}
use Rattle.uda_grammar.proofs.parsing.parse.Given as goal

abbrev pub invariant-loop-rest : goal.invariant-loop-rest
invariant-loop-rest l = HasRead l.fn.text l.number l.lines.items (option_copied l.rest)

abbrev pub decreases-loop-rest : goal.decreases-loop-rest
decreases-loop-rest l = left_of (option_copied l.rest)
