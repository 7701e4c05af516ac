use Rattle.std.proofs.Common.{sym, ◌∙◌}
use Rattle.uda_c.proofs.RunLaws.{run_on, run_over}
use Rattle.uda_c.proofs.controller.Controller.run_in.Goals as goal

pub returns-then-does_nothing : goal.returns-then-does_nothing
returns-then-does_nothing c =
    c.loop.invariant _ _ (run_over c.args.limit c.loop.counter c.loop.answer
    (c.loop.self, c.loop.memory) c.take_turn-turn.result
    (c.take_turn-turn.new.self, c.take_turn-turn.new.memory) c.loop-test.true
    (sym c.does_nothing.ensures ∙ c.if-does_nothing.true) c.take_turn-turn.ensures)

pub loop-preserved : goal.loop-preserved
loop-preserved c answer new rest =
    c.loop.invariant answer new (run_on c.args.limit c.loop.counter c.loop.answer
    (c.loop.self, c.loop.memory) c.take_turn-turn.result
    (c.take_turn-turn.new.self, c.take_turn-turn.new.memory) answer new c.loop-test.true
    (sym c.does_nothing.ensures ∙ c.if-does_nothing.false) c.take_turn-turn.ensures rest)
