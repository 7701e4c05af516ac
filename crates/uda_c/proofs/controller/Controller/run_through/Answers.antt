use Rattle.std.proofs.Common.{sym, ◌∙◌}
use Rattle.uda_c.proofs.RunLaws.{run_on_through, run_over_through}
use Rattle.uda_c.proofs.controller.Controller.run_through.Goals as goal

pub returns-then-does_nothing : goal.returns-then-does_nothing
returns-then-does_nothing c = record {
  runs = c.loop.invariant.1 _ (run_over_through c.args.bus.now c.args.limit c.loop.counter c.loop.answer
      (c.loop.self, c.loop.memory) c.take_turn_mapped-turn.result
      (c.take_turn_mapped-turn.new.self, c.take_turn_mapped-turn.new.memory) c.loop-test.true
      c.take_turn_mapped-turn.ensures.turn (sym c.does_nothing.ensures ∙ c.if-does_nothing.true));
}

pub loop-preserved : goal.loop-preserved
loop-preserved c = (
  c.take_turn_mapped-turn.ensures.window ∙ c.loop.invariant.0,
  λ after rest. c.loop.invariant.1 after (run_on_through c.args.bus.now c.args.limit c.loop.counter c.loop.answer
      (c.loop.self, c.loop.memory) c.take_turn_mapped-turn.result
      (c.take_turn_mapped-turn.new.self, c.take_turn_mapped-turn.new.memory) c.loop-test.true
      c.take_turn_mapped-turn.ensures.turn after (sym c.does_nothing.ensures ∙ c.if-does_nothing.false) rest),
)
