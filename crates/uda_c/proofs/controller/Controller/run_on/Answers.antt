use Rattle.std.proofs.Common.{◌-◌, length, sym, ap, subst, ◌∙◌}
use Rattle.uda_bus.specs.Turns.{IsBegun}
use Rattle.uda_c.specs.declared.call_status.CallStatus.TheVariants.{RanTurn}
use Rattle.uda_c.specs.declared.turn_use.TurnUse.{TurnUse}
use Rattle.uda_c.specs.ControllerState.{ControllerState}
use Rattle.uda_c.specs.RunsToBlocks.{TurnsToBlocks}
use Rattle.uda_c.specs.Steps.{opened}
use Rattle.uda_c.proofs.BusRuns.{run_stops, run_on_over, run_over_bus, stops_at, stopped}
use Rattle.uda_c.proofs.controller.Controller.run_on.Goals as goal

pub returns-then-blocks-ne0 : goal.returns-then-blocks-ne0
returns-then-blocks-ne0 c =
    let bus = c.args.bus.now in
    let asked = c.args.turn.now in
    let loop = c.loop-taken in
    let next = c.begin-next in
    let begun = subst (λ (s : ControllerState). IsBegun bus.map (length loop.window) (s.port, loop.memory) next.result next.new.window)
    c.self.view_is next.ensures.begun in
    let stops = stops_at bus (asked.turns - loop.taken) (length loop.window) loop.self c.stop.new.self loop.memory next.new.window asked
    c.stop.new.turn next.result c.blocks_asked-blocks.result loop.invariant.0 begun c.blocks_asked-blocks.ensures.blocks
    c.if-blocks-ne0.true (c.stop.ensures.opened ∙ ap (opened loop.self) loop.invariant.1) c.stop.ensures.missing c.stop.ensures.few
    (c.stop.ensures.turn
    ∙ ap (λ (t : TurnUse). stopped t (opened loop.self t).count (asked.turns - loop.taken) c.stop.new.turn.missing next.result.place
    c.blocks_asked-blocks.result) loop.invariant.1) in
    record {
      runs = loop.invariant.2 _ (run_stops bus asked.turns loop.taken loop.answer (loop.self, loop.memory) asked
          c.loop-taken-test.true _ stops);
    }

pub returns-then-does_nothing : goal.returns-then-does_nothing
returns-then-does_nothing c =
    let bus = c.args.bus.now in
    let asked = c.args.turn.now in
    let loop = c.loop-taken in
    let ran = c.take_begun-ran in
    record {
      runs =
          subst
          (λ (t : TurnUse). TurnsToBlocks bus asked.turns c.args.before ((c.args.self.now, c.args.memory.now), asked)
          (RanTurn ran.result, record { machine = (ran.new.self, ran.new.memory); window = ran.new.window; turn = t }))
          (sym loop.invariant.1)
          (loop.invariant.2 _ (run_over_bus bus asked.turns loop.taken loop.answer (loop.self, loop.memory) asked
          c.loop-taken-test.true ran.result (ran.new.self, ran.new.memory) ran.ensures.turn ran.new.window
          (sym c.does_nothing.ensures ∙ c.if-does_nothing.true)));
    }

pub loop-taken-preserved : goal.loop-taken-preserved
loop-taken-preserved c =
    let loop = c.loop-taken in
    let ran = c.take_begun-ran in (
      ran.ensures.window ∙ c.begin-next.ensures.length ∙ loop.invariant.0,
      loop.invariant.1,
      λ after rest. loop.invariant.2 after (run_on_over c.args.bus.now c.args.turn.now.turns loop.taken loop.answer
          (loop.self, loop.memory) c.args.turn.now c.loop-taken-test.true ran.result (ran.new.self, ran.new.memory)
          ran.ensures.turn after (sym c.does_nothing.ensures ∙ c.if-does_nothing.false) rest),
    )
