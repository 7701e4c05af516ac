use Rattle.std.proofs.Common.{◌≡◌, Some, sym, subst}
use Rattle.uda_bus.specs.Turns.{IsBegun}
use Rattle.uda_port.specs.BlockUse.{blocks_of}
use Rattle.uda_c.specs.declared.call_status.CallStatus.TheVariants.{RanTurn}
use Rattle.uda_c.specs.contracts.controller.Controller.{the_view}
use Rattle.uda_c.specs.BlockRange.{range_reported}
use Rattle.uda_c.specs.ControllerState.{ControllerState}
use Rattle.uda_c.specs.RunsToBlocks.{TakesUnblockedTurn}
use Rattle.uda_c.proofs.FaithfulUnits.{effect_faithful}
use Rattle.uda_c.proofs.FittingUnits.{effect_fits}
use Rattle.uda_c.proofs.MapTurns.{unblocked}
use Rattle.uda_c.proofs.controller.Controller.take_begun.Goals as goal

pub invariant_of-self : goal.invariant_of-self
invariant_of-self c =
    let old = c.self.inside.port in
    let goes = c.end.ensures.effect.0 in (
      effect_faithful goes.missing goes.place (old, _) c.end.result (c.end.new.port, goes.bus_after) goes.effect
          c.self.invariant.0,
      effect_fits goes.missing goes.place (old, _) c.end.result (c.end.new.port, goes.bus_after) goes.effect
          c.self.invariant.1,
    )

pub returns-clause-turn : goal.returns-clause-turn
returns-clause-turn c =
    let was : ControllerState = the_view c.self.inside in
    let bus = c.args.bus.now in
    let next = c.args.next.now in
    let memory = c.args.memory.now in
    let window = c.args.window.now in
    let begun = subst (λ (s : ControllerState). IsBegun bus.map bus.size (s.port, memory) next window)
    (sym c.self.view_is) c.requires.begun in
    let none = subst
    (λ (s : ControllerState). (range_reported s (blocks_of next.missing s.port window next.place)).count ≡ 0)
    (sym c.self.view_is) c.requires.none in
    subst
    (λ (s : ControllerState). TakesUnblockedTurn bus (s, memory) (RanTurn c.end.result) (
      the_view (record c.self.inside { port = c.end.new.port; last = Some c.end.new.trace }),
      c.end.new.memory,
    )) c.self.view_is
    (unblocked bus was memory window next c.end.result c.end.new.trace c.end.new.port c.end.new.memory begun none
    c.requires.window c.end.ensures.effect c.end.ensures.used_blocks c.end.ensures.turn c.end.ensures.accurate)
