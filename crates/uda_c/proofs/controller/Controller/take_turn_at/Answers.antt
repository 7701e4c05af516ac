use Rattle.std.proofs.Common.{sym, subst, Some}
use Rattle.uda_c.specs.declared.call_status.CallStatus.TheVariants.{RanTurn}
use Rattle.uda_c.specs.contracts.controller.Controller.{the_view}
use Rattle.uda_c.specs.ControllerState.{ControllerState}
use Rattle.uda_c.specs.TurnUse.{IsPlaceOf, TakesTurnAt}
use Rattle.uda_c.proofs.FaithfulUnits.{effect_faithful}
use Rattle.uda_c.proofs.FittingUnits.{effect_fits}
use Rattle.uda_c.proofs.MapTurns.{takes_at}
use Rattle.uda_c.proofs.controller.Controller.take_turn_at.Goals as goal

pub invariant_of-self : goal.invariant_of-self
invariant_of-self c =
    let old = c.self.inside.port in
    let taken = c.turn_at-taken in (
      effect_faithful c.missing-missing.result _ (old, c.args.memory.now) taken.result.turn
          (taken.new.self, taken.new.memory) taken.ensures.effect_over_bus c.self.invariant.0,
      effect_fits c.missing-missing.result _ (old, c.args.memory.now) taken.result.turn
          (taken.new.self, taken.new.memory) taken.ensures.effect_over_bus c.self.invariant.1,
    )

pub returns : goal.returns
returns c =
    let was : ControllerState = the_view c.self.inside in
    let asked = c.args.turn.now in
    let memory = c.args.memory.now in
    let taken = c.turn_at-taken in
    let asks = subst (λ (s : ControllerState). IsPlaceOf s asked c.place_of-place.result) (sym c.self.view_is)
    (record { is_place = c.place_of-place.ensures.place; asked_is = c.place_of-place.ensures.asked }) in
    subst
    (λ (s : ControllerState). TakesTurnAt (s, memory) asked (RanTurn taken.result.turn)
    (record asked { written = taken.result.written }) (
      the_view (record c.self.inside { port = taken.new.self; last = Some taken.new.trace }),
      taken.new.memory,
    )) c.self.view_is
    (takes_at _ memory asked c.missing-missing.result c.place_of-place.result taken.result taken.new.trace
    taken.new.self taken.new.memory c.missing-missing.ensures asks taken.ensures.effect_over_bus taken.ensures.local
    taken.ensures.within taken.ensures.written taken.ensures.used_blocks taken.ensures.turn taken.ensures.accurate)
