use Rattle.std.proofs.Common.{List, ℕ, inl, ap, refl, subst, sym, ◌∙◌}
use Rattle.std.proofs.lemmas.Bool.{true≢false}
use Rattle.uda_bus.specs.Turns.{WritesSaThroughMap}
use Rattle.uda_port.specs.Port.{PortState}
use Rattle.uda_c.specs.ControllerState.{ControllerState}
use Rattle.uda_c.proofs.FaithfulUnits.{word_at_faithful}
use Rattle.uda_c.proofs.FittingUnits.{word_at_fits}
use Rattle.uda_c.proofs.controller.Controller.write_sa_mapped.Goals as goal

pub invariant_of-self : goal.invariant_of-self
invariant_of-self c =
    let goes = c.write_sa.ensures.effect in (
      word_at_faithful goes.missing _ c.args.word _ goes.effect c.self.invariant.0,
      word_at_fits goes.missing _ c.args.word _ goes.effect c.self.invariant.1,
    )

pub returns-in-Ok : goal.returns-in-Ok
returns-in-Ok c =
    let bus = c.in-Ok.field-0.bus in
    let memory = c.args.memory.now in
    let after : PortState × List ℕ = (c.write_sa.new.port, c.write_sa.new.memory) in
    let ok = c.in-Ok.ensures.ok in
    let is = c.self.view_is ∙ c.ready.ensures.same in
    let sized = subst
    (λ (n : ℕ). WritesSaThroughMap bus.map n (c.self.inside.port, memory) c.args.word after)
    ok.1 c.write_sa.ensures.effect in
    let steps = subst
    (λ (s : ControllerState). WritesSaThroughMap bus.map bus.size (s.port, memory) c.args.word after) is sized in
    record {
      effect = record {
        refuses = λ called. absurd (true≢false (sym called ∙ c.in-Ok.ensures.uncalled));
        does = λ _. record {
          does = λ done. inl (
            bus,
            ok.0,
            record {
              answer_is = refl;
              steps = steps;
              rest_stays = ap (λ (s : ControllerState). record s { port = c.write_sa.new.port }) is;
            },
          );
          refuses = λ other. absurd (other ok.2);
        };
      };
    }
