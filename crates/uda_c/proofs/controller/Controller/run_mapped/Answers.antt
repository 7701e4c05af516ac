use Rattle.std.proofs.Common.{inl, subst, sym, ◌∙◌}
use Rattle.std.proofs.lemmas.Bool.{true≢false}
use Rattle.uda_c.specs.declared.call_status.CallStatus.TheVariants.{Done}
use Rattle.uda_c.specs.ControllerState.{ControllerState}
use Rattle.uda_c.specs.Maps.{TakesTurnsThroughMap}
use Rattle.uda_c.proofs.controller.Controller.run_mapped.Goals as goal

pub returns-in-Ok : goal.returns-in-Ok
returns-in-Ok c =
    let bus = c.in-Ok.field-0.bus in
    let memory = c.args.memory.now in
    let ran = c.run_through-answer in
    let from_old = subst
    (λ (s : ControllerState). TakesTurnsThroughMap bus c.args.limit Done (s, memory)
    (ran.result, (ran.new.self, ran.new.memory))) c.ready.ensures.same ran.ensures.runs in
    let runs = subst
    (λ (s : ControllerState). TakesTurnsThroughMap bus c.args.limit Done (c.args.self.now, memory)
    (ran.result, (s, ran.new.memory))) (sym c.self.view_is) from_old in
    record {
      runs = record {
        refuses = λ called. absurd (true≢false (sym called ∙ c.in-Ok.ensures.uncalled));
        does = λ _. record {
          does = λ done. inl (bus, c.in-Ok.ensures.ok.0, runs);
          refuses = λ other. absurd (other c.in-Ok.ensures.ok.2);
        };
      };
    }
