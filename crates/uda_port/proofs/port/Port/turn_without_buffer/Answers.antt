use Rattle.std.proofs.Common.{List, ℕ, [], arith, refl, subst}
use Rattle.uda_port.specs.Port.{PortState}
use Rattle.uda_port.specs.Turn.{ExecutesOne, TurnEffect, port_not_polling, port_turn_on}
use Rattle.std.proofs.lemmas.List.{nil_from_length}
use Rattle.uda_port.proofs.MemoryUseLaws.{executes_pending}
use Rattle.uda_port.proofs.PortSteps.{stops_polling}
use Rattle.uda_port.proofs.TraceLaws.{reports_from}
use Rattle.uda_port.proofs.port.Port.turn_without_buffer.Goals as goal

pub invariant_of-self : goal.invariant_of-self
invariant_of-self g c = stops_polling c.self.inside c.self.invariant

pub returns-clause-executes : goal.returns-clause-executes
returns-clause-executes g c =
    let old = c.args.self.now in
    let new = c.take_turn.new.self in
    let after = c.take_turn.new.memory in
    let goes = subst
    (λ (p : PortState). TurnEffect p.phase (port_not_polling p) [] c.take_turn.result new after) c.self.view_is
    c.take_turn.ensures.effect in
    let stands = c.requires.eligible.stands in
    let ran = executes_pending old [] new after (omega (arith, stands)) c.take_turn.result c.requires.running goes in
    let chosen = subst
    (λ (p : PortState). ExecutesOne c.args.place (port_not_polling (port_turn_on (port_not_polling p))) [] new after)
    c.self.view_is (c.take_turn.ensures.chosen c.args.place refl ran) in
    record {
      answer = ran;
      executes =
          subst (λ (m : List ℕ). ExecutesOne c.args.place (port_not_polling (port_turn_on old)) [] new m)
          (nil_from_length after c.take_turn.auto.memory) chosen;
    }

pub returns-clause-reports : goal.returns-clause-reports
returns-clause-reports g c =
    rw (← c.self.view_is) (reports_from _ _ _ _ _ refl refl c.take_turn.ensures.reports)
