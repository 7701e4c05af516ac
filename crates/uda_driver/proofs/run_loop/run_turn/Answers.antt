use Rattle.std.proofs.Common.{refl, rules, subst, length, arith}
use Rattle.uda_host.specs.Host.{TakesEnd, StepEffect, TurnWithoutEnd}
use Rattle.uda_driver.specs.Outstanding.{AreFit}
use Rattle.uda_driver.specs.DriverStep.{NoAnswer, OneAnswer}
use Rattle.uda_driver.proofs.Drivings.{still_fit, end_refers}
use Rattle.uda_driver.proofs.run_loop.run_turn.Goals as goal

pub store_answer-requires : goal.store_answer-requires
store_answer-requires g c =
    let known = c.requires.driving in
    let turn = c.step-end in
    let taken : TakesEnd c.args.host.now c.in-Some.end turn.new.self =
    subst (λ end. StepEffect c.args.host.now end turn.new.self) c.in-Some.is turn.ensures.effect in
    let fit : AreFit (length c.args.answers.now.items) c.args.out.now =
    λ number one stands.
    still_fit (omega (arith, known.room, known.low)) (known.driving.fit number one stands) in
    (search rules, (known.driving.outs.sized, (fit, end_refers known.driving taken)))

pub returns-in-Some-clause-effect : goal.returns-in-Some-clause-effect
returns-in-Some-clause-effect g c =
    let turn = c.step-end in
    let taken : TakesEnd c.args.host.now c.in-Some.end turn.new.self =
    subst (λ end. StepEffect c.args.host.now end turn.new.self) c.in-Some.is turn.ensures.effect in
    OneAnswer c.in-Some.end taken c.store_answer.ensures

pub returns-in_default-clause-effect : goal.returns-in_default-clause-effect
returns-in_default-clause-effect g c =
    let turn = c.step-end in
    let works : TurnWithoutEnd c.args.host.now turn.new.self =
    subst (λ end. StepEffect c.args.host.now end turn.new.self) c.in_default.is turn.ensures.effect in
    NoAnswer works refl refl
