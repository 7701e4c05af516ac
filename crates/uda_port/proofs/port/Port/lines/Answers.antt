use Rattle.std.proofs.Common.{refl, ap, ◌∙◌}
use Rattle.std.proofs.lemmas.Result.{IfOk-weaker}
use Rattle.uda_port.specs.Turn.{port_not_polling}
use Rattle.uda_port.proofs.TraceLaws.{reports_from}
use Rattle.uda_port.proofs.TurnLaws.{goes_on}
use Rattle.uda_port.proofs.PortSteps.{stops_polling}
use Rattle.uda_port.proofs.port.Port.lines.Goals as goal

pub invariant_of-self : goal.invariant_of-self
invariant_of-self g c = stops_polling c.self.inside c.self.invariant

pub returns-in-Ok-false-clause-effect : goal.returns-in-Ok-false-clause-effect
returns-in-Ok-false-clause-effect g c =
    let kept = rw c.in-Ok-false.field-0-test at c.in-Ok-false.ensures.effect in
    let were = ap port_not_polling (c.self.view_is ∙ kept.1.state) in
    goes_on _ _ _ _ _ (record {
      nothing_to_fetch = kept.0;
      rest = rw (were, kept.1.memory_stays) at c.rest.ensures.effect;
    })

pub returns-in-Ok-false-clause-reports : goal.returns-in-Ok-false-clause-reports
returns-in-Ok-false-clause-reports g c =
    let kept = rw c.in-Ok-false.field-0-test at c.in-Ok-false.ensures.effect in
    let were = ap port_not_polling (c.self.view_is ∙ kept.1.state) in
    let reports = rw were at c.rest.ensures.reports in
    IfOk-weaker c.rest.result _ _
    (λ taken it. reports_from c.args.self.now (port_not_polling c.args.self.now) _ taken _ refl refl it) reports
