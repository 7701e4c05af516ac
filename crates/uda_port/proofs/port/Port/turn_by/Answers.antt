use Rattle.std.proofs.Common.{rules, refl}
use Rattle.uda_port.proofs.TraceLaws.{reports_from}
use Rattle.uda_port.proofs.PlanLaws.{execution}
use Rattle.uda_port.proofs.PortSteps.{stops_polling}
use Rattle.uda_port.proofs.port.Port.turn_by.Goals as goal

pub turn_without_buffer-requires : goal.turn_without_buffer-requires
turn_without_buffer-requires g c =
    let is = execution c.args.self.now c.args.memory.now (c.requires.buffer c.in-WithoutBuffer.is) in
    (search rules, (is.runs, c.requires.place is.pending))

pub returns-in-FailsLater-clause-reports : goal.returns-in-FailsLater-clause-reports
returns-in-FailsLater-clause-reports g c =
    rw (← c.self.view_is) (reports_from _ _ _ _ _ refl refl c.fail_turn-in-FailsLater.ensures.reports)

pub invariant_of-self : goal.invariant_of-self
invariant_of-self g c = stops_polling c.self.inside c.self.invariant
