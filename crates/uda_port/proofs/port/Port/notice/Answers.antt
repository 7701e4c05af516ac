use Rattle.std.proofs.Common.{sym, ◌∙◌}
use Rattle.uda_port.proofs.PossibleLaws.{notice_text, no_notice}
use Rattle.uda_port.proofs.port.Port.notice.Goals as goal

pub returns-in_err-unit-clause-text : goal.returns-in_err-unit-clause-text
returns-in_err-unit-clause-text g c =
    let due = sym c.first_due.ensures ∙ c.in_ok-drive.was in
    let unit = rw (c.unit_or_absent.ensures.info, c.from-at.ensures) at c.unit.ensures in
    rw (← c.self.view_is, c.in-Compatible.is, c.from_residual-in_err-unit.ensures)
    (sym (no_notice c.in-Compatible.identity c.self.inside.guest c.self.inside.exec.units c.in_ok-drive.drive due
    (sym unit ∙ c.in_err-unit.was)))

pub returns-clause-text : goal.returns-clause-text
returns-clause-text g c =
    let due = sym c.first_due.ensures ∙ c.in_ok-drive.was in
    let unit = rw (c.unit_or_absent.ensures.info, c.from-at.ensures) at c.unit.ensures in
    rw (← c.self.view_is, c.in-Compatible.is, c.encode_unit_available.ensures.written, c.unit_number.ensures.number)
    (sym (notice_text c.in-Compatible.identity c.self.inside.guest c.self.inside.exec.units c.in_ok-drive.drive
    c.in_ok-unit.unit due (sym unit ∙ c.in_ok-unit.was)))
