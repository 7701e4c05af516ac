use Rattle.std.proofs.Common.{refl}
use Rattle.uda_port.proofs.port.Port.report.Goals as goal

pub returns : goal.returns
returns g c = record {
  report = rw (← c.self.view_is, c.unit.ensures, c.unit_or_absent.ensures.info, c.from-unit.ensures) refl;
}
