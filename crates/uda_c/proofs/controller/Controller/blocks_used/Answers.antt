use Rattle.std.proofs.Common.{sym, ap, ◌∙◌}
use Rattle.uda_c.specs.ControllerState.{ControllerState}
use Rattle.uda_c.specs.Controllers.{any_called}
use Rattle.uda_c.proofs.CalledUnits.{none_reported}
use Rattle.uda_c.proofs.controller.Controller.blocks_used.Goals as goal

pub returns-else-any_called : goal.returns-else-any_called
returns-else-any_called c = record {
  blocks = none_reported c.args.self.now _ c.keep.ensures.valid.four_units
      (ap (λ (s : ControllerState). any_called s.port.exec.units) (sym c.self.view_is) ∙ sym c.any_called.ensures.called
      ∙ c.if-any_called.false);
}
