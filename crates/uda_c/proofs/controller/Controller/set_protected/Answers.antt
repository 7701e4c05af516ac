use Rattle.std.proofs.Common.{◌≡◌, refl, sym, ap, subst, ◌∙◌}
use Rattle.std.specs.Prelude.{◌||◌}
use Rattle.std.proofs.lemmas.Bool.{le-ltb}
use Rattle.uda_port.specs.Port.{read_only_at}
use Rattle.uda_exec.specs.Drives.{drive_state}
use Rattle.uda_c.specs.declared.call_status.CallStatus.TheVariants.{Done}
use Rattle.uda_c.specs.contracts.controller.Controller.{the_view}
use Rattle.uda_c.specs.ControllerState.{ControllerState}
use Rattle.uda_c.specs.Controllers.{SetsProtection, port_protected}
use Rattle.uda_c.specs.UnitImage.{unit_state}
use Rattle.uda_c.proofs.FailingUnits.{protection_changes, protects, is_handed}
use Rattle.uda_c.proofs.FaithfulUnits.{protected_faithful}
use Rattle.uda_c.proofs.FittingUnits.{protected_fits}
use Rattle.uda_c.proofs.controller.Controller.set_protected.Goals as goal

-- the port with the unit's new protection
protected : (c : goal.After-put_back) → c.put_back.new.port
    ≡ port_protected c.self.inside.port c.args.unit (read_only_at c.self.inside.port c.args.unit || c.args.hard)
protected c =
    let hard = c.is_protected-hard.result in
    protection_changes c.self.inside.port c.args.unit hard c.in-Some.look
    (drive_state unit_state c.in-Some-exchange_drive.field-0)
    (drive_state unit_state (record { store = c.in-Some-exchange_drive.field-0.store; hard = hard }))
    c.protected_mode-mode.result c.exchange_drive.new.self c.put_back.new.port
    (sym c.in-Some.ensures.info) c.in-Some-exchange_drive.ensures.returned_drive refl c.protected_mode-mode.ensures c.exchange_drive.ensures.set
    c.put_back.ensures.back
    ∙ ap (port_protected c.self.inside.port c.args.unit) c.is_protected-hard.ensures

pub invariant_of-self : goal.invariant_of-self
invariant_of-self c = (
  protected_faithful c.self.inside.port c.put_back.new.port c.args.unit
      (read_only_at c.self.inside.port c.args.unit || c.args.hard) (protected c) c.self.invariant.0,
  protected_fits c.self.inside.port c.exchange_drive.new.self c.put_back.new.port c.args.unit c.args.hard
      c.exchange_drive.ensures.four_units c.if-unit-gt3.false c.exchange_drive.ensures.set (protected c)
      c.self.invariant.1,
)

pub invariant_of-self-in_default-exchange_drive : goal.invariant_of-self-in_default-exchange_drive
invariant_of-self-in_default-exchange_drive c =
    absurd (is_handed c.self.inside.port.exec.units c.args.unit c.in-Some.look (sym c.in-Some.ensures.info)
    c.in_default-exchange_drive.ensures.returned_drive)

pub returns-in-Some-exchange_drive : goal.returns-in-Some-exchange_drive
returns-in-Some-exchange_drive c =
    let was : ControllerState = the_view c.self.inside in
    record {
      protects = subst (λ (old : ControllerState). SetsProtection old c.args.unit c.args.hard Done
          (record was { port = c.put_back.new.port })) c.self.view_is
          (protects was c.args.unit c.args.hard c.in-Some.look c.put_back.new.port (le-ltb 3 c.args.unit c.if-unit-gt3.false)
          (sym c.in-Some.ensures.info) (protected c));
    }

pub returns-in_default-exchange_drive : goal.returns-in_default-exchange_drive
returns-in_default-exchange_drive c =
    absurd (is_handed c.self.inside.port.exec.units c.args.unit c.in-Some.look (sym c.in-Some.ensures.info)
    c.in_default-exchange_drive.ensures.returned_drive)
