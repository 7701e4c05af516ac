use Rattle.std.proofs.Common.{sym, ap, subst, ◌∙◌, Some}
use Rattle.std.specs.Prelude.{is_some}
use Rattle.uda_exec.specs.Drives.{DriveState}
use Rattle.uda_c.specs.UnitImage.{unit_state}
use Rattle.uda_c.specs.UnitImageLaws.{faithful_of}
use Rattle.uda_c.specs.declared.call_status.CallStatus.TheVariants.{Done}
use Rattle.uda_c.specs.contracts.controller.Controller.{the_view}
use Rattle.uda_c.specs.ControllerState.{ControllerState}
use Rattle.uda_c.specs.Controllers.{Attaches}
use Rattle.uda_c.proofs.FaithfulUnits.{put_faithful}
use Rattle.uda_c.proofs.FittingUnits.{put_among_four}
use Rattle.uda_c.proofs.Lending.{attaches}
use Rattle.uda_c.proofs.controller.Controller.attach.Goals as goal

pub returns-in-Ok : goal.returns-in-Ok
returns-in-Ok c =
    let ok = c.in-Ok.ensures.ok in
    let was : ControllerState = the_view c.self.inside in
    let new : ControllerState = the_view (record c.self.inside { port = c.set_drive.new.self }) in
    record {
      attaches = subst (λ (old : ControllerState).
          Attaches (old, c.args.image.now) c.args.unit c.args.hard Done (new, c.take_image.new.slot))
          c.self.view_is
          (attaches was c.args.unit c.args.image.now c.take_image.new.slot c.args.hard
          c.in-Ok.lent.held (unit_state c.of_bytes-store.result) c.set_drive.new.self c.if-unit-gt3.false
          (ap is_some (sym c.unit.ensures.info) ∙ sym c.is_some.ensures ∙ c.if-is_some.false)
          ok.0 ok.1 ok.2 ok.3 c.of_bytes-store.ensures.state c.set_drive.ensures.set c.set_drive.ensures.four_units);
    }

pub invariant_of-self : goal.invariant_of-self
invariant_of-self c =
    let drive : DriveState = record { store = unit_state c.of_bytes-store.result; hard = c.args.hard } in (
      put_faithful c.self.inside.port c.set_drive.new.self c.args.unit (Some drive)
          (faithful_of c.of_bytes-store.result) c.set_drive.ensures.set
          c.self.invariant.0,
      put_among_four c.self.inside.port c.set_drive.new.self c.args.unit (Some drive)
          c.set_drive.ensures.four_units c.if-unit-gt3.false c.set_drive.ensures.set c.self.invariant.1,
    )
