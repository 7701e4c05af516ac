use Rattle.uda_c.specs.declared.slot.Slot.{Slot}
use Rattle.std.proofs.Common.{ap, refl, sym, subst, nat_lt, ◌∙◌, None}
use Rattle.uda_exec.specs.Drives.{drive_state}
use Rattle.uda_c.specs.declared.call_status.CallStatus.TheVariants.{Done, NotEmpty}
use Rattle.uda_c.specs.contracts.controller.Controller.{the_view}
use Rattle.uda_c.specs.ControllerState.{ControllerState}
use Rattle.uda_c.specs.Controllers.{Detaches}
use Rattle.uda_c.specs.UnitImage.{unit_state}
use Rattle.uda_c.proofs.FaithfulUnits.{put_faithful}
use Rattle.uda_c.proofs.FittingUnits.{put_among_four}
use Rattle.uda_c.proofs.FailingUnits.{is_handed}
use Rattle.uda_c.proofs.Lending.{not_put, detaches}
use Rattle.uda_c.proofs.controller.Controller.detach.Goals as goal
use Rattle.uda_c.proofs.controller.Controller.detach.Goals.{in-Some-set_drive, in_default-set_drive}

pub returns-in-Some-take : goal.returns-in-Some-take
returns-in-Some-take c =
    let took = c.in-Some-take.ensures.took in
    let was : ControllerState = the_view c.self.inside in
    let after = c.put.new.self in
    record {
      detaches = subst (λ (old : ControllerState).
          Detaches (old, c.args.image.now) c.args.unit NotEmpty (old, after)) c.self.view_is
          (not_put was c.args.unit c.in-Some._look c.args.image.now after c.in-Some-take.lent
          c.if-unit-gt3.false (sym c.in-Some.ensures.info) took.1 took.0 c.put.ensures.value);
    }

pub invariant_of-self : goal.invariant_of-self
invariant_of-self c = (
  put_faithful c.self.inside.port c.set_drive.new.self c.args.unit None refl c.set_drive.ensures.set
      c.self.invariant.0,
  put_among_four c.self.inside.port c.set_drive.new.self c.args.unit None c.set_drive.ensures.four_units
      c.if-unit-gt3.false c.set_drive.ensures.set c.self.invariant.1,
)

pub returns : goal.returns
returns c =
    let was : ControllerState = the_view c.self.inside in
    let port = c.set_drive.new.self in
    let new : ControllerState = record was { port = port; called = nat_lt 0 c.called_units-self-inside.result } in
    let after = c.match-set_drive.image in
    let look = sym c.in-Some.ensures.info in
    elim c.match-set_drive.branch [
      | in-Some-set_drive w ↦ record {
        detaches = subst (λ (old : ControllerState).
            Detaches (old, c.args.image.now) c.args.unit Done (new, after)) c.self.view_is
            (detaches was c.args.unit c.in-Some._look c.args.image.now after
            (drive_state unit_state w.in-Some-set_drive.drive) port (nat_lt 0 c.called_units-self-inside.result) c.if-unit-gt3.false look
            c.in_default-take.ensures.took.0 w.in-Some-set_drive.ensures.returned_drive
            (ap (λ (s : Slot). s.held) w.image-is ∙ w.put_lent.ensures.bytes) c.set_drive.ensures.set
            c.called_units-self-inside.ensures.called);
      }
      | in_default-set_drive w ↦ absurd (is_handed was.port.exec.units c.args.unit c.in-Some._look look
          w.in_default-set_drive.ensures.returned_drive)
    ]
