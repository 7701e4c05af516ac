use Rattle.std.proofs.Common.{Some}
use Rattle.uda_exec.specs.Drives.{DriveState}
use Rattle.uda_c.specs.UnitImage.{unit_state}
use Rattle.uda_c.specs.UnitImageLaws.{faithful_of}
use Rattle.uda_c.proofs.FaithfulUnits.{put_faithful}
use Rattle.uda_c.proofs.FittingUnits.{put_among_four}
use Rattle.uda_c.proofs.controller.Controller.attach_called.Goals as goal

pub invariant_of-self : goal.invariant_of-self
invariant_of-self c =
    let drive : DriveState = record { store = unit_state c.in-Some.store; hard = c.args.hard } in (
      put_faithful c.self.inside.port c.set_drive.new.self c.args.unit (Some drive)
          (faithful_of c.in-Some.store) c.set_drive.ensures.set c.self.invariant.0,
      put_among_four c.self.inside.port c.set_drive.new.self c.args.unit (Some drive)
          c.set_drive.ensures.four_units c.if-unit-gt3.false c.set_drive.ensures.set c.self.invariant.1,
    )
