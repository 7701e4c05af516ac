use Rattle.std.proofs.Common.{◌≡◌, refl, sym, ap, subst, ◌∙◌}
use Rattle.uda_image.specs.Store.{StoreState}
use Rattle.uda_exec.specs.Drives.{DriveState, drive_state}
use Rattle.uda_c.specs.contracts.controller.Controller.{the_view}
use Rattle.uda_c.specs.ControllerState.{ControllerState}
use Rattle.uda_c.specs.UnitImage.{unit_state, called_begun, lent_from}
use Rattle.uda_c.specs.Controllers.{with_store}
use Rattle.uda_c.specs.BlockRange.{lent_at, lent_in_unit}
use Rattle.uda_c.proofs.FailingUnits.{store_changes, is_handed, begun_size, begun_faithful, begins, slot_is}
use Rattle.uda_c.proofs.FaithfulUnits.{changed_faithful}
use Rattle.uda_c.proofs.FittingUnits.{changed_fits}
use Rattle.uda_c.proofs.controller.Controller.begin.Goals as goal

pub invariant_of-self : goal.invariant_of-self
invariant_of-self c =
    let was : ControllerState = the_view c.self.inside in
    let new : ControllerState = the_view (record c.self.inside { port = c.put_back.new.port }) in
    let drive = drive_state unit_state c.in-Some-exchange_drive.field-0 in
    let hard = c.in-Some-exchange_drive.field-0.hard in
    let changed : DriveState = record { store = unit_state c.begin-lent.new.self; hard = hard } in
    let is : new ≡ with_store was c.args.unit (called_begun c.args.first) =
    store_changes was c.args.unit (called_begun c.args.first) c.in-Some.look drive changed c.exchange_drive.new.self new.port
    (sym c.in-Some.ensures.info) c.in-Some-exchange_drive.ensures.returned_drive
    (ap (λ (s : StoreState). record { store = s; hard = hard }) c.begin-lent.ensures.state)
    c.exchange_drive.ensures.set c.put_back.ensures.back in (
      changed_faithful was new c.args.unit (called_begun c.args.first) is (begun_faithful c.args.first) c.self.invariant.0,
      changed_fits was new c.args.unit (called_begun c.args.first) is (begun_size c.args.first) c.self.invariant.1,
    )

pub invariant_of-self-in-None : goal.invariant_of-self-in-None
invariant_of-self-in-None c =
    absurd (is_handed c.self.inside.port.exec.units c.args.unit c.in-Some.look (sym c.in-Some.ensures.info)
    c.in-None.ensures.returned_drive)

pub returns-in-Some-exchange_drive : goal.returns-in-Some-exchange_drive
returns-in-Some-exchange_drive c =
    let was : ControllerState = the_view c.self.inside in
    let new : ControllerState = the_view (record c.self.inside { port = c.put_back.new.port }) in
    let look = sym c.in-Some.ensures.info in
    let drive = drive_state unit_state c.in-Some-exchange_drive.field-0 in
    let hard = c.in-Some-exchange_drive.field-0.hard in
    let changed : DriveState = record { store = unit_state c.begin-lent.new.self; hard = hard } in
    let is : new ≡ with_store was c.args.unit (called_begun c.args.first) =
    store_changes was c.args.unit (called_begun c.args.first) c.in-Some.look drive changed c.exchange_drive.new.self new.port look
    c.in-Some-exchange_drive.ensures.returned_drive
    (ap (λ (s : StoreState). record { store = s; hard = hard }) c.begin-lent.ensures.state)
    c.exchange_drive.ensures.set c.put_back.ensures.back in
    let goes : new ≡ with_store c.args.self.now c.args.unit (called_begun c.args.first) =
    subst (λ (old : ControllerState). new ≡ with_store old c.args.unit (called_begun c.args.first)) c.self.view_is is in
    record {
      begun = begins c.args.self.now c.args.unit c.args.first new goes;
      lent = c.begin-lent.ensures.given_back
          ∙ sym (slot_is (lent_in_unit c.args.first) (lent_from c.args.first) (λ unit. refl) was c.args.unit c.in-Some.look drive
          look c.in-Some-exchange_drive.ensures.returned_drive)
          ∙ ap (λ (old : ControllerState). lent_at old c.args.unit c.args.first) c.self.view_is;
    }

pub returns-in-None : goal.returns-in-None
returns-in-None c =
    absurd (is_handed c.self.inside.port.exec.units c.args.unit c.in-Some.look (sym c.in-Some.ensures.info)
    c.in-None.ensures.returned_drive)
