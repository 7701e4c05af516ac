use Rattle.std.specs.Prelude.{ℕ, ◌≤◌, IfOk, is_ok}
use Rattle.std.proofs.Common.{◌≡◌, refl, sym, ap, subst, ◌∙◌}
use Rattle.std.proofs.lemmas.Bool.{le-ltb}
use Rattle.uda_image.specs.Store.{StoreState}
use Rattle.uda_exec.specs.Drives.{DriveState, drive_state}
use Rattle.uda_c.specs.contracts.controller.Controller.{the_view}
use Rattle.uda_c.specs.ControllerState.{ControllerState}
use Rattle.uda_c.specs.UnitImage.{unit_state, store_prepared, allow_answer, ReadyAnswer, status_of}
use Rattle.uda_c.specs.Controllers.{with_store}
use Rattle.uda_c.specs.BlockRange.{AllowsBlocks, allow_answer_in, size_in}
use Rattle.uda_c.proofs.FailingUnits.{store_changes, is_handed, has_status, called_drive_is, slot_is, prepared_size, prepared_faithful, allows}
use Rattle.uda_c.proofs.FaithfulUnits.{changed_faithful}
use Rattle.uda_c.proofs.FittingUnits.{changed_fits}
use Rattle.uda_c.proofs.controller.Controller.allow_blocks.Goals as goal

pub invariant_of-self : goal.invariant_of-self
invariant_of-self c =
    let was : ControllerState = the_view c.self.inside in
    let new : ControllerState = the_view (record c.self.inside { port = c.put_back.new.port }) in
    let look = sym c.in-Some.ensures.info in
    let drive = drive_state unit_state c.in-Some-exchange_drive.field-0 in
    let hard = c.in-Some-exchange_drive.field-0.hard in
    let changed : DriveState = record { store = unit_state c.allow-allowed.new.self; hard = hard } in
    let is : new ≡ with_store was c.args.unit (store_prepared (is_ok c.allow-allowed.result) c.args.prepared c.args.count) =
    store_changes was c.args.unit (store_prepared (is_ok c.allow-allowed.result) c.args.prepared c.args.count) c.in-Some.look drive changed c.exchange_drive.new.self new.port look
    c.in-Some-exchange_drive.ensures.returned_drive (ap (λ (s : StoreState). record { store = s; hard = hard }) c.allow-allowed.ensures.state)
    c.exchange_drive.ensures.set c.put_back.ensures.back in (
      changed_faithful was new c.args.unit (store_prepared (is_ok c.allow-allowed.result) c.args.prepared c.args.count) is (prepared_faithful (is_ok c.allow-allowed.result) c.args.prepared c.args.count) c.self.invariant.0,
      changed_fits was new c.args.unit (store_prepared (is_ok c.allow-allowed.result) c.args.prepared c.args.count) is (prepared_size (is_ok c.allow-allowed.result) c.args.prepared c.args.count) c.self.invariant.1,
    )

pub invariant_of-self-in-None : goal.invariant_of-self-in-None
invariant_of-self-in-None c =
    absurd (is_handed c.self.inside.port.exec.units c.args.unit c.in-Some.look (sym c.in-Some.ensures.info)
    c.in-None.ensures.returned_drive)

pub returns-in-Some-exchange_drive : goal.returns-in-Some-exchange_drive
returns-in-Some-exchange_drive c =
    let was : ControllerState = the_view c.self.inside in
    let new : ControllerState = the_view (record c.self.inside { port = c.put_back.new.port }) in
    let look = sym c.in-Some.ensures.info in
    let drive = drive_state unit_state c.in-Some-exchange_drive.field-0 in
    let hard = c.in-Some-exchange_drive.field-0.hard in
    let changed : DriveState = record { store = unit_state c.allow-allowed.new.self; hard = hard } in
    let is : new ≡ with_store was c.args.unit (store_prepared (is_ok c.allow-allowed.result) c.args.prepared c.args.count) =
    store_changes was c.args.unit (store_prepared (is_ok c.allow-allowed.result) c.args.prepared c.args.count) c.in-Some.look drive changed c.exchange_drive.new.self new.port look
    c.in-Some-exchange_drive.ensures.returned_drive (ap (λ (s : StoreState). record { store = s; hard = hard }) c.allow-allowed.ensures.state)
    c.exchange_drive.ensures.set c.put_back.ensures.back in
    let kind = sym (called_drive_is was c.args.unit c.in-Some.look drive look c.in-Some-exchange_drive.ensures.returned_drive) in
    let exact = sym (slot_is (allow_answer_in c.args.prepared c.args.count) (allow_answer c.args.prepared c.args.count)
    (λ unit. refl) was c.args.unit c.in-Some.look drive look c.in-Some-exchange_drive.ensures.returned_drive) in
    let size = sym (slot_is size_in (λ (s : StoreState). s.size) (λ unit. refl) was c.args.unit c.in-Some.look drive look
    c.in-Some-exchange_drive.ensures.returned_drive) in
    let there = has_status was c.args.unit c.in-Some.look (le-ltb 3 c.args.unit c.if-unit-gt3.false) look in
    record {
      allows = subst (λ (old : ControllerState). AllowsBlocks old (c.args.unit, c.args.count) c.args.prepared c.status_of.result new)
          c.self.view_is
          (allows was c.args.unit c.args.count c.args.prepared c.allow-allowed.result c.status_of.result new there
          (subst (λ b. ReadyAnswer b (status_of c.allow-allowed.result)) kind c.allow-allowed.ensures.kind)
          (c.allow-allowed.ensures.answer ∙ exact)
          (subst (λ (n : ℕ). IfOk c.allow-allowed.result (λ _. c.args.count ≤ n)) size c.allow-allowed.ensures.fits)
          c.allow-allowed.ensures.refused c.status_of.ensures is);
    }

pub returns-in-None : goal.returns-in-None
returns-in-None c =
    absurd (is_handed c.self.inside.port.exec.units c.args.unit c.in-Some.look (sym c.in-Some.ensures.info)
    c.in-None.ensures.returned_drive)
