use Rattle.std.proofs.Common.{refl, sym, subst, ◌∙◌}
use Rattle.std.proofs.lemmas.Bool.{le-ltb}
use Rattle.uda_exec.specs.Drives.{drive_state}
use Rattle.uda_c.specs.declared.call_status.CallStatus.TheVariants.{Done, OtherKind}
use Rattle.uda_c.specs.contracts.controller.Controller.{the_view}
use Rattle.uda_c.specs.ControllerState.{ControllerState}
use Rattle.uda_c.specs.Controllers.{FailsAt}
use Rattle.uda_c.specs.UnitImage.{unit_state, store_failing}
use Rattle.uda_c.proofs.FailingUnits.{store_changes, fails_at, fails_not, is_handed}
use Rattle.uda_c.proofs.FaithfulUnits.{changed_faithful}
use Rattle.uda_c.proofs.FittingUnits.{changed_fits}
use Rattle.uda_c.proofs.controller.Controller.set_failing_call.Goals as goal

pub returns-then-is_called : goal.returns-then-is_called
returns-then-is_called c =
    let was : ControllerState = the_view c.self.inside in
    let called = rw (← c.self.view_is) at (sym c.is_called.ensures.called ∙ c.if-is_called.true) in
    record {
      fails = subst (λ (old : ControllerState). FailsAt old c.args.unit c.args.call OtherKind old) c.self.view_is
          (fails_not was c.args.unit c.args.call c.in-Some.look (le-ltb 3 c.args.unit c.if-unit-gt3.false)
          (sym c.in-Some.ensures.info) called);
    }

pub invariant_of-self : goal.invariant_of-self
invariant_of-self c =
    let was : ControllerState = the_view c.self.inside in
    let new : ControllerState = the_view (record c.self.inside { port = c.put_back.new.port }) in
    let is = store_changes was c.args.unit (store_failing c.args.call) c.in-Some.look
    (drive_state unit_state c.in-Some-exchange_drive.drive) (drive_state unit_state c.failing.result)
    c.exchange_drive.new.self new.port (sym c.in-Some.ensures.info) c.in-Some-exchange_drive.ensures.returned_drive
    c.failing.ensures.store c.exchange_drive.ensures.set c.put_back.ensures.back in (
      changed_faithful was new c.args.unit (store_failing c.args.call) is (λ store. refl) c.self.invariant.0,
      changed_fits was new c.args.unit (store_failing c.args.call) is (λ store. refl) c.self.invariant.1,
    )

pub invariant_of-self-in_default-exchange_drive : goal.invariant_of-self-in_default-exchange_drive
invariant_of-self-in_default-exchange_drive c =
    absurd (is_handed c.self.inside.port.exec.units c.args.unit c.in-Some.look (sym c.in-Some.ensures.info)
    c.in_default-exchange_drive.ensures.returned_drive)

pub returns-in-Some-exchange_drive : goal.returns-in-Some-exchange_drive
returns-in-Some-exchange_drive c =
    let was : ControllerState = the_view c.self.inside in
    let new : ControllerState = the_view (record c.self.inside { port = c.put_back.new.port }) in
    let lent = rw (← c.self.view_is) at (sym c.is_called.ensures.called ∙ c.if-is_called.false) in
    record {
      fails = subst (λ (old : ControllerState). FailsAt old c.args.unit c.args.call Done new) c.self.view_is
          (fails_at was c.args.unit c.args.call c.in-Some.look
          (drive_state unit_state c.in-Some-exchange_drive.drive) (drive_state unit_state c.failing.result)
          c.exchange_drive.new.self new.port (le-ltb 3 c.args.unit c.if-unit-gt3.false) (sym c.in-Some.ensures.info) lent
          c.in-Some-exchange_drive.ensures.returned_drive c.failing.ensures.store c.exchange_drive.ensures.set
          c.put_back.ensures.back);
    }

pub returns-in_default-exchange_drive : goal.returns-in_default-exchange_drive
returns-in_default-exchange_drive c =
    absurd (is_handed c.self.inside.port.exec.units c.args.unit c.in-Some.look (sym c.in-Some.ensures.info)
    c.in_default-exchange_drive.ensures.returned_drive)
