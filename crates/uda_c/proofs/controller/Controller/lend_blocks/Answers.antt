use Rattle.std.proofs.Common.{◌≡◌, true, false, Option, refl, sym, ap, subst, ◌∙◌}
use Rattle.std.proofs.lemmas.Bool.{le-ltb}
use Rattle.std.specs.Prelude.{is_ok, is_some, option_map, if◌then◌else◌, IfOk, length}
use Rattle.uda_image.specs.Store.{StoreState}
use Rattle.uda_disk.specs.Units.{UnitState}
use Rattle.uda_exec.specs.Drives.{DriveState, drive_state, info_at}
use Rattle.uda_called.specs.CalledImage.{bytes_in, as_lent}
use Rattle.uda_c.specs.contracts.controller.Controller.{the_view}
use Rattle.uda_c.specs.declared.call_status.CallStatus.TheVariants.{Done, NoSuchUnit, NotAttached}
use Rattle.uda_c.specs.ControllerState.{ControllerState}
use Rattle.uda_c.specs.UnitImage.{unit_state, is_called, is_called_in, called_begun, lent_from, lend_answer, store_lent, status_of}
use Rattle.uda_c.specs.Controllers.{with_store, unit_answer, has_image}
use Rattle.uda_c.specs.BlockRange.{LendsBlocks, lent_at, lent_in_unit, lend_answer_in, size_in, with_none_ready}
use Rattle.uda_c.proofs.FailingUnits.{store_changes, is_handed, slot_after, both_changes, begins, begun_size, begun_faithful, lent_size, lent_faithful, if_ok, lends}
use Rattle.uda_c.proofs.Lending.{is_left}
use Rattle.uda_c.proofs.FaithfulUnits.{changed_faithful}
use Rattle.uda_c.proofs.FittingUnits.{changed_fits}
use Rattle.uda_c.proofs.controller.Controller.lend_blocks.Goals as goal

pub invariant_of-self : goal.invariant_of-self
invariant_of-self c =
    let was : ControllerState = the_view c.self.inside in
    let new : ControllerState = the_view (record c.self.inside { port = c.put_back.new.port }) in
    let drive = drive_state unit_state c.in-Some-exchange_drive.field-0 in
    let hard = c.in-Some-exchange_drive.field-0.hard in
    let changed : DriveState = record { store = unit_state c.lend-lent.new.self; hard = hard } in
    let from = c.args.from.now in
    let done = is_ok c.lend-lent.result in
    let lent : StoreState → StoreState = λ s. store_lent done c.args.first from (called_begun c.args.first s) in
    let store : unit_state c.lend-lent.new.self ≡ lent drive.store =
    c.lend-lent.ensures.state ∙ ap (store_lent done c.args.first from) c.begin.ensures.state in
    let is : new ≡ with_store was c.args.unit lent =
    store_changes was c.args.unit lent c.in-Some.look drive changed c.exchange_drive.new.self new.port
    (sym c.in-Some.ensures.info) c.in-Some-exchange_drive.ensures.returned_drive
    (ap (λ (s : StoreState). record { store = s; hard = hard }) store) c.exchange_drive.ensures.set c.put_back.ensures.back in (
      changed_faithful was new c.args.unit lent is
          (λ s. lent_faithful done c.args.first from (called_begun c.args.first s) ∙ begun_faithful c.args.first s)
          c.self.invariant.0,
      changed_fits was new c.args.unit lent is
          (λ s. lent_size done c.args.first from (called_begun c.args.first s) ∙ begun_size c.args.first s)
          c.self.invariant.1,
    )

pub invariant_of-self-in-None : goal.invariant_of-self-in-None
invariant_of-self-in-None c =
    absurd (is_handed c.self.inside.port.exec.units c.args.unit c.in-Some.look (sym c.in-Some.ensures.info)
    c.in-None.ensures.returned_drive)

pub returns-in-Some-exchange_drive : goal.returns-in-Some-exchange_drive
returns-in-Some-exchange_drive c =
    let was : ControllerState = the_view c.self.inside in
    let new : ControllerState = the_view (record c.self.inside { port = c.put_back.new.port }) in
    let look = sym c.in-Some.ensures.info in
    let back = c.in-Some-exchange_drive.ensures.returned_drive in
    let drive = drive_state unit_state c.in-Some-exchange_drive.field-0 in
    let hard = c.in-Some-exchange_drive.field-0.hard in
    let changed : DriveState = record { store = unit_state c.lend-lent.new.self; hard = hard } in
    let u = c.args.unit in
    let first = c.args.first in
    let from = c.args.from.now in
    let made = c.lend-lent.result in
    let begun : ControllerState = with_store was u (called_begun first) in
    let lent : StoreState → StoreState = λ s. store_lent (is_ok made) first from (called_begun first s) in
    let store : unit_state c.lend-lent.new.self ≡ lent drive.store =
    c.lend-lent.ensures.state ∙ ap (store_lent (is_ok made) first from) c.begin.ensures.state in
    let is : new ≡ with_store was u lent =
    store_changes was u lent c.in-Some.look drive changed c.exchange_drive.new.self new.port look back
    (ap (λ (s : StoreState). record { store = s; hard = hard }) store) c.exchange_drive.ensures.set c.put_back.ensures.back in
    let goes : new ≡ with_store begun u (store_lent (is_ok made) first from) =
    is ∙ sym (both_changes was u (called_begun first) (store_lent (is_ok made) first from) c.in-Some.look look) in
    let there : unit_answer begun u ≡ Done =
    ap (λ b. if b then NoSuchUnit else if has_image begun u then Done else NotAttached) (le-ltb 3 u c.if-unit-gt3.false)
    ∙ ap (λ b. if b then Done else NotAttached) (slot_after (λ (o : Option (Option UnitState)). is_some (info_at o))
    (λ (s : StoreState). true) (λ unit. refl) was u c.in-Some.look drive look back (called_begun first)) in
    let kind = c.begin.ensures.state in
    let called = sym (slot_after is_called_in is_called (λ unit. refl) was u c.in-Some.look drive look back (called_begun first)) in
    let exact = sym (slot_after (lend_answer_in first (length (bytes_in from))) (lend_answer first (length (bytes_in from)))
    (λ unit. refl) was u c.in-Some.look drive look back (called_begun first)) in
    let size = sym (slot_after size_in (λ (s : StoreState). s.size) (λ unit. refl) was u c.in-Some.look drive look back
    (called_begun first)) in
    let after : lent_at new u first ≡ lent_from first (unit_state c.lend-lent.new.self) =
    ap (λ (n : ControllerState). lent_at n u first) is
    ∙ slot_after (lent_in_unit first) (lent_from first) (λ unit. refl) was u c.in-Some.look drive look back lent
    ∙ sym (ap (lent_from first) store) in
    let has : IfOk made (λ _. lent_at new u first ≡ option_map as_lent from) =
    if_ok made (λ e. after ∙ e) c.lend-lent.ensures.has in
    let fits = rw (kind, size) at c.lend-lent.ensures.fits in
    let lent_so = lends begun u first from made c.status_of.result new there
    (rw (kind, called) at c.lend-lent.ensures.kind) (c.lend-lent.ensures.answer ∙ ap (lend_answer first (length (bytes_in from))) kind
    ∙ exact) fits has c.lend-lent.ensures.refused c.status_of.ensures goes in
    record {
      lends = subst (λ (old : ControllerState). LendsBlocks (with_none_ready old u first) (u, first) from c.status_of.result new)
          c.self.view_is (subst (λ (old : ControllerState). LendsBlocks old (u, first) from c.status_of.result new)
          (begins was u first begun refl) lent_so);
      taken = is_left made c.status_of.result from c.lend-lent.new.from c.lend-lent.ensures.refused c.status_of.ensures
          c.lend-lent.ensures.taken;
    }

pub returns-in-None : goal.returns-in-None
returns-in-None c =
    absurd (is_handed c.self.inside.port.exec.units c.args.unit c.in-Some.look (sym c.in-Some.ensures.info)
    c.in-None.ensures.returned_drive)
