use Rattle.std.proofs.Common.{sym, subst, refl}
use Rattle.uda_c.specs.declared.call_status.CallStatus.TheVariants.{Done, BadLength}
use Rattle.uda_c.specs.contracts.controller.Controller.{the_view}
use Rattle.uda_c.specs.ControllerState.{ControllerState}
use Rattle.uda_c.specs.Steps.{CopiesWritten}
use Rattle.uda_c.specs.TurnUse.{IsPlaceOf}
use Rattle.uda_c.proofs.WrittenBlocks.{copied, refused}
use Rattle.uda_c.proofs.controller.Controller.copy_written.Goals as goal

pub returns-then-copy_written : goal.returns-then-copy_written
returns-then-copy_written c =
    let memory = c.args.memory.now in
    let turn = c.args.turn.now in
    let told = c.if-copy_written.ensures in
    let asks = subst (λ (s : ControllerState). IsPlaceOf s turn c.place_of-place.result) (sym c.self.view_is)
    (record { is_place = c.place_of-place.ensures.place; asked_is = c.place_of-place.ensures.asked }) in
    record {
      copies =
          subst (λ (s : ControllerState). CopiesWritten s memory (turn, c.args.skip) Done (c.args.to.now, c.copy_written.new.to))
          c.self.view_is
          (copied (the_view c.self.inside) memory turn c.args.skip c.place_of-place.result c.missing-missing.result
          c.missing-missing.ensures asks c.args.to.now c.copy_written.new.to (told.fits.0 refl) told.bytes);
    }

pub returns-else-copy_written : goal.returns-else-copy_written
returns-else-copy_written c =
    let memory = c.args.memory.now in
    let turn = c.args.turn.now in
    let told = c.if-copy_written.ensures in
    let asks = subst (λ (s : ControllerState). IsPlaceOf s turn c.place_of-place.result) (sym c.self.view_is)
    (record { is_place = c.place_of-place.ensures.place; asked_is = c.place_of-place.ensures.asked }) in
    record {
      copies =
          subst
          (λ (s : ControllerState). CopiesWritten s memory (turn, c.args.skip) BadLength (c.args.to.now, c.copy_written.new.to))
          c.self.view_is
          (refused (the_view c.self.inside) memory turn c.args.skip c.place_of-place.result c.missing-missing.result
          c.missing-missing.ensures asks c.args.to.now c.copy_written.new.to
          (λ has. absurd (let no = told.fits.1 has in cc)) told.bytes);
    }
