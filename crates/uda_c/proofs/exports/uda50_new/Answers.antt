use Rattle.uda_c.specs.declared.call_status.CallStatus.TheVariants.{HasController}
use Rattle.uda_c.specs.Controllers.{profile_of}
use Rattle.uda_c.proofs.Lending.{controller_stays}
use Rattle.uda_c.proofs.exports.uda50_new.Goals as goal

pub returns-then-has_controller-clause-made : goal.returns-then-has_controller-clause-made
returns-then-has_controller-clause-made c = let asked = c.has_controller in (
  HasController,
  c.code.ensures,
  controller_stays c.args.handle.now.value asked.new.handle.value (profile_of c.args.compatible)
      (asked.ensures.value) c.if-has_controller.true asked.ensures.same,
)
