use Rattle.uda_driver.specs.Run.{units_of}
use Rattle.uda50_copy.specs.Copy.{ChangesNoBlock}
use Rattle.uda50_copy.proofs.copier.bring_online.Given as goal

abbrev pub invariant-loop-answer : goal.invariant-loop-answer
invariant-loop-answer g l = ChangesNoBlock (units_of l.fn.driver) (units_of l.driver)
