use Rattle.std.proofs.Common.{arith}
use Rattle.std.proofs.lemmas.Grind.{common_steps}
use Rattle.uda_exec.proofs.Saving.{units_stay_well_formed}
use Rattle.uda_exec.proofs.executor.restore_all.Goals as goal

pub returns-clause-units : goal.returns-clause-units
returns-clause-units g c = grind (arith, common_steps)

pub returns-clause-well_formed : goal.returns-clause-well_formed
returns-clause-well_formed g c =
    rw (returns-clause-units g c) (units_stay_well_formed c.args.infos c.args.units.now c.requires.well_formed)
