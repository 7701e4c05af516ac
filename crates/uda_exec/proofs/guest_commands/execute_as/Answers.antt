use Rattle.uda_exec.proofs.Units.{natures_set}
use Rattle.uda_exec.proofs.guest_commands.execute_as.Goals as goal

pub returns-in-SetUnit-clause-all_attributes : goal.returns-in-SetUnit-clause-all_attributes
returns-in-SetUnit-clause-all_attributes g c =
    let command = c.args.asked.command in
    rw c.set_unit.ensures.units (natures_set command.op c.args.units.now command.unit)
