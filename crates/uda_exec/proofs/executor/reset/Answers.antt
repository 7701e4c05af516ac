use Rattle.std.proofs.Common.{sym, ap, ◌∙◌}
use Rattle.std.proofs.lemmas.List.Edits.{map_over_more}
use Rattle.uda_exec.specs.Drives.{reset_unit}
use Rattle.uda_exec.proofs.executor.reset.Goals as goal

pub loop-unit-preserved : goal.loop-unit-preserved
loop-unit-preserved g c =
    let written = c.reset_unit.ensures ∙ ap reset_unit (sym c.unit-item.is) in
    rw written (map_over_more reset_unit c.args.units.now c.loop-unit.units c.loop-unit.unit-index
    c.unit-item.result c.loop-unit-test.true c.loop-unit.invariant c.unit-item.is)
