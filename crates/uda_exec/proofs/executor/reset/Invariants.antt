use Rattle.std.proofs.Common.{◌≡◌, ◌++◌, take, drop, map}
use Rattle.uda_exec.specs.Drives.{reset_unit}
use Rattle.uda_exec.proofs.executor.reset.Given as goal

-- the units before this one are reset, and the others are unchanged
abbrev pub invariant-loop-unit : goal.invariant-loop-unit
invariant-loop-unit g l = l.units ≡ map reset_unit (take l.unit-index l.initial.units) ++ drop l.unit-index
    l.initial.units
