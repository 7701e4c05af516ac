use Rattle.uda_bus.proofs.TurnLaws.{read_nothing, read_there}
use Rattle.uda_bus.proofs.map.BusMap.read_range.Goals as goal

pub returns-then-range-eq0-clause-window : goal.returns-then-range-eq0-clause-window
returns-then-range-eq0-clause-window c = read_nothing _ _ _ _ c.if-range-eq0.true

pub returns-clause-window : goal.returns-clause-window
returns-clause-window c =
    read_there _ _ _ _ _ _ c.requires.within c.if-range-eq0.false c.read.ensures.shown
