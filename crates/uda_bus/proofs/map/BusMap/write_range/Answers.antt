use Rattle.uda_bus.proofs.TurnLaws.{write_nothing, write_there}
use Rattle.uda_bus.proofs.map.BusMap.write_range.Goals as goal

pub returns-then-range-eq0-clause-stored : goal.returns-then-range-eq0-clause-stored
returns-then-range-eq0-clause-stored c = write_nothing _ _ _ _ _ c.if-range-eq0.true

pub returns-clause-stored : goal.returns-clause-stored
returns-clause-stored c = write_there _ _ _ _ _ _ c.write.ensures.stored
