use Rattle.uda_bus.proofs.TurnLaws.{stored_next, stored_all}
use Rattle.uda_bus.proofs.map.BusMap.store.Goals as goal

pub loop-range-preserved : goal.loop-range-preserved
loop-range-preserved c =
    stored_next _ _ _ _ _ _ _ c.loop-range-test.true c.write_range.ensures.stored c.loop-range.invariant

pub returns-clause-stored : goal.returns-clause-stored
returns-clause-stored c = stored_all _ _ _ _ _ _ c.loop-range-test.false c.loop-range.invariant
