use Rattle.std.proofs.Common.{drop, ◌≡◌}
use Rattle.uda_bus.specs.Turns.{stored_ranges}
use Rattle.uda_bus.proofs.map.BusMap.store.Given as goal

abbrev pub invariant-loop-range : goal.invariant-loop-range
invariant-loop-range l =
    stored_ranges l.self (drop l.range-index l.ranges) l.window l.memory
    ≡ stored_ranges l.self l.ranges l.window l.fn.memory
