use Rattle.std.proofs.Common.{length, drop, ◌-◌, ◌+◌, ◌≡◌, ◌≤◌}
use Rattle.uda_bus.specs.Bytes.{stored}
use Rattle.uda_bus.proofs.map.BusMap.write.Given as goal

abbrev pub invariant-loop-done : goal.invariant-loop-done
invariant-loop-done l = record {
  within : l.done ≤ length l.from;
  stored : stored l.self l.memory (l.at + l.done) (drop l.done l.from)
      ≡ stored l.self l.fn.memory l.at l.from;
}

abbrev pub decreases-loop-done : goal.decreases-loop-done
decreases-loop-done l = length l.from - l.done
