use Rattle.std.proofs.Common.{length, take, ◌-◌, ◌≡◌, ◌≤◌, ◌↔◌, IsTrue}
use Rattle.uda_bus.specs.Bytes.{shown, AllLead}
use Rattle.uda_bus.proofs.map.BusMap.read.Given as goal

abbrev pub invariant-loop-done : goal.invariant-loop-done
invariant-loop-done l = record {
  within : l.done ≤ length l.initial.to;
  shown : take l.done l.to ≡ shown l.self l.memory l.at l.done;
  whole : IsTrue l.whole ↔ AllLead l.self l.memory l.at l.done;
}

abbrev pub decreases-loop-done : goal.decreases-loop-done
decreases-loop-done l = length l.initial.to - l.done
