use Rattle.std.proofs.Common.{◌-◌, ◌≤◌}
use Rattle.uda_bus.specs.Bytes.{AllLead}
use Rattle.uda_bus.proofs.map.BusMap.leads.Given as goal

abbrev pub invariant-loop-done : goal.invariant-loop-done
invariant-loop-done l = record {
  within : l.done ≤ l.bytes;
  all : AllLead l.self l.memory l.at l.done;
}

abbrev pub decreases-loop-done : goal.decreases-loop-done
decreases-loop-done l = l.bytes - l.done
