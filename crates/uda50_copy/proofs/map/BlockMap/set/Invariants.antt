use Rattle.std.proofs.Common.{ℕ, take}
use Rattle.uda50_copy.specs.Map.{IsSet, AreForward, Spans}
use Rattle.uda50_copy.proofs.map.BlockMap.set.Given as goal

abbrev pub invariant-loop-entry : goal.invariant-loop-entry
invariant-loop-entry l = record {
  forward : AreForward l.entries.items;
  set : IsSet l.blocks.start l.blocks.end l.status (take l.entry-index l.entry-items) l.entries.items;
  spans : (start end : ℕ) → Spans start end (take l.entry-index l.entry-items) → Spans start end l.entries.items;
}
