use Rattle.std.proofs.Common.{◌≡◌, ◌≤◌, ◌<◌, ℕ}
use Rattle.uda50_files.specs.Ahead.{IsRead}
use Rattle.uda50_files.proofs.ahead.Part.read_blocks.Given as goal

abbrev pub invariant-loop-block : goal.invariant-loop-block
invariant-loop-block l = record {
  offset : l.self.offset ≡ l.initial.self.offset;
  read : (k : ℕ) → l.fn.first ≤ k → k < l.block → IsRead l.self k;
}
