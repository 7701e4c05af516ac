use Rattle.std.proofs.Common.{◌≡◌, take, length, map}
use Rattle.uda50_show.specs.Rows.{low_byte}
use Rattle.uda50_show.proofs.cells.low_bytes.Given as goal

-- the first of them are made
abbrev pub invariant-loop-n : goal.invariant-loop-n
invariant-loop-n l = record {
  long : length l.bytes ≡ 48;
  made : take l.n l.bytes ≡ map low_byte (take l.n l.digits);
}
