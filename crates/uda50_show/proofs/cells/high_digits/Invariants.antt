use Rattle.std.proofs.Common.{◌≡◌, take, length, map}
use Rattle.uda50_show.specs.Rows.{high_glyph}
use Rattle.uda50_show.proofs.cells.high_digits.Given as goal

-- the first of them are made
abbrev pub invariant-loop-n : goal.invariant-loop-n
invariant-loop-n l = record {
  long : length l.digits ≡ 16;
  made : take l.n l.digits ≡ map high_glyph (take l.n l.bytes);
}
