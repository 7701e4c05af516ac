use Rattle.std.proofs.Common.{◌≡◌, ◌^◌, take, length, map}
use Rattle.uda50_show.specs.Rows.{octal_glyph}
use Rattle.uda50_show.proofs.cells.octal_column.Given as goal

-- the first of them are made
abbrev pub invariant-loop-n : goal.invariant-loop-n
invariant-loop-n l = record {
  long : length l.digits ≡ 8;
  made : take l.n l.digits ≡ map (octal_glyph (2 ^ l.bit)) (take l.n l.words);
}
