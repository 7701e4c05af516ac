use Rattle.std.proofs.Common.{◌≡◌, ◌++◌, ◌+◌, take, drop, length, map}
use Rattle.std.specs.Prelude.{codes}
use Rattle.uda50_show.specs.Rows.{printable}
use Rattle.uda50_show.proofs.row.characters.Given as goal

-- the first of them are made, and the bar after them is there
abbrev pub invariant-loop-n : goal.invariant-loop-n
invariant-loop-n l = record {
  long : length l.text ≡ 20;
  made : take (l.n + 3) l.text ≡ codes "  |" ++ map printable (take l.n l.bytes);
  bar : drop 19 l.text ≡ codes "|";
}
