use Rattle.std.proofs.Common.{◌≡◌, take, length}
use Rattle.uda50_show.specs.Block.{words}
use Rattle.uda50_show.proofs.cells.row_words.Given as goal

-- the first of them are read
abbrev pub invariant-loop-n : goal.invariant-loop-n
invariant-loop-n l = record {
  long : length l.words ≡ 8;
  read : take l.n l.words ≡ words l.n l.bytes;
}
