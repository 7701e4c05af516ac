use Rattle.std.proofs.Common.{◌≡◌, drop}
use Rattle.std.specs.List.{list_all}
use Rattle.std.specs.Char.{is_ascii_digit}
use Rattle.uda_grammar.specs.Words.{value_behind}
use Rattle.uda_grammar.proofs.number.number.Given as goal

abbrev pub invariant-loop-digit : goal.invariant-loop-digit
invariant-loop-digit l = record {
  value : value_behind l.value (drop l.digit-index l.word) ≡ value_behind 0 l.word;
  digits : list_all is_ascii_digit (drop l.digit-index l.word) ≡ list_all is_ascii_digit l.word;
}
