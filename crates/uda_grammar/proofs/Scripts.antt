-- How far a script has been read.
use Rattle.std.proofs.Common.{◌≡◌, ◌≤◌, ℕ, ◌+◌, suc, List, ◌++◌, length, Option, Some, None}
use Rattle.uda_grammar.specs.declared.script.Line.{Line}
use Rattle.uda_grammar.specs.Limit.{script_limit}
use Rattle.uda_grammar.specs.Parts.{parts_behind}
use Rattle.uda_grammar.specs.Reading.{requests_from, requests_in, fault_from, fault_in}

-- what is left to read, with the line feed before it
abbrev pub left_of : Option (List ℕ) → ℕ
left_of None = 0
left_of (Some rest) = suc (length rest)

-- these lines were read, which make these requests, and this is the rest
pub record HasRead (text : List ℕ) (number : ℕ) (made : List Line) (rest : Option (List ℕ)) : Type 0 where
  pub requests : made ++ requests_from (number + 1) (parts_behind 10 rest) ≡ requests_in text
  pub fault : fault_from (number + 1) (parts_behind 10 rest) ≡ fault_in text
  pub short : length made ≤ script_limit
  pub counted : number + left_of rest ≤ length text + 1
