-- The largest script.
use Rattle.std.specs.Prelude.{ℕ, ◌≤◌, length}
use Rattle.uda_grammar.specs.declared.script.Script.TheInside.{Inside}

-- the most requests of one script
abbrev pub script_limit : ℕ
script_limit = 4096

-- the invariant of a script's fields
pub record IsScript (script : Inside) : Type 0 where
  pub short : length script.lines.items ≤ script_limit
