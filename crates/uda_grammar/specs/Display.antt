-- The printed texts of the errors.
use Rattle.std.specs.Prelude.{ℕ, List, ◌++◌, codes}
use Rattle.std.specs.Fmt.{decimal}
use Rattle.uda_grammar.specs.declared.error.ScriptError.{ScriptError}
use Rattle.uda_grammar.specs.declared.error.ScriptError.TheVariants.{NoMemory, Syntax, TooManyLines}
use Rattle.uda_grammar.specs.declared.error.ScriptError.TheVariants.{ShortData, Read, Write}

abbrev pub script_error_display : ScriptError → List ℕ
script_error_display NoMemory = codes "out of memory"
script_error_display (Syntax line) = codes "line " ++ (decimal line ++ codes ": syntax")
script_error_display TooManyLines = codes "more than 4096 requests"
script_error_display (ShortData line) = codes "line " ++ (decimal line ++ codes ": data ended")
script_error_display Read = codes "read failed"
script_error_display Write = codes "write failed"
