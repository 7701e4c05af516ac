-- The requests of a script's lines.
use Rattle.std.specs.Prelude.{◌≡◌, ℕ, ◌+◌, Bool, true, not, ◌&&◌, ◌==◌, if◌then◌else◌, List, [], ◌∷◌, ◌++◌, Option}
use Rattle.std.specs.Prelude.{Some, None, is_none}
use Rattle.uda_grammar.specs.declared.script.Line.{Line}
use Rattle.uda_grammar.specs.declared.error.ScriptError.{ScriptError}
use Rattle.uda_grammar.specs.declared.error.ScriptError.TheVariants as error
use Rattle.uda_grammar.specs.declared.statement.Statement.{Statement}
use Rattle.uda_grammar.specs.Parts.{words_of, lines_of}
use Rattle.uda_grammar.specs.Forms.{statement_of}

-- a line that makes no request: an empty one, or one that begins with a number sign
abbrev pub is_silent : List ℕ → Bool
is_silent [] = true
is_silent (first ∷ rest) = first == 35

-- a line that has none of the forms
abbrev pub is_fault : List ℕ → Bool
is_fault line = not (is_silent line) && is_none (statement_of (words_of line))

-- the number of the first line without a form; the first of these lines has the number `number`
abbrev pub fault_from : ℕ → List (List ℕ) → Option ℕ
fault_from number [] = None
fault_from number (line ∷ rest) =
    if is_fault line then Some number else fault_from (number + 1) rest

-- the request of a line of this number, if it makes one
abbrev pub request_of : ℕ → Option Statement → List Line
request_of number None = []
request_of number (Some statement) = record { number = number; statement = statement } ∷ []

abbrev pub request_in : ℕ → List ℕ → List Line
request_in number line =
    if is_silent line then [] else request_of number (statement_of (words_of line))

-- the requests of the lines before the first line without a form; the first of these lines has the number
-- `number`
abbrev pub requests_from : ℕ → List (List ℕ) → List Line
requests_from number [] = []
requests_from number (line ∷ rest) =
    if is_fault line then [] else request_in number line ++ requests_from (number + 1) rest

-- the number of a text's first line without a form, from 1
abbrev pub fault_in : List ℕ → Option ℕ
fault_in text = fault_from 1 (lines_of text)

-- the requests of a text's lines before that one
abbrev pub requests_in : List ℕ → List Line
requests_in text = requests_from 1 (lines_of text)

-- After these bytes, whatever follows, these requests were made and no line was a fault. Their first line
-- has the number `number`, and the next line has the number `next`.
pub record LeadsTo (number : ℕ) (bytes : List ℕ) (next : ℕ) (made : List Line) : Type 0 where
  pub requests : (rest : List ℕ)
      → requests_from number (lines_of (bytes ++ rest)) ≡ made ++ requests_from next (lines_of rest)
  pub fault : (rest : List ℕ)
      → fault_from number (lines_of (bytes ++ rest)) ≡ fault_from next (lines_of rest)

-- the errors of reading a text
abbrev pub IsReadingError : ScriptError → Type 0
IsReadingError error.NoMemory = Unit {0}
IsReadingError (error.Syntax line) = Unit {0}
IsReadingError error.TooManyLines = Unit {0}
IsReadingError _ = ⊥
