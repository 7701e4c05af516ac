-- The inverse of the forms: each statement has one text.
use Rattle.std.specs.Prelude.{◌≡◌, ℕ, ◌/◌, ◌%◌, ◌≤◌, true, false, List, [], ◌∷◌, ◌++◌, codes, Some, ◌↔◌}
use Rattle.std.specs.Fmt.{decimal, digit_glyph}
use Rattle.std.specs.List.{join_with_byte}
use Rattle.uda_grammar.specs.declared.statement.Statement.{Statement}
use Rattle.uda_grammar.specs.declared.statement.Statement.TheVariants as form
use Rattle.uda_grammar.specs.declared.statement.Measure.{Measure}
use Rattle.uda_grammar.specs.declared.statement.Measure.TheVariants as measure
use Rattle.uda_grammar.specs.declared.statement.Amount.{Amount}
use Rattle.uda_grammar.specs.declared.statement.Amount.TheVariants.{Blocks, Bytes}
use Rattle.uda_grammar.specs.Amounts.{most_written}
use Rattle.uda_grammar.specs.Parts.{words_of}
use Rattle.uda_grammar.specs.Words.{most_number}
use Rattle.uda_grammar.specs.Forms.{statement_of}

-- two hexadecimal digits in lower case
abbrev pub two_digits : ℕ → List ℕ
two_digits byte = digit_glyph false (byte / 16) ∷ digit_glyph false (byte % 16) ∷ []

-- the printed numbers of a transfer
abbrev pub transfer_words : ℕ → ℕ → ℕ → List (List ℕ)
transfer_words unit lbn count = decimal unit ∷ decimal lbn ∷ decimal count ∷ []

-- the words of a statement
abbrev pub words_in : Statement → List (List ℕ)
words_in (form.Online unit false) = codes "online" ∷ decimal unit ∷ []
words_in (form.Online unit true) = codes "online" ∷ decimal unit ∷ codes "protect" ∷ []
words_in (form.Available unit) = codes "available" ∷ decimal unit ∷ []
words_in (form.Status unit) = codes "status" ∷ decimal unit ∷ []
words_in (form.Read unit lbn (Blocks count)) = codes "read" ∷ transfer_words unit lbn count
words_in (form.Read unit lbn (Bytes count)) = codes "readb" ∷ transfer_words unit lbn count
words_in (form.Access unit lbn (Blocks count)) = codes "access" ∷ transfer_words unit lbn count
words_in (form.Access unit lbn (Bytes count)) = codes "accessb" ∷ transfer_words unit lbn count
words_in (form.Erase unit lbn (Blocks count)) = codes "erase" ∷ transfer_words unit lbn count
words_in (form.Erase unit lbn (Bytes count)) = codes "eraseb" ∷ transfer_words unit lbn count
words_in (form.Write unit lbn (Blocks count)) = codes "write" ∷ transfer_words unit lbn count
words_in (form.Write unit lbn (Bytes count)) = codes "writeb" ∷ transfer_words unit lbn count
words_in (form.Fill unit lbn count byte) =
    codes "fill" ∷ transfer_words unit lbn count ++ two_digits byte ∷ []

-- the numbers of a transfer of at most `most` blocks or bytes
pub record IsTransfer (most unit lbn count : ℕ) : Type 0 where
  pub unit_fits : unit ≤ 65535
  pub lbn_fits : lbn ≤ most_number
  pub count_fits : count ≤ most

-- the number, in either measure
abbrev pub how_many : Amount → ℕ
how_many (Blocks count) = count
how_many (Bytes count) = count

-- the measure of an amount
abbrev pub measure_in : Amount → Measure
measure_in (Blocks count) = measure.Blocks
measure_in (Bytes count) = measure.Bytes

-- the numbers of a statement are in range
abbrev pub Fits : Statement → Type 0
Fits (form.Online unit protect) = unit ≤ 65535
Fits (form.Available unit) = unit ≤ 65535
Fits (form.Status unit) = unit ≤ 65535
Fits (form.Read unit lbn amount) = IsTransfer most_number unit lbn (how_many amount)
Fits (form.Access unit lbn amount) = IsTransfer most_number unit lbn (how_many amount)
Fits (form.Erase unit lbn amount) = IsTransfer most_number unit lbn (how_many amount)
Fits (form.Write unit lbn amount) = IsTransfer (most_written (measure_in amount)) unit lbn (how_many amount)
Fits (form.Fill unit lbn count byte) = IsTransfer (most_written measure.Blocks) unit lbn count × (byte ≤ 255)

-- the text of a statement: its words, separated by single spaces
abbrev pub statement_text : Statement → List ℕ
statement_text statement = join_with_byte 32 (words_in statement)

-- a line is a statement exactly if it is the statement's text and the numbers are in range
abbrev pub StatementTextIsUnique : Type 0
StatementTextIsUnique = (line : List ℕ) (statement : Statement)
    → (statement_of (words_of line) ≡ Some statement) ↔ (Fits statement × (line ≡ statement_text statement))
