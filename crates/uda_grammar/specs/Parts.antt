-- Division of a text at each occurrence of one byte.
use Rattle.std.specs.Prelude.{◌≡◌, ℕ, false, ◌==◌, List, [], Option, Some, None}
use Rattle.std.specs.List.{All, slice_split}

-- the parts between the occurrences of this byte: one more than there are occurrences, and some may be
-- empty
abbrev pub parts : ℕ → List ℕ → List (List ℕ)
parts separator text = slice_split (λ byte. byte == separator) text

-- the parts after such an occurrence, or none if there is none
abbrev pub parts_behind : ℕ → Option (List ℕ) → List (List ℕ)
parts_behind separator None = []
parts_behind separator (Some rest) = parts separator rest

-- a line's words, separated by single spaces
abbrev pub words_of : List ℕ → List (List ℕ)
words_of line = parts 32 line

-- A text's lines, each ended by a line feed. The bytes after the last line feed are a line too. It makes no
-- request if it is empty.
abbrev pub lines_of : List ℕ → List (List ℕ)
lines_of text = parts 10 text

-- a text without a line feed
abbrev pub IsOneLine : List ℕ → Type 0
IsOneLine text = All (λ byte. (byte == 10) ≡ false) text
