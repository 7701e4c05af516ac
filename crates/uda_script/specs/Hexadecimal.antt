-- The printed form of bytes: 16 a line, each as two lower-case hexadecimal digits, separated by single
-- spaces.
use Rattle.std.specs.Prelude.{ℕ, suc, ◌+◌, ◌/◌, ◌%◌, nat_lt, nat_eq, List, [], ◌∷◌, ◌++◌, if◌then◌else◌}

-- the character of a digit: 0 to 9, then a to f
abbrev pub hexadecimal_digit : ℕ → ℕ
hexadecimal_digit n = if nat_lt n 10 then 48 + n else 87 + n

-- the byte at an index: its two digits, and a line feed or a space
abbrev pub byte_text_at : ℕ → ℕ → List ℕ
byte_text_at place byte = hexadecimal_digit (byte / 16) ∷ hexadecimal_digit (byte % 16) ∷ (if nat_eq (place % 16) 15 then 10 else 32) ∷ []

-- the bytes from an index
abbrev pub byte_texts_from : ℕ → List ℕ → List ℕ
byte_texts_from place [] = []
byte_texts_from place (byte ∷ rest) = byte_text_at place byte ++ byte_texts_from (suc place) rest
