-- Numbers in hexadecimal, with zeros before them.
use Rattle.std.specs.Prelude.{ℕ, ◌/◌, ◌%◌, List, [], ◌∷◌, ◌++◌}
use Rattle.uda50_show.specs.Rows.{glyph}

-- the two digits of a byte
abbrev pub hex_byte : ℕ → List ℕ
hex_byte byte = glyph (byte / 16 % 16) ∷ glyph (byte % 16) ∷ []

-- the four digits of a word
abbrev pub hex_word : ℕ → List ℕ
hex_word word = hex_byte (word / 256) ++ hex_byte word

-- the eight digits of a long word
abbrev pub hex_long : ℕ → List ℕ
hex_long long = hex_word (long / 65536) ++ hex_word long
