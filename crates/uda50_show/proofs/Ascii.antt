-- Texts of ASCII characters alone.
use Rattle.std.proofs.Common.{ℕ, ◌/◌, ◌%◌, ◌<◌, [], ◌∷◌, arith}
use Rattle.std.specs.Str.{IsAscii}
use Rattle.std.proofs.lemmas.Str.{IsUtf8-from_ascii, IsAscii-append}
use Rattle.std.proofs.lemmas.Str.Ascii.{IsAscii-nil, IsAscii-cons}
use Rattle.uda50_show.specs.Rows.{glyph}
use Rattle.uda50_show.specs.Hex.{hex_byte, hex_word, hex_long}

pub ruleset utf8 = IsUtf8-from_ascii

pub ruleset ascii = (IsAscii-nil, IsAscii-cons, IsAscii-append)

pub glyph_ascii : (d : ℕ) → d < 16 → glyph d < 128
glyph_ascii d less = grind arith

pub byte_ascii : (n : ℕ) → IsAscii (hex_byte n)
byte_ascii n = IsAscii-cons _ (glyph (n % 16) ∷ []) (glyph_ascii (n / 16 % 16) (omega arith))
    (IsAscii-cons _ [] (glyph_ascii (n % 16) (omega arith)) IsAscii-nil)

pub word_ascii : (n : ℕ) → IsAscii (hex_word n)
word_ascii n = IsAscii-append (hex_byte (n / 256)) (hex_byte n) (byte_ascii (n / 256)) (byte_ascii n)

pub long_ascii : (n : ℕ) → IsAscii (hex_long n)
long_ascii n = IsAscii-append (hex_word (n / 65536)) (hex_word n) (word_ascii (n / 65536)) (word_ascii n)
