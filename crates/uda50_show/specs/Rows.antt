-- The printed rows of a dump.
use Rattle.std.specs.Prelude.{ℕ, ◌/◌, ◌%◌, false, if◌then◌else◌, nat_lt, nat_le, ◌&&◌, List, [], ◌∷◌, ◌++◌, map, codes}
use Rattle.std.specs.List.{flat_map}
use Rattle.std.specs.Fmt.{digit_glyph, digits}
use Rattle.uda50_show.specs.Block.{words}

-- a digit below 16
abbrev pub glyph : ℕ → ℕ
glyph d = digit_glyph false d

-- the byte of a printable ASCII character, or a point
abbrev pub printable : ℕ → ℕ
printable byte = if nat_le 32 byte && nat_le byte 126 then byte else 46

-- the high hexadecimal digit of a byte
abbrev pub high_glyph : ℕ → ℕ
high_glyph byte = glyph (byte / 16)

-- the low hexadecimal digit of a byte
abbrev pub low_glyph : ℕ → ℕ
low_glyph byte = glyph (byte % 16)

-- the octal digit of a word in the place of a power of eight
abbrev pub octal_glyph : ℕ → ℕ → ℕ
octal_glyph power word = glyph (word / power % 8)

-- a space and the two hexadecimal digits of a byte
abbrev pub hex_cell : ℕ → List ℕ
hex_cell byte = 32 ∷ high_glyph byte ∷ low_glyph byte ∷ []

-- a space and the six octal digits of a word
abbrev pub octal_cell : ℕ → List ℕ
octal_cell word =
    32 ∷ octal_glyph 32768 word ∷ octal_glyph 4096 word ∷ octal_glyph 512 word ∷ octal_glyph 64 word
    ∷ octal_glyph 8 word ∷ octal_glyph 1 word ∷ []

-- the high digits of bytes, and the low ones
abbrev pub hex_columns : List ℕ → List (List ℕ)
hex_columns bytes = map high_glyph bytes ∷ map low_glyph bytes ∷ []

-- the first octal digits of words, the second ones, and so on
abbrev pub octal_columns : List ℕ → List (List ℕ)
octal_columns words =
    map (octal_glyph 32768) words ∷ map (octal_glyph 4096) words ∷ map (octal_glyph 512) words
    ∷ map (octal_glyph 64) words ∷ map (octal_glyph 8) words ∷ map (octal_glyph 1) words ∷ []

-- the low byte of a number
abbrev pub low_byte : ℕ → ℕ
low_byte n = n % 256

-- the printed bytes between bars, after two spaces
abbrev pub row_text : List ℕ → List ℕ
row_text bytes = codes "  |" ++ map printable bytes ++ codes "|"

-- an offset in hexadecimal, of three digits at least, and a space
abbrev pub hex_offset : ℕ → List ℕ
hex_offset n =
    if nat_lt n 4096 then glyph (n / 256) ∷ glyph (n / 16 % 16) ∷ glyph (n % 16) ∷ 32 ∷ []
    else digits 16 false n ++ codes " "

-- an offset in octal, of three digits at least, and a space
abbrev pub octal_offset : ℕ → List ℕ
octal_offset n =
    if nat_lt n 512 then glyph (n / 64) ∷ glyph (n / 8 % 8) ∷ glyph (n % 8) ∷ 32 ∷ []
    else digits 8 false n ++ codes " "

-- the text of sixteen bytes in hexadecimal
abbrev pub hex_row : ℕ → List ℕ → List ℕ
hex_row offset bytes = hex_offset offset ++ flat_map hex_cell bytes ++ row_text bytes

-- the text of sixteen bytes as eight words in octal
abbrev pub octal_row : ℕ → List ℕ → List ℕ
octal_row offset bytes =
    octal_offset offset ++ flat_map octal_cell (words 8 bytes) ++ row_text bytes
