-- Names without their control characters.
use Rattle.std.specs.Prelude.{ℕ, Bool, if◌then◌else◌, nat_lt, nat_le, ◌&&◌, ◌||◌, List, ◌++◌, codes}
use Rattle.std.specs.Char.{encode_utf8}
use Rattle.uda50_show.specs.Hex.{hex_byte}

-- the control characters of ASCII, and those from 127 to 159
abbrev pub is_control : ℕ → Bool
is_control c = nat_lt c 32 || (nat_le 127 c && nat_le c 159)

-- a character as a name is printed with it: a control character as an escape, any other as it is
abbrev pub escaped_character : ℕ → List ℕ
escaped_character c =
    if is_control c then
    if nat_le c 127 then codes "\\x" ++ hex_byte c
    else codes "\\u{" ++ hex_byte c ++ codes "}"
    else encode_utf8 c
