-- The tokens of packets as text.
use Rattle.std.specs.Prelude.{ℕ, ◌≡◌, ◌<◌, ◌/◌, ◌%◌, List, [], ◌∷◌, length, Option, Some, None, if◌then◌else◌, nat_eq}
use Rattle.std.specs.Str.Parse.{AllDigits, digits_value}
use Rattle.uda50_show.specs.declared.packet.Packet.{Packet}

-- two hexadecimal digits
pub record IsByteToken (token : List ℕ) : Type 0 where
  pub two : length token ≡ 2
  pub hexadecimal : AllDigits 16 token

-- six octal digits of a number below 2^16
pub record IsWordToken (token : List ℕ) : Type 0 where
  pub six : length token ≡ 6
  pub octal : AllDigits 8 token
  pub small : digits_value 8 token < 65536

-- the bytes of a token: one byte, or the low and the high byte of a word
abbrev pub token_bytes : List ℕ → List ℕ
token_bytes token =
    if nat_eq (length token) 2 then digits_value 16 token ∷ []
    else digits_value 8 token % 256 ∷ digits_value 8 token / 256 % 256 ∷ []

-- the bytes of a packet, if one is complete
abbrev pub made_bytes : Option Packet → List ℕ
made_bytes None = []
made_bytes (Some packet) = packet.0
