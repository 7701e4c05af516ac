-- The meaning of one word of a line.
use Rattle.std.specs.Prelude.{ℕ, ◌+◌, ◌-◌, ◌*◌, Bool, false, not, ◌&&◌, ◌==◌, nat_le, List, [], ◌∷◌, codes}
use Rattle.std.specs.Prelude.{Option, Some, None, if◌then◌else◌}
use Rattle.std.specs.Char.{is_ascii_digit}
use Rattle.std.specs.List.{fold, list_all, position}
use Rattle.std.specs.Option.{option_map, option_and_then}
use Rattle.std.specs.Str.{bytes_eq}
use Rattle.uda_grammar.specs.declared.verb.Verb.{Verb}
use Rattle.uda_grammar.specs.declared.verb.Verb.TheVariants as verb
use Rattle.uda_grammar.specs.declared.statement.Measure.TheVariants.{Blocks, Bytes}

-- the request of a line's first word
abbrev pub verb_of : List ℕ → Option Verb
verb_of word =
    if bytes_eq word (codes "online") then Some verb.Online else
    if bytes_eq word (codes "available") then Some verb.Available else
    if bytes_eq word (codes "status") then Some verb.Status else
    if bytes_eq word (codes "read") then Some (verb.Read Blocks) else
    if bytes_eq word (codes "readb") then Some (verb.Read Bytes) else
    if bytes_eq word (codes "access") then Some (verb.Access Blocks) else
    if bytes_eq word (codes "accessb") then Some (verb.Access Bytes) else
    if bytes_eq word (codes "erase") then Some (verb.Erase Blocks) else
    if bytes_eq word (codes "eraseb") then Some (verb.Erase Bytes) else
    if bytes_eq word (codes "write") then Some (verb.Write Blocks) else
    if bytes_eq word (codes "writeb") then Some (verb.Write Bytes) else
    if bytes_eq word (codes "fill") then Some verb.Fill else None

-- a decimal number: digits, of which the first is not zero if there are more
abbrev pub is_decimal : List ℕ → Bool
is_decimal [] = false
is_decimal (digit ∷ []) = is_ascii_digit digit
is_decimal (digit ∷ next ∷ rest) =
    not (digit == 48) && list_all is_ascii_digit (digit ∷ next ∷ rest)

-- the number of these digits, if they follow those of `value`
abbrev pub value_behind : ℕ → List ℕ → ℕ
value_behind value digits = fold (λ before digit. 10 * before + (digit - 48)) value digits

-- the number of a word, if it is at most `most`
abbrev pub number_of : ℕ → List ℕ → Option ℕ
number_of most word =
    if is_decimal word && nat_le (value_behind 0 word) most then Some (value_behind 0 word)
    else None

-- the largest number of 32 bits
abbrev pub most_number : ℕ
most_number = 4294967295

-- a unit's number, of 16 bits
abbrev pub unit_named : List ℕ → Option ℕ
unit_named word = number_of 65535 word

-- the value of a hexadecimal digit is its index among the digits; upper case has none
abbrev pub nibble_of : ℕ → Option ℕ
nibble_of digit = position (λ d. d == digit) (codes "0123456789abcdef")

-- two hexadecimal digits
abbrev pub byte_of : List ℕ → Option ℕ
byte_of (high ∷ low ∷ []) =
    option_and_then (λ h. option_map (λ l. 16 * h + l) (nibble_of low)) (nibble_of high)
byte_of _ = None
