-- Byte order marks.
use Rattle.std.specs.Prelude.{ℕ, ◌==◌, ◌&&◌, ◌||◌, if◌then◌else◌, List, [], ◌∷◌, Option, Some, None}
use Rattle.uda50_script_text.specs.declared.mistake.ByteOrderMark.{ByteOrderMark}
use Rattle.uda50_script_text.specs.declared.mistake.ByteOrderMark.TheVariants.{Utf8, Utf16}

-- the mark of UTF-16 in either order of its bytes
abbrev pub utf16_mark : ℕ → ℕ → Option ByteOrderMark
utf16_mark a b = if (a == 255 && b == 254) || (a == 254 && b == 255) then Some Utf16 else None

-- the mark of UTF-8, or else that of UTF-16
abbrev pub longer_mark : ℕ → ℕ → List ℕ → Option ByteOrderMark
longer_mark a b [] = utf16_mark a b
longer_mark a b (c ∷ _) = if a == 239 && (b == 187 && c == 191) then Some Utf8 else utf16_mark a b

-- the byte order mark with which a text begins
abbrev pub byte_order_mark : List ℕ → Option ByteOrderMark
byte_order_mark (a ∷ b ∷ rest) = longer_mark a b rest
byte_order_mark _ = None
