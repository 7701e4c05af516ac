-- The form in which the parser reads the lines of a script: without blanks at both ends, with one blank
-- between words, and with no carriage return at the end.
use Rattle.std.specs.Prelude.{ℕ, ◌==◌, ◌||◌, ◌&&◌, nat_lt, Bool, not, if◌then◌else◌, List, [], ◌∷◌, ◌++◌}
use Rattle.uda50_script_text.specs.declared.blanks.Blanks.{Blanks}
use Rattle.uda50_script_text.specs.declared.blanks.Blanks.TheVariants.{Indent, Word, Gap}
use Rattle.uda50_script_text.specs.declared.blanks.Blanks.TheVariants.{Return, GapAndReturn}

-- a blank or a tab
abbrev pub is_blank : ℕ → Bool
is_blank byte = byte == 32 || byte == 9

-- all bytes but blanks, tabs and carriage returns are passed on at once
abbrev pub is_passed : ℕ → Bool
is_passed byte = not (is_blank byte || byte == 13)

-- what is passed on of the blanks if the line goes on with a word
abbrev pub held_back : Blanks → List ℕ
held_back Indent = []
held_back Word = []
held_back Gap = 32 ∷ []
held_back Return = 13 ∷ []
held_back GapAndReturn = 32 ∷ 13 ∷ []

-- what is passed on of them before this byte: nothing at the end of the line. Before more blanks a carriage
-- return is passed on, since it is not at the end.
abbrev pub released : Blanks → ℕ → List ℕ
released Gap byte = if byte == 10 || (is_blank byte || byte == 13) then [] else held_back Gap
released blanks byte = if byte == 10 then [] else held_back blanks

-- what is passed on when this byte is read
abbrev pub passed : Blanks → ℕ → List ℕ
passed blanks byte = released blanks byte ++ (if is_passed byte then byte ∷ [] else [])

-- blanks after blanks
abbrev pub after_blank : Blanks → Blanks
after_blank Indent = Indent
after_blank _ = Gap

-- a carriage return after blanks
abbrev pub after_return : Blanks → Blanks
after_return Gap = GapAndReturn
after_return _ = Return

-- what is held back after this byte
abbrev pub next : Blanks → ℕ → Blanks
next blanks byte =
    if byte == 10 then Indent
    else if is_blank byte then after_blank blanks
    else if byte == 13 then after_return blanks
    else Word

-- the form of a text
abbrev pub squeezed : Blanks → List ℕ → List ℕ
squeezed blanks [] = []
squeezed blanks (byte ∷ bytes) = passed blanks byte ++ squeezed (next blanks byte) bytes

-- what is held back at the end of a text
abbrev pub blanks_after : Blanks → List ℕ → Blanks
blanks_after blanks [] = blanks
blanks_after blanks (byte ∷ bytes) = blanks_after (next blanks byte) bytes

-- what is passed on of a text after a word, and then what is held back at its end
abbrev pub passed_or_held : List ℕ → List ℕ
passed_or_held bytes = squeezed Word bytes ++ held_back (blanks_after Word bytes)

-- a byte of a word, a blank after a word, or a line feed after anything but a blank
abbrev pub is_plain_after : ℕ → ℕ → Bool
is_plain_after before byte =
    nat_lt 32 byte || ((byte == 32 && nat_lt 32 before) || (byte == 10 && not (before == 32)))
