-- Lines and batches of lines of a text that is read from a stream.
use Rattle.std.specs.Prelude.{◌≡◌, ℕ, ◌+◌, Bool, false, if◌then◌else◌, List, [], ◌∷◌, ◌++◌, take, length, ◌≤◌, Option, Some, None, IfSome}
use Rattle.std.specs.Io.KnownBytes.{Consumes, IsAtEnd}
use Rattle.uda_grammar.specs.declared.script.Line.{Line}
use Rattle.uda_grammar.specs.Parts.{IsOneLine, lines_of}
use Rattle.uda_grammar.specs.Reading.{requests_from, fault_from, LeadsTo}
use Rattle.uda_grammar.specs.declared.error.ScriptError.TheVariants.{NoMemory}
use Rattle.uda_script_run.specs.declared.text_error.TextError.{TextError}
use Rattle.uda_script_run.specs.declared.text_error.TextError.TheVariants as error
use Rattle.uda_script_run.specs.declared.source.Next.{Next}
use Rattle.uda_script_run.specs.declared.source.Next.TheVariants.{More, End, Fault}
use Rattle.uda_grammar.specs.declared.part_end.PartEnd.{PartEnd}
use Rattle.uda_grammar.specs.declared.part_end.PartEnd.TheVariants.{Open, LineFeed, Text}

-- the number of bytes of a line that are kept
abbrev pub line_room : ℕ
line_room = 64

-- a line was read, up to its line feed or to the end of the text, and its first bytes are kept
pub record ReadsLine (text text_after : Option (List ℕ)) (kept : List ℕ) (ended : Bool) : Type 0 where
  pub line : List ℕ
  pub one : IsOneLine line
  pub is_kept : kept ≡ take line_room line
  pub consumed : Consumes text text_after (line ++ (if ended then 10 ∷ [] else []))
  pub at_end : ended ≡ false → IsAtEnd text_after

-- the bytes that end a part of a line
abbrev pub part_end : PartEnd → List ℕ
part_end Open = []
part_end LineFeed = 10 ∷ []
part_end Text = []

-- a part of a line was taken, and of what is kept of the line there is more, as much as there is room for
pub record TakesPart (text text_after : Option (List ℕ)) (kept kept_after : List ℕ)
    (end : PartEnd) : Type 0 where
  pub part : List ℕ
  pub one : IsOneLine part
  pub is_kept : length kept ≤ line_room → kept_after ≡ take line_room (kept ++ part)
  pub consumed : Consumes text text_after (part ++ part_end end)
  pub at_end : end ≡ Text → IsAtEnd text_after

-- a position in a text: the number of lines read, and the bytes that are left, if they are known
pub record TextAt : Type 0 where
  pub lines_read : ℕ
  pub left : Option (List ℕ)

abbrev pub text_at : ℕ → Option (List ℕ) → TextAt
text_at lines_read left = record { lines_read = lines_read; left = left }

-- whole lines were read, none of them a fault, and they make these requests
pub record ReadsOn (before after : TextAt) (made : List Line) : Type 0 where
  pub bytes : List ℕ
  pub consumed : Consumes before.left after.left bytes
  pub leads : LeadsTo (before.lines_read + 1) bytes (after.lines_read + 1) made

-- the rest of the text makes these requests, up to its first fault, if it has one
pub record EndsWith (before : TextAt) (made : List Line) (first_fault : Option ℕ) : Type 0 where
  pub rest : List ℕ
  pub is_text : IfSome before.left (λ bytes. rest ≡ bytes)
  pub requests : requests_from (before.lines_read + 1) (lines_of rest) ≡ made
  pub fault : fault_from (before.lines_read + 1) (lines_of rest) ≡ first_fault

-- the lines that were read, by the item that follows them
abbrev pub ReadsBatch : TextAt → TextAt → List Line → Next → Type 0
ReadsBatch before after made More = ReadsOn before after made
ReadsBatch before after made End = EndsWith before made None
ReadsBatch before after made (Fault line expected) = EndsWith before made (Some line)

-- the reason why a text was not read to its end: it can't be read, or memory allocation failed
abbrev pub IsUnreadText : TextError → Type 0
IsUnreadText error.Unreadable = Unit {0}
IsUnreadText (error.Script NoMemory) = Unit {0}
IsUnreadText _ = ⊥
