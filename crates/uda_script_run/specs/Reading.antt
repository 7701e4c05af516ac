-- Making requests from data that is read, and the errors of it.
use Rattle.std.specs.Prelude.{◌≡◌, ℕ, ◌<◌, List, ◌++◌, length, take, Option, Some, IfSome}
use Rattle.std.specs.Io.KnownBytes.{Consumes}
use Rattle.uda_grammar.specs.declared.error.ScriptError.{ScriptError}
use Rattle.uda_grammar.specs.declared.error.ScriptError.TheVariants.{NoMemory, ShortData, Read}
use Rattle.uda_grammar.specs.declared.script.Line.{Line}
use Rattle.uda_disk.specs.Request.{Request}
use Rattle.uda_script_run.specs.Requests.{bytes_taken, taken, request_made, requests, first_short}

-- `count` bytes were read, and the value of f for them, and for whatever follows them, is `made`
pub record ReadsAs {A : Type 0} (f : List ℕ → A) (count : ℕ) (left left_after : Option (List ℕ))
    (made : A) : Type 0 where
  pub bytes : List ℕ
  pub counted : length bytes ≡ count
  pub consumed : Consumes left left_after bytes
  pub is_made : (later : List ℕ) → f (bytes ++ later) ≡ made

-- these are the `count` bytes that were read
abbrev pub ReadsBytes : ℕ → Option (List ℕ) → Option (List ℕ) → List ℕ → Type 0
ReadsBytes count left left_after bytes = ReadsAs (take count) count left left_after bytes

-- a line's request was made of the data that the line uses
abbrev pub ReadsRequest : Line → Option (List ℕ) → Option (List ℕ) → Request → Type 0
ReadsRequest line left left_after request =
    ReadsAs (request_made line.statement) (bytes_taken line) left left_after request

-- the lines' requests were made of the data that they use
abbrev pub ReadsRequests : List Line → Option (List ℕ) → Option (List ℕ) → List Request → Type 0
ReadsRequests lines left left_after made = ReadsAs (requests lines) (taken lines) left left_after made

-- the reason why `wanted` bytes weren't read for a line: memory allocation failed, a read failed, or the
-- data has fewer bytes
abbrev pub IsUnread : ℕ → Line → Option (List ℕ) → ScriptError → Type 0
IsUnread wanted line left NoMemory = Unit {0}
IsUnread wanted line left Read = Unit {0}
IsUnread wanted line left (ShortData number) =
    (number ≡ line.number) × IfSome left (λ bytes. length bytes < wanted)
IsUnread wanted line left _ = ⊥

-- the reason why the lines' data wasn't read: memory allocation failed, a read failed, or this is the first
-- line whose bytes the data doesn't contain
abbrev pub AreUnread : List Line → Option (List ℕ) → ScriptError → Type 0
AreUnread lines left NoMemory = Unit {0}
AreUnread lines left Read = Unit {0}
AreUnread lines left (ShortData number) =
    IfSome left (λ bytes. first_short lines (length bytes) ≡ Some number)
AreUnread lines left _ = ⊥
