-- The form of an answer, which depends on its request and not on the stores. MSCP Basic Disk Functions
-- Manual: end messages.
use Rattle.std.specs.Prelude.{◌≡◌, true, false}
use Rattle.uda_disk.specs.Request.{Request}
use Rattle.uda_disk.specs.Answer.{Answer, TooLong, Plain, Online, Status, Moved, Data, blank_answer}
use Rattle.uda_disk.specs.InOrderRun.{too_long}

-- two answers of the same form
abbrev pub SameForm : Answer → Answer → Type 0
SameForm TooLong TooLong = Unit {0}
SameForm (Plain s) (Plain status) = Unit {0}
SameForm (Online s f n) (Online status flags size) = Unit {0}
SameForm (Status s f) (Status status flags) = Unit {0}
SameForm (Moved s b) (Moved status bytes) = Unit {0}
SameForm (Data s b) (Data status bytes) = Unit {0}
SameForm _ _ = ⊥

-- TooLong exactly if the request is too long; otherwise of the request's form, rejected or not
pub record IsAnswerOf (r : Request) (answer : Answer) : Type 0 where
  pub long : too_long r ≡ true → answer ≡ TooLong
  pub short : too_long r ≡ false → SameForm (blank_answer r.act 0) answer
