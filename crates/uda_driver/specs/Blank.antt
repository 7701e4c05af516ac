-- The answers before their requests are posted.
use Rattle.std.specs.Prelude.{◌≡◌, ℕ, ◌≤◌, true, false, List, slice_get, vec_capacity, Some}
use Rattle.uda_disk.specs.Request as ask
use Rattle.uda_disk.specs.Request.{Act, Request}
use Rattle.uda_disk.specs.InOrderRun.{too_long}
use Rattle.uda_disk.specs.declared.answer.Answer.{Answer}
use Rattle.uda_disk.specs.declared.answer.Answer.TheVariants as answer

-- an answer with capacity for the bytes that a Read returns
abbrev pub AnswerHasRoom : Act → Answer → Type 0
AnswerHasRoom (ask.Read lbn bytes) (answer.Data status held) = bytes ≤ vec_capacity held
AnswerHasRoom (ask.Read lbn bytes) blank = ⊥
AnswerHasRoom act blank = Unit {0}

abbrev pub Prepared : Request → Answer → Type 0
Prepared r blank = AnswerHasRoom r.act blank

-- the answer before a request is posted
pub record IsBlank (r : Request) (blank : Answer) : Type 0 where
  pub long : too_long r ≡ true → blank ≡ answer.TooLong
  pub room : too_long r ≡ false → Prepared r blank

-- the answers from index n are blank
abbrev pub AreBlank : List Request → ℕ → List Answer → Type 0
AreBlank requests n answers =
    (k : ℕ) (r : Request) (blank : Answer)
    → n ≤ k → slice_get requests k ≡ Some r → slice_get answers k ≡ Some blank → IsBlank r blank
