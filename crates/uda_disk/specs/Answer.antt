-- The answer to a request. MSCP Basic Disk Functions Manual: end messages.
use Rattle.std.specs.Prelude.{ℕ, List, []}
use Rattle.uda_disk.specs.Request as ask
use Rattle.uda_disk.specs.Request.{Act}

-- a request that a driver never posts has the answer TooLong
pub data Answer : Type 0 where
  TooLong : Answer
  Plain : (status : ℕ) → Answer
  Online : (status flags size : ℕ) → Answer
  Status : (status flags : ℕ) → Answer
  Moved : (status bytes : ℕ) → Answer
  Data : (status : ℕ) (bytes : List ℕ) → Answer

-- the answer of an act's form with this status: all other numbers are 0, and there are no bytes
abbrev pub blank_answer : Act → ℕ → Answer
blank_answer (ask.Online protect) status = Online status 0 0
blank_answer ask.Available status = Plain status
blank_answer ask.Status status = Status status 0
blank_answer (ask.Read first bytes) status = Data status []
blank_answer _ status = Moved status 0

-- the status of an answer; TooLong has none
abbrev pub status_of : Answer → ℕ
status_of TooLong = 0
status_of (Plain status) = status
status_of (Online status flags size) = status
status_of (Status status flags) = status
status_of (Moved status bytes) = status
status_of (Data status bytes) = status
