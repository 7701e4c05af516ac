-- The invariant of requests and disks while commands are outstanding.
use Rattle.std.specs.Prelude.{◌≡◌, ◌≢◌, ℕ, ◌+◌, ◌<◌, ◌≤◌, true, List, ◌++◌, length, map, All, AllPairs, Some}
use Rattle.std.specs.Prelude.{slice_get}
use Rattle.uda_mem.specs.Put.{Overlap}
use Rattle.uda_packet.specs.declared.command.Command.{Command}
use Rattle.uda_packet.specs.declared.end.End.{End}
use Rattle.uda_exec.specs.Commands.{buffer_start, buffer_length}
use Rattle.uda_disk.specs.Disk.{Disks}
use Rattle.uda_disk.specs.Units.{Units, AllFaithful, disks_of, failures_at, unit_attributes, is_infallible}
use Rattle.uda_disk.specs.Units.{AllSound, AreSoundBefore, AreWellFormedIfSound}
use Rattle.uda_disk.specs.Request.{Request}
use Rattle.uda_disk.specs.Answer.{Answer, TooLong}
use Rattle.uda_disk.specs.Order.{NoClash}
use Rattle.uda_disk.specs.InOrderRun.{drive_errors}
use Rattle.uda_posting.specs.Posting.{Posted, posted_command, answer_of, buffer_of, Ready}
use Rattle.uda_posting.specs.UpToData.{outlines, AllTell}
use Rattle.uda_posting.specs.Ledger.{IsToCome, Ledger}

-- ---- memory

-- the size bytes from an address share none with the command's buffer
abbrev pub AvoidsBuffer : ℕ → ℕ → Command → Type 0
AvoidsBuffer at size c = Overlap at size (buffer_start c.op) (buffer_length c.op) → ⊥

-- the buffers of two commands share no byte
abbrev pub BuffersDisjoint : Command → Command → Type 0
BuffersDisjoint c d = AvoidsBuffer (buffer_start c.op) (buffer_length c.op) d

abbrev pub IsReadyIn : List ℕ → Posted → Type 0
IsReadyIn memory p = Ready p memory

-- ---- indexes in the list of requests

abbrev pub IsEarlier : Posted → Posted → Type 0
IsEarlier p q = p.place < q.place

abbrev pub IsNotAt : ℕ → Posted → Type 0
IsNotAt k p = p.place ≢ k

-- one of the first n requests was posted, and its answer is still to come
pub record IsUnexecuted (requests : List Request) (n : ℕ) (told : List Answer) (p : Posted) : Type 0 where
  pub before : p.place < n
  pub to_come : IsToCome requests told p.place p.request

-- Of the first n requests exactly those in `due` have no answer yet, in the order of their indexes. No
-- request from index n has an answer.
pub record AreUnexecuted (requests : List Request) (n : ℕ) (told : List Answer) (due : List Posted) : Type 0 where
  pub each : All (IsUnexecuted requests n told) due
  pub in_order : AllPairs IsEarlier due
  pub no_other : (k : ℕ) (r : Request) → IsToCome requests told k r → All (IsNotAt k) due → n ≤ k
  pub untold : (k : ℕ) → n ≤ k → k < length requests → slice_get told k ≡ Some TooLong

-- two outstanding requests have different indexes and separate buffers, and don't conflict
pub record AreSeparate (p q : Posted) : Type 0 where
  pub two : p.place ≢ q.place
  pub beside : BuffersDisjoint (posted_command p) (posted_command q)
  pub clear : NoClash p.request q.request

-- ---- unexecuted requests

-- a unit whose store never fails has not failed
abbrev pub InfallibleDidNotFail : Units → Units → Type 0
InfallibleDidNotFail units units_after =
    (u : ℕ) → is_infallible (slice_get units u) ≡ true
    → failures_at (slice_get units_after u) ≡ failures_at (slice_get units u)

-- Over faithful or sound stores the run has the answers written so far and the units' disks. Each failure was
-- reported once, and a store that never fails has not failed.
pub record IsExact (start : Units) (requests : List Request) (run : List Answer × Disks) (told : List Answer)
    (units : Units) : Type 0 where
  pub same : run ≡ (told, disks_of units)
  pub errors : (u : ℕ)
      → failures_at (slice_get units u) ≡ failures_at (slice_get start u) + drive_errors u requests told
  pub infallible : InfallibleDidNotFail start units

-- The answers written so far, and the units then. The ledger has a run that matches them up to data: blocks
-- may differ, and so may the answers of transfers that began. Over faithful stores the run is exactly this
-- one. So it is if each store is sound now. A store that is sound now was sound at the start. Units that were well
-- formed if sound still are.
pub record UnexecutedInvariant (start : Units) (requests : List Request) (told : List Answer) (units : Units) : Type 0 where
  pub run : List Answer × Disks
  pub ledger : Ledger (disks_of start) requests run
  pub looks : outlines run ≡ outlines (told, disks_of units)
  pub faithful : AllFaithful start → IsExact start requests run told units
  pub sound_before : AreSoundBefore start units
  pub well_formed_if_sound : AreWellFormedIfSound start → AreWellFormedIfSound units
  pub sound : AllSound units → IsExact start requests run told units
  pub tell : AllTell requests told
  pub counted : length told ≡ length requests
  pub all_attributes : unit_attributes units ≡ unit_attributes start

-- ---- ended commands

-- a command that was executed, and its end message, which the driver has not received yet
pub record Ended : Type 0 where
  pub posted : Posted
  pub end : End

-- the answer by its end message and its buffer
abbrev pub answer_now : List ℕ → Ended → Answer
answer_now memory d = answer_of d.posted.request.act d.end (buffer_of d.posted memory)

abbrev pub Tells : List Answer → List ℕ → Ended → Type 0
Tells told memory d = slice_get told d.posted.place ≡ Some (answer_now memory d)

abbrev pub EndedNotAt : ℕ → Ended → Type 0
EndedNotAt k d = IsNotAt k d.posted

-- the outstanding requests: those that have ended, the next end message first, and those that are not
-- executed
abbrev pub outstanding_of : List Ended → List Posted → List Posted
outstanding_of ended due = map (λ d. d.posted) ended ++ due

-- The first n requests were posted or are too long. Of those that were posted, some are not executed
-- (`due`), and the answers of some are in queued end messages. The driver has written all other answers.
pub record OutstandingInvariant (start : Units) (requests : List Request) (n : ℕ) (due : List Posted) (ended : List Ended)
    (answers : List Answer) (units : Units) (memory : List ℕ) : Type 0 where
  pub told : List Answer
  pub owes : UnexecutedInvariant start requests told units
  pub ready : All (IsReadyIn memory) due
  pub are_unexecuted : AreUnexecuted requests n told due
  pub tell : All (Tells told memory) ended
  pub shown : (k : ℕ) → k < n → All (IsNotAt k) due → All (EndedNotAt k) ended
      → slice_get answers k ≡ slice_get told k

-- the end message refers to the request by its index plus 1
abbrev pub RefersBack : Ended → Type 0
RefersBack d = d.end.reference ≡ d.posted.place + 1
