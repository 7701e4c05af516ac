-- The invariant of a run between two steps. `RunInvariant` is the whole of it.
use Rattle.std.specs.Prelude.{◌≡◌, ℕ, ◌+◌, ◌<◌, List, length, map, take, Option}
use Rattle.std.specs.Prelude.{All, AllPairs}
use Rattle.uda_packet.specs.declared.end.End.{End}
use Rattle.uda_disk.specs.Units.{AreWellFormed, Units}
use Rattle.uda_exec.specs.Disks.{PENDING_LIMIT}
use Rattle.uda_disk.specs.Request.{Request}
use Rattle.uda_disk.specs.Answer.{Answer}
use Rattle.uda_disk.specs.InOrderRun.{posted_count}
use Rattle.uda_posting.specs.Posting.{Posted, commands_in}
use Rattle.uda_posting.specs.Outstanding.{Ended, OutstandingInvariant, RefersBack, AreSeparate, outstanding_of}
use Rattle.uda_disk.specs.Values.{request_values, answer_values}
use Rattle.uda_disk.specs.declared.request.Request.{Request as CodeRequest}
use Rattle.uda_disk.specs.declared.answer.Answer.{Answer as CodeAnswer}
use Rattle.uda_host.specs.Host.{HostState, outstanding_count, IsConsistent}
use Rattle.uda_driver.specs.Blank.{AreBlank}
use Rattle.uda_driver.specs.Outstanding.{occupied_count, AreFit, IsOut, HaveOwnPlaces}
use Rattle.uda_driver.specs.Load.{LoadAt}
use Rattle.uda_driver.specs.declared.outstanding.Outstanding.{Outstanding}

-- The outstanding requests are those that are not executed (`due`) and those that have ended, each once.
-- The end messages are queued in the order of execution, and each refers to its request.
pub record BufferTableInvariant (out : List (Option Outstanding)) (due : List Posted) (ended : List Ended)
    (waiting : List End) : Type 0 where
  pub sized : length out ≡ PENDING_LIMIT
  pub counted : occupied_count out ≡ length (outstanding_of ended due)
  pub own_places : HaveOwnPlaces out
  pub are_out : All (IsOut out) (outstanding_of ended due)
  pub separate : AllPairs AreSeparate (outstanding_of ended due)
  pub waits : waiting ≡ map (λ d. d.end) ended
  pub refer : All RefersBack ended

-- Of the first n requests some are not executed (`due`), and some have ended. The answers of all others are
-- written. Those in `due` are pending at the host.
pub record RequestsInvariant (start : Units) (requests : List Request) (n : ℕ) (out : List (Option Outstanding))
    (answers : List Answer) (host : HostState) : Type 0 where
  pub due : List Posted
  pub ended : List Ended
  pub are_unexecuted : host.due ≡ commands_in due
  pub keeps : OutstandingInvariant start requests n due ended answers host.units host.memory
  pub outs : BufferTableInvariant out due ended host.waiting
  pub fit : AreFit n out

-- the host has received an end message, its units are well formed, and its counters are consistent
pub record IsAtWork (host : HostState) : Type 0 where
  pub begun : 0 < host.taken
  pub well_formed : AreWellFormed host.units
  pub consistent : IsConsistent host

-- The first n requests were posted, or are too long. The answers of the others are blank.
pub record RunInvariant (start : HostState) (requests : List CodeRequest) (n : ℕ) (out : List (Option Outstanding))
    (answers : List CodeAnswer) (host : HostState) : Type 0 where
  pub driving : RequestsInvariant start.units (request_values requests) n out (answer_values answers) host
  pub blank : AreBlank (request_values requests) n answers
  pub sized : length answers ≡ length requests
  pub at_work : IsAtWork host
  pub posted : host.taken + outstanding_count host ≡ start.taken + posted_count (take n (request_values requests))
  pub load : LoadAt start (request_values requests) n out host
