-- The promises of a driver for a run of requests.
use Rattle.std.specs.Prelude.{◌≡◌, ℕ, ◌+◌, ◌-◌, ◌*◌, ◌/◌, ◌≤◌, Bool, nat_eq, List, length, Some, slice_get}
use Rattle.std.specs.List.{list_any}
use Rattle.uda_disk.specs.Status.{DRIVE_ERROR}
use Rattle.uda_disk.specs.Units.{Units, disks_of, failures_at}
use Rattle.uda_host.specs.Host.{HostState}
use Rattle.uda_disk.specs.Request.{Request}
use Rattle.uda_disk.specs.Answer.{Answer, status_of}
use Rattle.uda_disk.specs.Form.{IsAnswerOf}
use Rattle.uda_disk.specs.InOrderRun.{run_in_order, InOrderWithFailures, drive_errors, posted_count}
use Rattle.uda_disk.specs.Order.{lead}
pub use Rattle.uda_posting.specs.Outstanding.{InfallibleDidNotFail}
pub use Rattle.uda_posting.specs.UpToData.{MatchesUpToData}

-- the state of a driver is that of its host, whose units are its own
abbrev pub DriverState : Type 0
DriverState = HostState

abbrev pub units_of : DriverState → Units
units_of driver = driver.units

-- answers and disks are those of the in-order run: one array of blocks for each unit, and one request at a
-- time
abbrev pub IsInOrderRun : Units → List Request → List Answer → Units → Type 0
IsInOrderRun units requests answers units_after =
    (answers, disks_of units_after) ≡ run_in_order (disks_of units) requests

-- no store failed
abbrev pub NoStoreFailed : Units → Units → Type 0
NoStoreFailed units units_after =
    (u : ℕ) → failures_at (slice_get units_after u) ≡ failures_at (slice_get units u)

-- an answer has the status drive error, since a store failed; one of these answers has it
abbrev pub is_drive_error : Answer → Bool
is_drive_error answer = nat_eq (status_of answer) DRIVE_ERROR

abbrev pub any_drive_error : List Answer → Bool
any_drive_error answers = list_any is_drive_error answers

-- answers and disks are those of an in-order run in which transfers may fail. Exactly one answer reports
-- each failure of a store. The stores that never fail have not failed
pub record ReportsEveryFailure (units : Units) (requests : List Request) (answers : List Answer)
    (units_after : Units) : Type 0 where
  pub run : InOrderWithFailures (disks_of units) requests answers (disks_of units_after)
  pub told :
      (u : ℕ)
      → failures_at (slice_get units_after u)
      ≡ failures_at (slice_get units u) + drive_errors u requests answers
  pub infallible : InfallibleDidNotFail units units_after

-- the most requests of one run
abbrev pub request_limit : ℕ
request_limit = 4096

-- one answer for each request, of its request's form: TooLong exactly if the request is too long
pub record AreAnswersOf (requests : List Request) (answers : List Answer) : Type 0 where
  pub counted : length answers ≡ length requests
  pub formed :
      (k : ℕ) (r : Request) (answer : Answer)
      → slice_get requests k ≡ Some r → slice_get answers k ≡ Some answer → IsAnswerOf r answer

-- the least load of this many posted requests, of which the first ones can be outstanding together
abbrev pub minimum_load : ℕ → ℕ → ℕ
minimum_load first posted = first * (first + 1) / 2 + (posted - first)

-- three turns of the port for each posted request, among them one fetch and one delivery
pub record HasTurnCounts (requests : List Request) (host host_after : DriverState) : Type 0 where
  pub turns : host_after.turns ≡ host.turns + 3 * posted_count requests
  pub fetches : host_after.fetches ≡ host.fetches + posted_count requests
  pub deliveries : host_after.taken ≡ host.taken + posted_count requests
  pub load : host.load + minimum_load (lead requests) (posted_count requests) ≤ host_after.load
