-- The requests of a list executed in order, as a driver receives them. MSCP Basic Disk Functions Manual:
-- the commands.
use Rattle.std.specs.Prelude.{◌≡◌, ℕ, ◌+◌, ◌&&◌, not, Bool, false, nat_lt, nat_eq, List, [], ◌∷◌, map, All}
use Rattle.std.specs.Prelude.{if◌then◌else◌}
use Rattle.std.specs.List.{count_by}
use Rattle.std.specs.Option.{option_map_or}
use Rattle.uda_disk.specs.Status.{DRIVE_ERROR}
use Rattle.uda_disk.specs.Disk.{Disks}
use Rattle.uda_disk.specs.Request.{Act, Read, Write, Request, extent_of, blocks_named}
use Rattle.uda_disk.specs.Answer.{Answer, TooLong, status_of}
use Rattle.uda_disk.specs.RequestEffect.{TransferOutcome, Done, IsWithinRange, serve_as}
use Rattle.uda_disk.specs.Runs.{runs}

-- the most bytes of one Read or Write, and the largest value of a byte count
abbrev pub transfer_limit : ℕ
transfer_limit = 16384

abbrev pub byte_count_limit : ℕ
byte_count_limit = 4294967295

abbrev pub limit_of : Act → ℕ
limit_of (Read lbn bytes) = transfer_limit
limit_of (Write lbn payload) = transfer_limit
limit_of _ = byte_count_limit

-- a request of more bytes is never posted
abbrev pub too_long : Request → Bool
too_long r = option_map_or (λ e. nat_lt (limit_of r.act) e.bytes) (extent_of r.act) false

abbrev pub is_short : Request → Bool
is_short r = not (too_long r)

abbrev pub posted_count : List Request → ℕ
posted_count requests = count_by is_short requests

-- ---- no transfer fails

abbrev pub step_as : TransferOutcome → Request → Disks → Answer × Disks
step_as outcome r disks = if too_long r then (TooLong, disks) else serve_as outcome r disks

abbrev pub step : Request → Disks → Answer × Disks
step r disks = step_as Done r disks

-- the requests executed from the first to the last
abbrev pub run_in_order : Disks → List Request → List Answer × Disks
run_in_order disks requests = runs step requests disks

-- ---- transfers may fail

-- a request with a given outcome
pub record FixedRequest : Type 0 where
  pub request : Request
  pub outcome : TransferOutcome

abbrev pub requests_of : List FixedRequest → List Request
requests_of xs = map (λ x. x.request) xs

abbrev pub step_of : FixedRequest → Disks → Answer × Disks
step_of x disks = step_as x.outcome x.request disks

abbrev pub run_in_order_as : Disks → List FixedRequest → List Answer × Disks
run_in_order_as disks xs = runs step_of xs disks

abbrev pub FitsRequest : FixedRequest → Type 0
FitsRequest x = IsWithinRange (blocks_named x.request.act) x.outcome

-- an in-order run in which transfers may fail: some outcomes that fit give these answers and leave these
-- disks
pub record InOrderWithFailures (disks : Disks) (requests : List Request) (answers : List Answer) (left : Disks)
    : Type 0 where
  pub fixed : List FixedRequest
  pub are_requests : requests_of fixed ≡ requests
  pub fit : All FitsRequest fixed
  pub gives : run_in_order_as disks fixed ≡ (answers, left)

-- the number of requests of a unit whose answer is a drive error
abbrev pub tells_error : ℕ → Request → Answer → ℕ
tells_error unit r answer = if nat_eq r.unit unit && nat_eq (status_of answer) DRIVE_ERROR then 1 else 0

abbrev pub drive_errors : ℕ → List Request → List Answer → ℕ
drive_errors unit [] answers = 0
drive_errors unit (r ∷ rest) [] = 0
drive_errors unit (r ∷ rest) (answer ∷ later) = tells_error unit r answer + drive_errors unit rest later

-- each failure is reported: if no answer of an in-order run with failures has a drive error, it is the
-- in-order run
abbrev pub EachFailureIsReported : Type 0
EachFailureIsReported =
    (start : Disks) (requests : List Request) (answers : List Answer) (left : Disks)
    → InOrderWithFailures start requests answers left → ((u : ℕ) → drive_errors u requests answers ≡ 0)
    → (answers, left) ≡ run_in_order start requests
