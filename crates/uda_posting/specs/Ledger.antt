-- The effect on answers and disks of executing requests out of order.
use Rattle.std.specs.Prelude.{◌≡◌, ℕ, ◌<◌, Bool, true, false, List, [], ◌∷◌, map, All, if◌then◌else◌}
use Rattle.std.specs.Prelude.{Some, slice_get, slice_set}
use Rattle.uda_disk.specs.Disk.{Disks}
use Rattle.uda_disk.specs.Request.{Request}
use Rattle.uda_disk.specs.Answer.{Answer, TooLong}
use Rattle.uda_disk.specs.InOrderRun.{too_long, FixedRequest, requests_of, FitsRequest, step_of, InOrderWithFailures}
use Rattle.uda_disk.specs.Order.{NoClash, may_overtake}

-- TooLong marks an answer that is still to come. It is also the answer of a request that is too long.
abbrev pub is_to_come : Answer → Bool
is_to_come TooLong = true
is_to_come _ = false

abbrev pub untold : List Request → List Answer
untold requests = map (λ _. TooLong) requests

-- the requests whose answers are still to come are executed in their order, from these disks
abbrev pub finish : List FixedRequest → List Answer → Disks → List Answer × Disks
finish [] told disks = (told, disks)
finish (x ∷ rest) [] disks = ([], disks)
finish (x ∷ rest) (answer ∷ told) disks =
    let now = (if is_to_come answer then step_of x disks else (answer, disks)) in
    let later = finish rest told now.1 in (now.0 ∷ later.0, later.1)

-- Executing the requests whose answers are still to come, in their order from the current disks, completes
-- an in-order run of all requests from the start. It holds for all outcomes of those requests.
abbrev pub Ledger : Disks → List Request → List Answer × Disks → Type 0
Ledger start requests now =
    (fixed : List FixedRequest) → requests_of fixed ≡ requests → All FitsRequest fixed
    → InOrderWithFailures start requests (finish fixed now.0 now.1).0 (finish fixed now.0 now.1).1

-- ---- its steps

-- at first no answer is written
abbrev pub Opens : Type 0
Opens = (start : Disks) (requests : List Request) → Ledger start requests (untold requests, start)

-- a request may be executed before an older one: it may overtake it, and they don't conflict
pub record MayExecuteBefore (older r : Request) : Type 0 where
  pub may_overtake : may_overtake older r ≡ true
  pub clear : NoClash older r

-- the request at index k is executed, and its answer written
abbrev pub told_by : ℕ → FixedRequest → List Answer × Disks → List Answer × Disks
told_by k x w = let now = step_of x w.1 in (slice_set w.0 k now.0, now.1)

-- r is the request at index k, and its answer is still to come
pub record IsToCome (requests : List Request) (told : List Answer) (k : ℕ) (r : Request) : Type 0 where
  pub stands : slice_get requests k ≡ Some r
  pub short : too_long r ≡ false
  pub untold : slice_get told k ≡ Some TooLong

abbrev pub NoneToCome : List Request → List Answer → Type 0
NoneToCome requests told = (k : ℕ) (r : Request) → IsToCome requests told k r → ⊥

-- a request is executed that may be executed before each older one whose answer is still to come
abbrev pub CarriesOut : Type 0
CarriesOut =
    (start : Disks) (requests : List Request) (now : List Answer × Disks) (k : ℕ) (x : FixedRequest)
    → IsToCome requests now.0 k x.request
    → ((i : ℕ) (older : Request) → i < k → IsToCome requests now.0 i older → MayExecuteBefore older x.request)
    → FitsRequest x → Ledger start requests now → Ledger start requests (told_by k x now)

-- at the end only requests that are too long are left
abbrev pub Closes : Type 0
Closes =
    (start : Disks) (requests : List Request) (now : List Answer × Disks)
    → NoneToCome requests now.0 → Ledger start requests now
    → InOrderWithFailures start requests now.0 now.1
