-- Which requests may be executed out of order, and which may be outstanding together. MSCP Basic Disk
-- Functions Manual: command ordering.
use Rattle.std.specs.Prelude.{◌≡◌, ℕ, zero, suc, ◌+◌, ◌<◌, min, max, Bool, true, false, ◌&&◌, ◌||◌, not}
use Rattle.std.specs.Prelude.{nat_lt, nat_eq, List, [], ◌∷◌, length, AllPairs, Some, slice_get, if◌then◌else◌}
use Rattle.std.specs.List.{list_any}
use Rattle.uda_disk.specs.Disk.{Disks}
use Rattle.uda_disk.specs.Request.{Act, Request, is_moving, is_writing, lbn_of, blocks_named}
use Rattle.uda_disk.specs.Runs.{runs_first}
use Rattle.uda_disk.specs.InOrderRun.{too_long, FixedRequest, requests_of, step_of, run_in_order_as}

-- a request may overtake an older one of another unit, and a transfer may overtake a transfer
abbrev pub may_overtake : Request → Request → Bool
may_overtake older r = not (nat_eq older.unit r.unit) || (is_moving older.act && is_moving r.act)

-- some block lies in both ranges
abbrev pub ranges_overlap : Act → Act → Bool
ranges_overlap a b =
    nat_lt (max (lbn_of a) (lbn_of b)) (min (lbn_of a + blocks_named a) (lbn_of b + blocks_named b))

-- two transfers of one unit conflict if their ranges share a block and one of them is a Write or an Erase
abbrev pub clash : Request → Request → Bool
clash r s =
    is_moving r.act && is_moving s.act && nat_eq r.unit s.unit && (is_writing r.act || is_writing s.act)
    && ranges_overlap r.act s.act

abbrev pub NoClash : Request → Request → Type 0
NoClash r s = clash r s ≡ false

-- the request at index j may be executed next: it may overtake every older one
pub record IsEligibleRequest (requests : List Request) (j : ℕ) : Type 0 where
  pub stands : j < length requests
  pub overtakes_each : (i : ℕ) (older r : Request) → i < j → slice_get requests i ≡ Some older
      → slice_get requests j ≡ Some r → may_overtake older r ≡ true

-- if no two of the requests conflict, any eligible one may be executed first: each request has the same
-- answer, and the disks are the same
abbrev pub RequestOrderIsIrrelevant : Type 0
RequestOrderIsIrrelevant =
    (xs : List FixedRequest) (j : ℕ) (x : FixedRequest) (disks : Disks)
    → AllPairs NoClash (requests_of xs) → IsEligibleRequest (requests_of xs) j → slice_get xs j ≡ Some x
    → runs_first step_of j x xs disks ≡ run_in_order_as disks xs

-- ---- the beginning of a list that can be outstanding together

-- the length of the longest beginning of the requests that aren't too long, at most `free`, of which none
-- conflicts with another or with those in `out`
abbrev pub lead_from : ℕ → List Request → List Request → ℕ
lead_from free out [] = 0
lead_from zero out (r ∷ rest) = 0
lead_from (suc free) out (r ∷ rest) =
    if too_long r then lead_from (suc free) out rest else
    if list_any (clash r) out then 0 else suc (lead_from free (r ∷ out) rest)

-- a driver has at most fifteen commands outstanding
abbrev pub lead : List Request → ℕ
lead requests = lead_from 15 [] requests
