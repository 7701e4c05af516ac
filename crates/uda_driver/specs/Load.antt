-- The lower bound of the load that a run adds: the first requests that can be outstanding together are
-- outstanding before one of them is executed.
use Rattle.std.specs.Prelude.{◌≡◌, ℕ, zero, suc, ◌+◌, ◌-◌, ◌≤◌, List, Option, length, take, drop}
use Rattle.std.specs.List.{list_any}
use Rattle.uda_disk.specs.Request.{Request}
use Rattle.uda_disk.specs.Order.{clash, lead, lead_from}
use Rattle.uda_disk.specs.InOrderRun.{posted_count}
use Rattle.uda_host.specs.Host.{HostState}
use Rattle.uda_driver.specs.Outstanding.{clashes_with_any}
use Rattle.uda_driver.specs.declared.outstanding.Outstanding.{Outstanding}

-- 1 + 2 + .. + n
abbrev pub triangle : ℕ → ℕ
triangle zero = 0
triangle (suc n) = suc n + triangle n

-- nothing is executed yet, and the longest lead continues with the following requests
pub record InLead (start : HostState) (requests : List Request) (n : ℕ) (out : List (Option Outstanding))
    (host : HostState) : Type 0 where
  pub seen : List Request
  pub clash_alike : (r : Request) → list_any (clash r) seen ≡ clashes_with_any r out
  pub ahead : lead requests ≡ length host.due + lead_from host.credits seen (drop n requests)
  pub all_due : length host.due ≡ posted_count (take n requests)
  pub load_is : host.load ≡ start.load

-- the lead has ended among the first n requests. Once those in `due` are executed, the lead has added at
-- least 1 + 2 + .. + lead to the load, and each later request at least one
pub record LeadOver (start : HostState) (requests : List Request) (n : ℕ) (host : HostState) : Type 0 where
  pub within : lead requests ≤ posted_count (take n requests)
  pub load :
      start.load + triangle (lead requests) + (posted_count (take n requests) - lead requests)
      ≤ host.load + triangle (length host.due)

pub data LoadAt (start : HostState) (requests : List Request) (n : ℕ) (out : List (Option Outstanding))
    (host : HostState) : Type 0 where
  GoesOn : InLead start requests n out host → LoadAt start requests n out host
  IsOver : LeadOver start requests n host → LoadAt start requests n out host
