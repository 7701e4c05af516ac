-- The blocks of a unit whose drive is write-protected.
use Rattle.std.proofs.Common.{◌≡◌, ℕ, Bool, true, false, List, [], ◌∷◌, Option, Some, None, refl, sym, ap, ◌∙◌, subst, inl, inr}
use Rattle.std.specs.Prelude.{◌+◌, ◌%◌, not, length, nat_eq, nat_le, nat_lt, slice_get, if◌then◌else◌}
use Rattle.std.proofs.lemmas.Bool.Decides.{eqb_tells}
use Rattle.std.proofs.lemmas.Option.{slice_get_within}
use Rattle.uda_disk.specs.declared.mode.Mode.{Mode}
use Rattle.uda_disk.specs.declared.refusal.Refusal.{Refusal}
use Rattle.uda_disk.specs.declared.refusal.Refusal.TheVariants.{NotOnline, OddCount, BlockPastEnd, RangePastEnd}
use Rattle.uda_disk.specs.declared.refusal.Refusal.TheVariants.{HardwareProtected, SoftwareProtected}
use Rattle.uda_disk.specs.Disk.{Disk, Disks}
use Rattle.uda_disk.specs.Request.{Act, Available, Status, Online, Access, Erase, Read, Write, Request, extent_of, is_writing, blocks_for}
use Rattle.uda_disk.specs.RequestEffect.{CheckResult, Rejected, Accepted, check_at, check_by, refusal_on, TransferOutcome, Done, mode_after, disk_after, disks_by}
use Rattle.uda_disk.specs.InOrderRun.{FixedRequest, step, step_as, step_of, run_in_order, run_in_order_as, too_long}
use Rattle.uda_disk.specs.Laws.{HasProtected, ProtectedStays, ProtectedStaysWithFailures}
use Rattle.uda_disk.proofs.Callers.{unwritten_stays}
use Rattle.uda_disk.proofs.Slots.{slice_get-set_same, slice_get-set_other}

-- hardware protection stays
hard_stays : (act : Act) (mode : Mode) → mode.hard ≡ true → (mode_after act mode).hard ≡ true
hard_stays Available mode hard = hard
hard_stays Status mode hard = hard
hard_stays (Online protect) mode hard = by mode.online
  where
    by : (b : Bool) → (if b then mode else record mode { online = true; soft = protect }).hard ≡ true
    by true = hard
    by false = hard
hard_stays (Access lbn bytes) mode hard = hard
hard_stays (Erase lbn bytes) mode hard = hard
hard_stays (Read lbn bytes) mode hard = hard
hard_stays (Write lbn payload) mode hard = hard

-- a request that would change blocks is rejected there
barred_by : (online odd past over hard : Bool) (more : Option Refusal) → hard ≡ true
    → (if not online then Some NotOnline else if not odd then Some OddCount else if past then Some BlockPastEnd
    else if over then Some RangePastEnd else if hard then Some HardwareProtected else more) ≡ None → ⊥
barred_by false odd past over hard more protected is = absurd (cc)
barred_by true false past over hard more protected is = absurd (cc)
barred_by true true true over hard more protected is = absurd (cc)
barred_by true true false true hard more protected is = absurd (cc)
barred_by true true false false true more protected is = absurd (cc)
barred_by true true false false false more protected is = absurd (cc)

free_writes_not : (act : Act) (disk : Disk) → disk.mode.hard ≡ true
    → refusal_on (extent_of act) disk.size disk.mode ≡ None → is_writing act ≡ false
free_writes_not Available disk hard none = refl
free_writes_not Status disk hard none = refl
free_writes_not (Online protect) disk hard none = refl
free_writes_not (Access lbn bytes) disk hard none = refl
free_writes_not (Read lbn bytes) disk hard none = refl
free_writes_not (Erase lbn bytes) disk hard none =
    absurd (barred_by disk.mode.online (nat_eq (bytes % 2) 0) (nat_le disk.size lbn)
    (nat_lt disk.size (lbn + blocks_for bytes)) disk.mode.hard
    (if disk.mode.soft then Some SoftwareProtected else None) hard none)
free_writes_not (Write lbn payload) disk hard none =
    absurd (barred_by disk.mode.online (nat_eq (length payload % 2) 0) (nat_le disk.size lbn)
    (nat_lt disk.size (lbn + blocks_for (length payload))) disk.mode.hard
    (if disk.mode.soft then Some SoftwareProtected else None) hard none)

-- what an accepted act leaves
free_keeps : (o : TransferOutcome) (act : Act) (disk other : Disk) (found : Option Refusal)
    → refusal_on (extent_of act) disk.size disk.mode ≡ found → disk.mode.hard ≡ true
    → check_by found disk ≡ Accepted other
    → ((disk_after o act other).blocks ≡ disk.blocks) × ((disk_after o act other).mode.hard ≡ true)
free_keeps o act disk other (Some refusal) found hard free = absurd (cc)
free_keeps o act disk other None found hard free =
    let same : disk ≡ other = cc in
    subst (λ (d : Disk). ((disk_after o act d).blocks ≡ disk.blocks) × ((disk_after o act d).mode.hard ≡ true))
    same (unwritten_stays o act disk (free_writes_not act disk hard found), hard_stays act disk.mode hard)

module _ (u : ℕ) (blocks : List (List ℕ)) where
  served : (o : TransferOutcome) (r : Request) (disks : Disks) (b : CheckResult) → check_at r.act (slice_get disks r.unit) ≡ b
      → HasProtected blocks (slice_get disks u) → HasProtected blocks (slice_get (disks_by o r b disks) u)
  served o r disks (Rejected refusal) is h = h
  served o r disks (Accepted other) is h = elim (eqb_tells u r.unit) [
    | inl both ↦
        let same : u ≡ r.unit = both.1 in
        let here : slice_get disks r.unit ≡ Some (Some h.disk) = sym (ap (slice_get disks) same) ∙ h.here in
        let kept = free_keeps o r.act h.disk other _ refl h.hard (sym (ap (check_at r.act) here) ∙ is) in
        record {
          disk = disk_after o r.act other;
          here = ap (slice_get (disks_by o r (Accepted other) disks)) same
              ∙ slice_get-set_same disks r.unit _ (slice_get_within disks r.unit _ here);
          hard = kept.1;
          blocks_are = kept.0 ∙ h.blocks_are;
        }
    | inr both ↦ subst (HasProtected blocks)
        (sym (slice_get-set_other disks r.unit u (Some (disk_after o r.act other)) both.1)) h
  ]

  stepped : (o : TransferOutcome) (r : Request) (disks : Disks) (long : Bool) → too_long r ≡ long
      → HasProtected blocks (slice_get disks u) → HasProtected blocks (slice_get (step_as o r disks).1 u)
  stepped o r disks true is h = rw is h
  stepped o r disks false is h = rw is (served o r disks _ refl h)

  all_served : (requests : List Request) (disks : Disks) → HasProtected blocks (slice_get disks u)
      → HasProtected blocks (slice_get (run_in_order disks requests).1 u)
  all_served [] disks h = h
  all_served (r ∷ rest) disks h = all_served rest (step r disks).1 (stepped Done r disks _ refl h)

  all_served_as : (xs : List FixedRequest) (disks : Disks) → HasProtected blocks (slice_get disks u)
      → HasProtected blocks (slice_get (run_in_order_as disks xs).1 u)
  all_served_as [] disks h = h
  all_served_as (x ∷ rest) disks h =
      all_served_as rest (step_of x disks).1 (stepped x.outcome x.request disks _ refl h)

pub protected_stays : ProtectedStays
protected_stays requests u blocks disks h = all_served u blocks requests disks h

pub protected_stays_with_failures : ProtectedStaysWithFailures
protected_stays_with_failures xs u blocks disks h = all_served_as u blocks xs disks h
