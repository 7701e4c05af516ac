-- The steps of the ledger.
use Rattle.std.proofs.Common.{◌≡◌, ℕ, zero, suc, ◌<◌, Bool, true, false, List, [], ◌∷◌, length, map, set, Some, refl, sym, ap, ◌∙◌, arith, subst}
use Rattle.std.specs.Prelude.{slice_get}
use Rattle.std.proofs.lemmas.List.{length-map, map-set}
use Rattle.std.proofs.lemmas.List.Elements.{All-map, All-set}
use Rattle.std.proofs.lemmas.Option.{slice_get_within, slice_get-map}
use Rattle.uda_disk.specs.Disk.{Disks}
use Rattle.uda_disk.specs.Request.{Act, Online, Request}
use Rattle.uda_disk.specs.Answer.{Answer, TooLong}
use Rattle.uda_disk.specs.RequestEffect.{CheckResult, Rejected, Accepted, check_result, TransferOutcome, Done, answer_by}
use Rattle.uda_disk.specs.InOrderRun.{FixedRequest, requests_of, too_long, step_of, run_in_order_as, FitsRequest, InOrderWithFailures}
use Rattle.uda_disk.specs.Runs.{runs_first}
use Rattle.uda_disk.proofs.OrderLaw.{request_order_is_irrelevant}
use Rattle.uda_disk.proofs.Slots.{set-itself}
use Rattle.uda_posting.specs.Ledger.{is_to_come, untold, finish, NoneToCome, MayExecuteBefore, Opens, Closes, CarriesOut}

-- ---- an eligible one is executed first

-- two requests leave the same in either order
abbrev Swap : FixedRequest → FixedRequest → Type 0
Swap y x = (disks : Disks) → runs_first step_of 1 x (y ∷ x ∷ []) disks ≡ run_in_order_as disks (y ∷ x ∷ [])

swap : (y x : FixedRequest) → (too_long y.request ≡ false → MayExecuteBefore y.request x.request) → Swap y x
swap y x may disks = by (too_long y.request) refl
  where
    by : (b : Bool) → too_long y.request ≡ b
        → runs_first step_of 1 x (y ∷ x ∷ []) disks ≡ run_in_order_as disks (y ∷ x ∷ [])
    by true long = rw long refl
    by false short =
        let goes = may short in
        request_order_is_irrelevant (y ∷ x ∷ []) 1 x disks
        (λ i j d before within.
        let first : i ≡ 0 = omega arith in let second : j ≡ 1 = omega arith in rw (first, second) goes.clear)
        (record {
          stands = omega arith;
          overtakes_each = λ i older r below at_i at_j.
              let first : i ≡ 0 = omega arith in
              let one : Some y.request ≡ Some older = rw first at at_i in
              let y_is : y.request ≡ older = cc in let x_is : x.request ≡ r = cc in
              rw (← y_is, ← x_is) goes.may_overtake;
        }) refl

-- a request that isn't too long has another answer than TooLong
told-by : (o : TransferOutcome) (act : Act) (b : CheckResult) → is_to_come (answer_by o act b) ≡ false
told-by o (Online protect) (Rejected refusal) = refl
told-by o _ (Rejected refusal) = refl
told-by o (Online protect) (Accepted disk) = refl
told-by o _ (Accepted disk) = refl

is_told : (x : FixedRequest) (disks : Disks) → too_long x.request ≡ false
    → is_to_come (step_of x disks).0 ≡ false
is_told x disks short = rw short (told-by x.outcome x.request.act (check_result disks x.request))

goes_first : (xs : List FixedRequest) (told : List Answer) (k : ℕ) (x : FixedRequest) (disks : Disks)
    → k < length xs → slice_get told k ≡ Some TooLong → too_long x.request ≡ false
    → ((i : ℕ) (y : FixedRequest) → i < k → slice_get xs i ≡ Some y → slice_get told i ≡ Some TooLong
    → Swap y x)
    → finish xs (set told k (step_of x disks).0) (step_of x disks).1 ≡ finish (set xs k x) told disks
goes_first [] told k x disks low at short swaps = absurd (omega arith)
goes_first (y ∷ ys) [] k x disks low at short swaps = absurd (cc)
goes_first (y ∷ ys) (a ∷ told) zero x disks low at short swaps =
    let is : a ≡ TooLong = cc in rw (is_told x disks short, is) refl
goes_first (y ∷ ys) (TooLong ∷ told) (suc k) x disks low at short swaps =
    let joined : List Answer × Disks → List Answer × Disks = λ w. seam y ys told k w.0 w.1 in
    ap joined (swaps 0 y (omega arith) refl refl disks)
    ∙ ap (λ (w : List Answer × Disks). ((step_of y disks).0 ∷ w.0, w.1))
    (goes_first ys told k x (step_of y disks).1 (omega arith) at short
    (λ i z below there still. swaps (suc i) z (omega arith) there still))
  where
    -- both answers, and those of the others on the disks that the two leave
    seam : FixedRequest → List FixedRequest → List Answer → ℕ → List Answer → Disks → List Answer × Disks
    seam y ys told k (a ∷ b ∷ rest) w = let later = finish ys (set told k b) w in (a ∷ later.0, later.1)
    seam y ys told k answers w = (answers, w)
goes_first (y ∷ ys) (a ∷ told) (suc k) x disks low at short swaps =
    ap (λ (w : List Answer × Disks). (a ∷ w.0, w.1))
    (goes_first ys told k x disks (omega arith) at short
    (λ i z below there still. swaps (suc i) z (omega arith) there still))

pub ledger_carries_out : CarriesOut
ledger_carries_out start requests now k x it may fits h fixed e fit =
    let request : FixedRequest → Request = λ y. y.request in
    let low = slice_get_within requests k x.request it.stands in
    let all = set fixed k x in
    let asked : requests_of all ≡ requests =
    map-set request fixed k x ∙ ap (λ rs. set rs k x.request) e ∙ set-itself requests k x.request it.stands in
    let first = goes_first fixed now.0 k x now.1 (omega (arith, length-map fixed request, ap length e, low))
    it.untold it.short (λ i y below at_i still. swap y x (λ short. may i y.request below (record {
      stands = ap (λ rs. slice_get rs i) (sym e) ∙ slice_get-map request fixed i ∙ rw at_i refl;
      short = short;
      untold = still;
    }))) in
    subst (λ w. InOrderWithFailures start requests w.0 w.1) (sym first)
    (h all asked (All-set FitsRequest fixed k x fits fit))

-- ---- the beginning and the end

opened : (xs : List FixedRequest) (disks : Disks)
    → finish xs (untold (requests_of xs)) disks ≡ run_in_order_as disks xs
opened [] disks = refl
opened (x ∷ xs) disks =
    ap (λ (w : List Answer × Disks). ((step_of x disks).0 ∷ w.0, w.1)) (opened xs (step_of x disks).1)

pub ledger_opens : Opens
ledger_opens start requests fixed e fit =
    let is = opened fixed start in
    let gives = sym (rw e at is) in
    record { fixed = fixed; are_requests = e; fit = fit; gives = gives }

closed : (xs : List FixedRequest) (told : List Answer) (disks : Disks)
    → NoneToCome (requests_of xs) told → finish xs told disks ≡ (told, disks)
closed [] told disks none = refl
closed (x ∷ xs) [] disks none = refl
closed (x ∷ xs) (a ∷ told) disks none =
    by a none (closed xs told disks
    (λ k r it. none (suc k) r (record { stands = it.stands; short = it.short; untold = it.untold })))
  where
    behind : Answer → List Answer × Disks → List Answer × Disks
    behind a w = (a ∷ w.0, w.1)

    long_stays : (b : Bool) → too_long x.request ≡ b
        → NoneToCome (requests_of (x ∷ xs)) (TooLong ∷ told)
        → finish xs told disks ≡ (told, disks)
        → finish (x ∷ xs) (TooLong ∷ told) disks ≡ (TooLong ∷ told, disks)
    long_stays true long none rest = rw long (ap (behind TooLong) rest)
    long_stays false short none rest =
        absurd (none 0 x.request (record { stands = refl; short = short; untold = refl }))

    by : (a : Answer) → NoneToCome (requests_of (x ∷ xs)) (a ∷ told)
        → finish xs told disks ≡ (told, disks) → finish (x ∷ xs) (a ∷ told) disks ≡ (a ∷ told, disks)
    by TooLong none rest = long_stays (too_long x.request) refl none rest
    by a none rest = ap (behind a) rest

-- a request whose outcome is success
abbrev done : Request → FixedRequest
done r = record { request = r; outcome = Done }

done-asks : (requests : List Request) → requests_of (map done requests) ≡ requests
done-asks [] = refl
done-asks (r ∷ rest) = ap (λ rs. r ∷ rs) (done-asks rest)

pub ledger_closes : Closes
ledger_closes start requests now none h =
    let xs = map done requests in
    let asked = done-asks requests in
    subst (λ w. InOrderWithFailures start requests w.0 w.1)
    (closed xs now.0 now.1 (subst (λ rs. NoneToCome rs now.0) (sym asked) none))
    (h xs asked (All-map FitsRequest done requests (λ i r low. tt)))
