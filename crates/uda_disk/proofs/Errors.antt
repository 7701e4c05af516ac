-- An in-order run with failures in which no drive error is reported is an in-order run; and how the count
-- of drive errors grows.
use Rattle.std.proofs.Common.{◌≡◌, ℕ, zero, suc, ◌+◌, Bool, true, false, List, [], ◌∷◌, ◌++◌, length, Some, refl, sym, ap, ap₂, ◌∙◌, arith}
use Rattle.std.specs.Prelude.{slice_get, slice_set, nat_eq, ◌&&◌, if◌then◌else◌}
use Rattle.std.proofs.lemmas.Bool.{eq-eqb}
use Rattle.uda_disk.specs.Disk.{Disk, Disks}
use Rattle.uda_disk.specs.Status.{DRIVE_ERROR}
use Rattle.uda_disk.specs.Request.{Act, Read, Access, Write, Erase, Request}
use Rattle.uda_disk.specs.Answer.{Answer, TooLong, status_of}
use Rattle.uda_disk.specs.RequestEffect.{CheckResult, Rejected, Accepted, check_result, TransferOutcome, Done, Lost, answer_by, serve_by}
use Rattle.uda_disk.specs.InOrderRun.{FixedRequest, requests_of, too_long, step_as, step, step_of, run_in_order, run_in_order_as, tells_error, drive_errors, EachFailureIsReported}

abbrev pub is_error : Answer → Bool
is_error a = nat_eq (status_of a) DRIVE_ERROR

-- an accepted transfer reports its failure, so one that reports none is as if it had not failed
free-clean : (k : ℕ) (left : List ℕ) (unit : ℕ) (act : Act) (disks : Disks) (d : Disk)
    → is_error (answer_by (Lost k left) act (Accepted d)) ≡ false
    → serve_by (Lost k left) (record { unit = unit; act = act }) (Accepted d) disks
    ≡ serve_by Done (record { unit = unit; act = act }) (Accepted d) disks
free-clean k left unit (Read lbn bytes) disks d h = absurd (cc)
free-clean k left unit (Access lbn bytes) disks d h = absurd (cc)
free-clean k left unit (Write lbn payload) disks d h = absurd (cc)
free-clean k left unit (Erase lbn bytes) disks d h = absurd (cc)
free-clean k left unit _ disks d h = refl

check_result-clean : (k : ℕ) (left : List ℕ) (r : Request) (disks : Disks) (b : CheckResult)
    → is_error (answer_by (Lost k left) r.act b) ≡ false → serve_by (Lost k left) r b disks
    ≡ serve_by Done r b disks
check_result-clean k left r disks (Rejected refusal) h = refl
check_result-clean k left r disks (Accepted d) h = free-clean k left r.unit r.act disks d h

abbrev chosen : TransferOutcome → Request → Disks → Bool → Answer × Disks
chosen o r disks b = if b then (TooLong, disks) else serve_by o r (check_result disks r) disks

-- a request that reports no drive error is as if it had not failed
pub step-clean : (o : TransferOutcome) (r : Request) (disks : Disks) → is_error (step_as o r disks).0 ≡ false
    → step_as o r disks ≡ step r disks
step-clean Done r disks h = refl
step-clean (Lost k left) r disks h = by (too_long r) h
  where
    by : (b : Bool) → is_error (chosen (Lost k left) r disks b).0 ≡ false → chosen (Lost k left) r disks b
        ≡ chosen Done r disks b
    by true e = refl
    by false e = check_result-clean k left r disks (check_result disks r) e

no_error : (r : Request) (a : Answer) → tells_error r.unit r a ≡ 0 → is_error a ≡ false
no_error r a h = by (is_error a) refl
  where
    own : nat_eq r.unit r.unit ≡ true
    own = eq-eqb r.unit r.unit refl

    by : (b : Bool) → is_error a ≡ b → is_error a ≡ false
    by false e = e
    by true e = let one : tells_error r.unit r a ≡ 1 = rw (own, e) refl in absurd (omega arith)

run_in_order_as-clean : (xs : List FixedRequest) (disks : Disks)
    → ((u : ℕ) → drive_errors u (requests_of xs) (run_in_order_as disks xs).0 ≡ 0) → run_in_order_as disks xs
    ≡ run_in_order disks (requests_of xs)
run_in_order_as-clean [] disks h = refl
run_in_order_as-clean (d ∷ ds) disks h =
    let r = d.request in
    let now = step_of d disks in
    let first : tells_error r.unit r now.0 ≡ 0 = omega (arith, h r.unit) in
    let same : now ≡ step r disks = step-clean d.outcome r disks (no_error r now.0 first) in
    let induction = run_in_order_as-clean ds now.1 (λ u. omega (arith, h u)) in
    let behind : Answer × Disks → List Answer × Disks → List Answer × Disks = λ a x. (a.0 ∷ x.0, x.1) in
    ap₂ behind same (induction ∙ ap (λ (x : Answer × Disks). run_in_order x.1 (requests_of ds)) same)

pub losses_told : EachFailureIsReported
losses_told start requests answers left h none =
    let at : List Answer → List Request → Type 0 = λ as' rs. (u : ℕ) → drive_errors u rs as' ≡ 0 in
    let given : (u : ℕ) → drive_errors u (requests_of h.fixed) (run_in_order_as start h.fixed).0 ≡ 0 = λ u.
    ap (λ (x : List Answer × Disks). drive_errors u (requests_of h.fixed) x.0) h.gives
    ∙ ap (λ (rs : List Request). drive_errors u rs answers) h.are_requests ∙ none u in
    sym h.gives ∙ run_in_order_as-clean h.fixed start given ∙ ap (run_in_order start) h.are_requests

-- TooLong is no drive error
tells-long : (u : ℕ) (r : Request) → tells_error u r TooLong ≡ 0
tells-long u r = by (nat_eq r.unit u)
  where
    by : (own : Bool) → (let n : ℕ = if own && false then 1 else 0 in n) ≡ 0
    by true = refl
    by false = refl

-- an answer that replaces a TooLong
pub errors-set : (u : ℕ) (requests : List Request) (told : List Answer) (k : ℕ) (r : Request) (a : Answer)
    → slice_get requests k ≡ Some r → slice_get told k ≡ Some TooLong
    → drive_errors u requests (slice_set told k a) ≡ drive_errors u requests told + tells_error u r a
errors-set u [] told k r a at blank = absurd (cc)
errors-set u (q ∷ rest) [] k r a at blank = absurd (cc)
errors-set u (q ∷ rest) (t ∷ ts) zero r a at blank =
    let same : q ≡ r = cc in let none : t ≡ TooLong = cc in
    omega (arith, ap (λ (x : Request). tells_error u x a) same, ap (tells_error u q) none, tells-long u q)
errors-set u (q ∷ rest) (t ∷ ts) (suc k) r a at blank = omega (arith, errors-set u rest ts k r a at blank)

-- one more request, whose answer is still to come, reports none
pub errors-push : (u : ℕ) (requests : List Request) (told : List Answer) (r : Request)
    → length told ≡ length requests → drive_errors u (requests ++ r ∷ []) (told ++ TooLong ∷ [])
    ≡ drive_errors u requests told
errors-push u [] [] r size = omega (arith, tells-long u r)
errors-push u (q ∷ rest) (t ∷ ts) r size = omega (arith, errors-push u rest ts r (omega arith))
errors-push u _ _ r size = absurd (omega arith)
