-- Executing any eligible request first changes nothing.
use Rattle.std.proofs.Common.{◌≡◌, Bool, true, false, Option, None, Some, refl, sym, ap, ◌∙◌, subst₂}
use Rattle.std.specs.Prelude.{slice_get, option_map}
use Rattle.std.proofs.lemmas.Option.{slice_get-map, slice_get_within, get_or_from_slice_get}
use Rattle.uda_disk.specs.Disk.{Disk, Disks}
use Rattle.uda_disk.specs.Request.{Request}
use Rattle.uda_disk.specs.Answer.{Answer, TooLong}
use Rattle.uda_disk.specs.RequestEffect.{CheckResult, Rejected, Accepted, check_at, check_result, serve_by, serve_as}
use Rattle.uda_disk.specs.Order.{may_overtake, NoClash, RequestOrderIsIrrelevant}
use Rattle.uda_disk.specs.InOrderRun.{FixedRequest, requests_of, too_long, step_of}
use Rattle.uda_disk.proofs.Runs.{Swaps, swaps_idle, swaps_sym, swaps_same, first_is_free}
use Rattle.uda_disk.proofs.Swap.{Item, Told, judge, does_by, does, swaps}

abbrev serve_of : FixedRequest → Disks → Answer × Disks
serve_of x disks = serve_as x.outcome x.request disks

-- a request that only its own checks can reject
abbrev plainly : FixedRequest → Item
plainly x = record { request = x.request; outcome = x.outcome; check = λ found. found }

judged : (x : FixedRequest) (slot : Option (Option Disk)) → judge (plainly x) slot ≡ check_at x.request.act slot
judged x None = refl
judged x (Some None) = refl
judged x (Some (Some disk)) = refl

answered : (x : FixedRequest) (b : CheckResult) (disks : Disks)
    → ◌≡◌ {A = Answer × Disks} ((does_by (plainly x) b disks).0.0, (does_by (plainly x) b disks).1)
    (serve_by x.outcome x.request b disks)
answered x (Rejected refusal) disks = refl
answered x (Accepted disk) disks = refl

-- the answer without its bytes
abbrev answer_in : Told × Disks → Answer × Disks
answer_in r = (r.0.0, r.1)

served : (x : FixedRequest) (disks : Disks) → answer_in (does (plainly x) disks) ≡ serve_of x disks
served x disks =
    ap (λ (b : CheckResult). answer_in (does_by (plainly x) b disks)) (judged x (slice_get disks x.request.unit))
    ∙ answered x (check_result disks x.request) disks

swaps_served : (a b : FixedRequest) (disks : Disks) → Swaps does (plainly a) (plainly b) disks
    → Swaps serve_of a b disks
swaps_served a b disks s =
    let left : (x : FixedRequest) (d : Disks) → (does (plainly x) d).1 ≡ (serve_of x d).1 = λ x d.
    ap (λ (r : Answer × Disks). r.1) (served x d) in
    let tells : (x : FixedRequest) (d : Disks) → (does (plainly x) d).0.0 ≡ (serve_of x d).0 = λ x d.
    ap (λ (r : Answer × Disks). r.0) (served x d) in
    record {
      end_first = sym (tells a disks) ∙ ap (λ (t : Told). t.0) s.end_first
          ∙ tells a (does (plainly b) disks).1 ∙ ap (λ (d : Disks). (serve_of a d).0) (left b disks);
      end_second = sym (ap (λ (d : Disks). (serve_of b d).0) (left a disks))
          ∙ sym (tells b (does (plainly a) disks).1) ∙ ap (λ (t : Told). t.0) s.end_second ∙ tells b disks;
      worlds = sym (ap (λ (d : Disks). (serve_of b d).1) (left a disks))
          ∙ sym (left b (does (plainly a) disks).1) ∙ s.worlds ∙ left a (does (plainly b) disks).1
          ∙ ap (λ (d : Disks). (serve_of a d).1) (left b disks);
    }

-- one that is too long changes nothing
step-long : (x : FixedRequest) → too_long x.request ≡ true → (d : Disks) → step_of x d ≡ (TooLong, d)
step-long x long d = rw long refl

step-short : (x : FixedRequest) → too_long x.request ≡ false → (d : Disks) → step_of x d ≡ serve_of x d
step-short x short d = rw short refl

swaps_steps : (a b : FixedRequest) (disks : Disks) → may_overtake b.request a.request ≡ true
    → NoClash b.request a.request → (long_a long_b : Bool) → too_long a.request ≡ long_a → too_long b.request
    ≡ long_b → Swaps step_of a b disks
swaps_steps a b disks may apart long_a true is_a is_b = swaps_idle step_of a b TooLong
    (step-long b is_b) disks
swaps_steps a b disks may apart true false is_a is_b = swaps_sym step_of a b disks
    (swaps_idle step_of b a TooLong (step-long a is_a) disks)
swaps_steps a b disks may apart false false is_a is_b =
    swaps_same serve_of step_of a b (step-short a is_a) (step-short b is_b) disks
    (swaps_served a b disks (swaps (plainly a) (plainly b) disks may apart))

pub request_order_is_irrelevant : RequestOrderIsIrrelevant
request_order_is_irrelevant xs j x disks apart goes at =
    let request : FixedRequest → Request = λ y. y.request in
    let at_request : slice_get (requests_of xs) j ≡ Some x.request = slice_get-map request xs j
    ∙ ap (option_map request) at in
    let place = slice_get_within (requests_of xs) j x.request at_request in
    first_is_free step_of xs j x disks at (λ i y v below there.
    let there_request : slice_get (requests_of xs) i ≡ Some y.request = slice_get-map request xs i
    ∙ ap (option_map request) there in
    let is_y = get_or_from_slice_get (requests_of xs) i y.request x.request there_request in
    let is_x = get_or_from_slice_get (requests_of xs) j x.request x.request at_request in
    swaps_steps x y v (goes.overtakes_each i y.request x.request below there_request at_request)
    (subst₂ NoClash is_y is_x (apart i j x.request below place)) _ _ refl refl)
