-- The load of a run, step by step.
use Rattle.std.proofs.Common.{◌≡◌, ℕ, zero, suc, ◌+◌, ◌-◌, ◌*◌, ◌/◌, ◌<◌, Bool, true, false, List, [], ◌∷◌, length, take, drop, set, Some, None, refl, sym, ap, ap₂, ◌∙◌, arith, add-one}
use Rattle.std.specs.Prelude.{Option, slice_get, replicate, ◌||◌, not, nat_eq}
use Rattle.std.specs.List.{list_any}
use Rattle.std.proofs.lemmas.List.{length_push, drop_more}
use Rattle.std.proofs.Math.Dec.{eqb-suc-zero}
use Rattle.std.proofs.lemmas.List.Edits.{length-remove}
use Rattle.std.proofs.lemmas.List.Sums.{count_by_more_no, count_by_more_yes}
use Rattle.std.proofs.lemmas.Option.{slice_get_within, get_or_from_slice_get}
use Rattle.uda_exec.specs.Disks.{PENDING_LIMIT}
use Rattle.uda_packet.specs.declared.end.End.{End}
use Rattle.uda_disk.specs.Request.{Request}
use Rattle.uda_disk.specs.InOrderRun.{too_long, is_short, posted_count}
use Rattle.uda_disk.specs.Order.{clash, lead_from, lead}
use Rattle.uda_posting.specs.Posting.{posted_command}
use Rattle.uda_disk.specs.Values.{request_value}
use Rattle.uda_host.specs.Host.{HostState, TurnWithoutEnd, OneFetched, OneDone, TakesEnd}
use Rattle.uda_driver.specs.Outstanding.{posted_with, clashes_with_any}
use Rattle.uda_driver.specs.DriverStep.{PostsRequest}
use Rattle.uda_driver.specs.Load.{triangle, InLead, LeadOver, LoadAt, GoesOn, IsOver}
use Rattle.uda_driver.specs.declared.outstanding.Outstanding.{Outstanding}
use Rattle.uda_driver.proofs.Slots.{clashes-taken}

triangle-more : (n : ℕ) → triangle (n + 1) ≡ n + 1 + triangle n
triangle-more n = rw add-one refl

double : (n : ℕ) → 2 * triangle n ≡ n * (n + 1)
double zero = refl
double (suc n) = let h = double n in grind (arith, h)

pub triangle-is : (n : ℕ) → triangle n ≡ n * (n + 1) / 2
triangle-is n = let h = double n in omega arith

-- ---- the lead continues, or ends

lead-post : (room : ℕ) (seen : List Request) (r : Request) (rest : List Request) → 0 < room
    → too_long r ≡ false → list_any (clash r) seen ≡ false
    → lead_from room seen (r ∷ rest) ≡ lead_from (room - 1) (r ∷ seen) rest + 1
lead-post zero seen r rest some short clear = absurd (omega arith)
lead-post (suc room) seen r rest some short clear =
    let e : suc room - 1 ≡ room = omega arith in
    rw (e, short, clear) (omega arith)

lead-skip : (room : ℕ) (seen : List Request) (r : Request) (rest : List Request) → too_long r ≡ true
    → lead_from room seen (r ∷ rest) ≡ lead_from room seen rest
lead-skip zero seen r [] long = refl
lead-skip zero seen r (s ∷ rest) long = refl
lead-skip (suc room) seen r rest long = rw long refl

-- one that must wait ends it
pub lead-waits : (room : ℕ) (seen : List Request) (r : Request) (rest : List Request) → too_long r ≡ false
    → nat_eq room 0 || list_any (clash r) seen ≡ true → lead_from room seen (r ∷ rest) ≡ 0
lead-waits zero seen r rest short waits = refl
lead-waits (suc room) seen r rest short waits =
    let some : nat_eq (suc room) 0 ≡ false = eqb-suc-zero room in
    let met : list_any (clash r) seen ≡ true = ap (λ (b : Bool). b || list_any (clash r) seen) (sym some)
    ∙ waits in rw (short, met) refl

pub lead-none : (room : ℕ) (seen : List Request) → lead_from room seen [] ≡ 0
lead-none zero seen = refl
lead-none (suc room) seen = refl

-- ---- the request at an index

pub record Next (requests : List Request) (n : ℕ) (r : Request) : Type 0 where
  pub rest : drop n requests ≡ r ∷ drop (n + 1) requests
  pub skipped : too_long r ≡ true → posted_count (take (n + 1) requests) ≡ posted_count (take n requests)
  pub posted : too_long r ≡ false → posted_count (take (n + 1) requests) ≡ posted_count (take n requests) + 1

pub next : (requests : List Request) (n : ℕ) (r : Request) → slice_get requests n ≡ Some r → Next requests n r
next requests n r stands =
    let within = slice_get_within requests n r stands in
    let here = get_or_from_slice_get requests n r r stands in
    record {
      rest = drop_more requests n r within ∙ ap (λ (s : Request). s ∷ drop (n + 1) requests) here;
      skipped = λ long. count_by_more_no is_short requests n r within (ap is_short here ∙ ap not long);
      posted = λ short. count_by_more_yes is_short requests n r within (ap is_short here ∙ ap not short);
    }

-- ---- the steps

pub load_start : {start : HostState} {out : List (Option Outstanding)} (requests : List Request)
    → out ≡ replicate PENDING_LIMIT None → start.due ≡ [] → start.credits ≡ PENDING_LIMIT
    → LoadAt start requests 0 out start
load_start requests none idle all = GoesOn (record {
  seen = [];
  clash_alike = λ r. sym (ap (clashes_with_any r) none);
  ahead = ap (λ (k : ℕ). lead_from k [] requests) (sym all) ∙ omega (arith, ap length idle);
  all_due = ap length idle;
  load_is = refl;
})

-- if no more join the lead, it is over
pub over_from : {start host : HostState} {requests : List Request} {n : ℕ} {out : List (Option Outstanding)}
    → ((l : InLead start requests n out host) → lead_from host.credits l.seen (drop n requests) ≡ 0)
    → LoadAt start requests n out host → LeadOver start requests n host
over_from {host = host} {requests} {n} none (GoesOn l) =
    let all : lead requests ≡ length host.due = l.ahead ∙ omega (arith, none l) in
    record {
      within = omega (arith, all, l.all_due);
      load = omega (arith, ap triangle all, all, l.all_due, l.load_is);
    }
over_from none (IsOver over) = over

module _ {start host new : HostState} {requests : List Request} {n : ℕ}
    (over : LeadOver start requests n host) where
  pub over_works : TurnWithoutEnd host new → LeadOver start requests n new
  over_works (OneFetched f) = rw f.is (record { within = over.within; load = over.load })
  over_works (OneDone x) =
      let taken = x.executes.taken in
      let fewer : length host.due ≡ length new.due + 1 =
      omega (
        arith,
        ap length taken.taken,
        length-remove host.due x.place taken.may.stands,
        taken.may.stands,
      ) in
      rw x.is (record {
        within = over.within;
        load = omega (arith, over.load, ap triangle fewer, triangle-more (length new.due), fewer);
      })

  pub over_takes : {e : End} → TakesEnd host e new → LeadOver start requests n new
  over_takes t = rw t.is (record { within = over.within; load = over.load })

module _ {start host : HostState} {requests : List Request} {n : ℕ} {out : List (Option Outstanding)} {r : Request}
    (it : Next requests n r) where
  pub load_skip : too_long r ≡ true → LoadAt start requests n out host
      → LoadAt start requests (n + 1) out host
  load_skip long (GoesOn l) = GoesOn (record {
    seen = l.seen;
    clash_alike = l.clash_alike;
    ahead = l.ahead ∙ ap (λ (rest : List Request). length host.due + lead_from host.credits l.seen rest)
        it.rest ∙ ap (λ (k : ℕ). length host.due + k)
        (lead-skip host.credits l.seen r (drop (n + 1) requests) long);
    all_due = l.all_due ∙ sym (it.skipped long);
    load_is = l.load_is;
  })
  load_skip long (IsOver over) =
      let same = it.skipped long in
      IsOver (record { within = omega (arith, over.within, same); load = omega (arith, over.load, same) })

  pub load_post : {one : Outstanding} {new : HostState} {after : List (Option Outstanding)}
      → request_value one.request.now ≡ r → too_long r ≡ false → 0 < host.credits
      → clashes_with_any r out ≡ false
      → (puts : PostsRequest one host out new after) → LoadAt start requests n out host
      → LoadAt start requests (n + 1) (set out puts.number (Some one)) new
  load_post {one} {new} is short some clear puts load = by load
    where
      longer : length new.due ≡ length host.due + 1
      longer = ap (λ (h : HostState). length h.due) puts.posts.is
          ∙ length_push host.due (posted_command (posted_with puts.number one))

      by : LoadAt start requests n out host
          → LoadAt start requests (n + 1) (set out puts.number (Some one)) new
      by (GoesOn l) = GoesOn (record {
        seen = r ∷ l.seen;
        clash_alike = λ x. ap₂ (λ (a b : Bool). a || b) (ap (clash x) (sym is)) (l.clash_alike x)
            ∙ sym (clashes-taken x out puts.number one puts.free);
        ahead =
            let ends = lead-post host.credits l.seen r (drop (n + 1) requests) some short
            (l.clash_alike r ∙ clear) in
            let fewer = ap (λ (h : HostState). lead_from h.credits (r ∷ l.seen) (drop (n + 1) requests))
            puts.posts.is in
            l.ahead ∙ ap (λ (rest : List Request). length host.due + lead_from host.credits l.seen rest)
            it.rest ∙ omega (arith, ends, fewer, longer);
        all_due = omega (arith, longer, l.all_due, it.posted short);
        load_is = ap (λ (h : HostState). h.load) puts.posts.is ∙ l.load_is;
      })
      by (IsOver over) = IsOver (record {
        within = omega (arith, over.within, it.posted short);
        load = omega (
          arith,
          over.load,
          over.within,
          it.posted short,
          ap (λ (h : HostState). h.load) puts.posts.is,
          ap triangle longer,
          triangle-more (length host.due),
        );
      })
