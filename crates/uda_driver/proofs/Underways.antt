-- The steps of a run of requests.
use Rattle.std.proofs.Common.{◌≡◌, ℕ, ◌+◌, ◌<◌, ◌≤◌, inl, inr, Bool, true, false, List, [], length, map, take, drop, set, get_or, nat_eq, Option, Some, None, refl, sym, ap, ◌∙◌, arith}
use Rattle.std.specs.Prelude.{slice_get, slice_set, option_map, replicate, ◌||◌}
use Rattle.std.proofs.lemmas.List.{length-map, length-set, length_push, map-set, take_all, drop_all, nil_from_length}
use Rattle.std.proofs.lemmas.List.Edits.{length-remove}
use Rattle.std.proofs.lemmas.Bool.{eqb-true, eqb-false, or_cases, or_parts}
use Rattle.std.proofs.lemmas.Option.{slice_get-map, slice_get-get_or}
use Rattle.uda_packet.specs.declared.end.End.{End}
use Rattle.uda_disk.specs.Units.{Units, AreWellFormed, attributes_of, unit_attributes}
use Rattle.uda_exec.specs.Disks.{PENDING_LIMIT}
use Rattle.uda_disk.proofs.Slots.{slice_get-set_other}
use Rattle.uda_disk.specs.Request.{Request}
use Rattle.uda_disk.specs.InOrderRun.{too_long, posted_count}
use Rattle.uda_disk.specs.Answer.{TooLong}
use Rattle.uda_disk.specs.Order.{lead, lead_from}
use Rattle.uda_posting.specs.Posting.{posted_command, answer_of, buffer_of}
use Rattle.uda_posting.specs.Ledger.{NoneToCome}
use Rattle.uda_posting.specs.Outstanding.{UnexecutedInvariant}
use Rattle.uda_disk.specs.Values.{request_value, answer_value, request_values, answer_values}
use Rattle.uda_disk.specs.declared.request.Request.{Request as CodeRequest}
use Rattle.uda_disk.specs.declared.answer.Answer.{Answer as CodeAnswer}
use Rattle.uda_disk.specs.declared.answer.Answer.TheVariants.{TooLong as CodeTooLong}
use Rattle.uda_host.specs.Host.{HostState, outstanding_count, turns_left, TurnWithoutEnd, OneFetched, OneDone, TakesEnd, IsConsistent}
use Rattle.uda_driver.specs.Run.{HasTurnCounts}
use Rattle.uda_driver.specs.Driver.{IsAtRest, DriverInvariant}
use Rattle.uda_driver.specs.Blank.{IsBlank, AreBlank}
use Rattle.uda_driver.specs.Outstanding.{posted_with, clashes_with_any, must_wait, IsFit}
use Rattle.uda_driver.specs.DriverStep.{HasFreeBuffer, PostsRequest, DriverStep, NoAnswer, OneAnswer}
use Rattle.uda_driver.specs.Load.{triangle, InLead, IsOver}
use Rattle.uda_driver.specs.RunInvariant.{IsAtWork, RunInvariant}
use Rattle.uda_driver.specs.Drive.{IsDriving, RunFinished}
use Rattle.uda_driver.specs.declared.outstanding.Outstanding.{Outstanding}
use Rattle.uda_driver.proofs.Slots.{some_free, clashing_out, no_clash_at}
use Rattle.uda_driver.proofs.Drivings.{driving_works, driving_takes, driving_skip, driving_post, driving_start, driving_end, counted_out}
use Rattle.uda_driver.proofs.Loads.{triangle-is, lead-waits, lead-none, Next, next, load_start, over_from, over_works, over_takes, load_skip, load_post}

-- ---- a turn of a host

-- the sum of those outstanding and those received stays, and one turn is counted
record Turned (host new : HostState) : Type 0 where
  all : new.taken + outstanding_count new ≡ host.taken + outstanding_count host
  turns : new.turns ≡ host.turns + 1
  taken : host.taken ≤ new.taken

turned_works : {host new : HostState} → TurnWithoutEnd host new → Turned host new
turned_works (OneFetched f) = rw f.is (record { all = refl; turns = refl; taken = omega arith })
turned_works {host} {new} (OneDone x) =
    let out = x.executes.taken in
    rw x.is (record {
      all = omega (
        arith,
        ap length out.taken,
        length-remove host.due x.place out.may.stands,
        out.may.stands,
        length_push host.waiting x.end,
      );
      turns = refl;
      taken = omega arith;
    })

turned_takes : {host new : HostState} {e : End} → TakesEnd host e new → Turned host new
turned_takes t = rw t.is (record {
  all = omega (arith, ap length t.waited);
  turns = refl;
  taken = omega arith;
})

turned : {host new : HostState} {out after : List (Option Outstanding)} {answers told : List CodeAnswer}
    → DriverStep host out answers new after told → Turned host new
turned (NoAnswer works out_is answers_are) = turned_works works
turned (OneAnswer e takes tells) = turned_takes takes

-- so fewer turns are left
pub steps_less : {host new : HostState} {out after : List (Option Outstanding)} {answers told : List CodeAnswer}
    → IsConsistent host → 0 < outstanding_count host → DriverStep host out answers new after told → turns_left new < turns_left host
steps_less consistent some steps =
    let t = turned steps in
    omega (arith, t.all, t.turns, consistent.turns_are, consistent.fetched_were_posted, some)

-- ---- the next request

-- it is at index n of the list
pub record IsAt (requests : List CodeRequest) (n : ℕ) (request : CodeRequest) : Type 0 where
  pub low : n < length requests
  pub is : request ≡ get_or requests n request

at_place : {requests : List CodeRequest} {n : ℕ} {request : CodeRequest} → IsAt requests n request
    → slice_get (request_values requests) n ≡ Some (request_value request)
at_place {requests} {n} {request} it = slice_get-map request_value requests n
    ∙ ap (option_map request_value) (slice_get-get_or requests n request it.low
    ∙ ap (λ (r : CodeRequest). Some r) (sym it.is))

next_at : {requests : List CodeRequest} {n : ℕ} {request : CodeRequest} → IsAt requests n request
    → Next (request_values requests) n (request_value request)
next_at {requests} {n} {request} it = next (request_values requests) n (request_value request) (at_place it)

-- ---- the beginning

-- as many units as before
same_count : (units before : Units) → unit_attributes units ≡ unit_attributes before → length units ≡ length before
same_count units before same = sym (length-map units (option_map attributes_of)) ∙ ap length same
    ∙ length-map before (option_map attributes_of)

pub underway_start : {start : HostState} {requests : List CodeRequest} {out : List (Option Outstanding)}
    {answers : List CodeAnswer} → DriverInvariant start → out ≡ replicate PENDING_LIMIT None
    → length answers ≡ length requests
    → AreBlank (request_values requests) 0 answers → RunInvariant start requests 0 out answers start
underway_start {start} {requests} {answers = answers} ready none sized blank =
    let rest = ready.rest in
    record {
      driving = driving_start (request_values requests) (answer_values answers) rest.idle none;
      blank = blank;
      sized = sized;
      at_work = record { begun = rest.begun; well_formed = ready.well_formed; consistent = ready.consistent };
      posted = omega (arith, ap length rest.idle.none_due, ap length rest.idle.none_wait);
      load = load_start (request_values requests) none rest.idle.none_due rest.credits_are;
    }

-- when all are posted, no more come in the lead
pub drain_ends : {start host : HostState} (requests : List CodeRequest) {n : ℕ} {out : List (Option Outstanding)}
    → length requests ≤ n
    → (l : InLead start (request_values requests) n out host)
    → lead_from host.credits l.seen (drop n (request_values requests)) ≡ 0
drain_ends {host = host} requests {n} all l =
    ap (lead_from host.credits l.seen) (drop_all n (request_values requests)
    (omega (arith, all, length-map requests request_value))) ∙ lead-none host.credits l.seen

-- ---- the steps

module _ {start : HostState} {requests : List CodeRequest} {n : ℕ} {out : List (Option Outstanding)}
    {answers : List CodeAnswer} {host : HostState} (U : RunInvariant start requests n out answers host) where
  room : length (request_values requests) ≤ length (answer_values answers)
  room = omega (arith, length-map requests request_value, length-map answers answer_value, U.sized)

  pub is_driving : n ≤ length requests → IsDriving out answers host
  is_driving low = record {
    start = start.units;
    requests = request_values requests;
    n = n;
    driving = U.driving;
    room = omega (arith, room, length-map answers answer_value);
    low = omega (arith, low, length-map requests request_value);
  }

  pub all_credits : host.credits + outstanding_count host ≡ PENDING_LIMIT
  all_credits = U.at_work.consistent.credits_are U.at_work.begun

  -- a request that must wait finds some outstanding
  pub wait_some : (r : Request) → must_wait host out r ≡ true → 0 < outstanding_count host
  wait_some r waits = elim (or_cases (nat_eq host.credits 0) (clashes_with_any r out) waits) [
    | inl none ↦ omega (arith, all_credits, eqb-true host.credits 0 none)
    | inr met ↦ omega (arith, clashing_out r out met, counted_out U.driving)
  ]

  -- one that needn't finds a credit and a buffer
  pub credit_left : (r : Request) → must_wait host out r ≡ false → 0 < host.credits
  credit_left r free = omega (
    arith,
    eqb-false host.credits 0 (or_parts (nat_eq host.credits 0) (clashes_with_any r out) free).0,
  )

  pub buffer_left : (r : Request) → must_wait host out r ≡ false → HasFreeBuffer out
  buffer_left r free = some_free out (omega
      (arith, credit_left r free, all_credits, counted_out U.driving, U.driving.outs.sized))

  -- writing an answer leaves the blanks unchanged
  blank_told : (place : ℕ) (a : CodeAnswer) (told : List CodeAnswer) → place < n
      → told ≡ slice_set answers place a → AreBlank (request_values requests) n told
  blank_told place a told low is = λ k r b from stands at. U.blank k r b from stands
      (sym (slice_get-set_other answers place k a (λ same. omega (arith, same, from, low)))
      ∙ ap (λ (as' : List CodeAnswer). slice_get as' k) (sym is) ∙ at)

  still_works : {new : HostState} → IsConsistent new → AreWellFormed new.units → Turned host new → IsAtWork new
  still_works consistent well_formed t = record {
    begun = omega (arith, U.at_work.begun, t.taken);
    well_formed = well_formed;
    consistent = consistent;
  }

  module _ {new : HostState} {after : List (Option Outstanding)} {told : List CodeAnswer} (consistent : IsConsistent new)
      (well_formed : AreWellFormed new.units)
      (ends : (l : InLead start (request_values requests) n out host)
      → lead_from host.credits l.seen (drop n (request_values requests)) ≡ 0) where
    -- a turn ends the lead, if no more join it
    pub underway_step : DriverStep host out answers new after told → RunInvariant start requests n after told new
    underway_step (NoAnswer works out_is answers_are) =
        let t = turned_works works in
        rw (out_is, answers_are) (record {
          driving = driving_works U.driving works;
          blank = U.blank;
          sized = U.sized;
          at_work = still_works consistent well_formed t;
          posted = omega (arith, U.posted, t.all);
          load = IsOver (over_works (over_from ends U.load) works);
        })
    underway_step (OneAnswer e takes tells) =
        let t = turned_takes takes in
        let place = tells.done.one.place in
        let low : place < n = (U.driving.fit tells.done.number tells.done.one tells.done.stands).before in
        let a = answer_of (request_value tells.done.one.request.now).act e
        (buffer_of (posted_with tells.done.number tells.done.one) new.memory) in
        let values : answer_values told ≡ slice_set (answer_values answers) place a =
        ap answer_values tells.answers_are ∙ map-set answer_value answers place tells.told
        ∙ ap (set (answer_values answers) place) tells.told_is in
        rw tells.out_is (record {
          driving = rw values (driving_takes U.driving takes room tells.done);
          blank = blank_told place tells.told told low tells.answers_are;
          sized = ap length tells.answers_are ∙ length-set answers place tells.told ∙ U.sized;
          at_work = still_works consistent well_formed t;
          posted = omega (arith, U.posted, t.all);
          load = IsOver (over_takes (over_from ends U.load) takes);
        })

  module _ {request : CodeRequest} (it : IsAt requests n request) where
    r : Request
    r = request_value request

    w : Next (request_values requests) n (request_value request)
    w = next_at it

    -- there is an answer there, which is blank
    here : (d : CodeAnswer) → slice_get answers n ≡ Some (get_or answers n d)
    here d = slice_get-get_or answers n d (omega (arith, it.low, U.sized))

    blank : (d : CodeAnswer) → IsBlank (request_value request) (get_or answers n d)
    blank d = U.blank n (request_value request) _ (omega arith) (at_place it) (here d)

    pub underway_skip : too_long (request_value request) ≡ true
        → RunInvariant start requests (n + 1) out answers host
    underway_skip long = record {
      driving = driving_skip U.driving (request_value request) (at_place it) long
          (slice_get-map answer_value answers n ∙ ap (option_map answer_value) (here CodeTooLong)
          ∙ ap (λ (a : CodeAnswer). Some (answer_value a)) ((blank CodeTooLong).long long));
      blank = λ k q a from. U.blank k q a (omega (arith, from));
      sized = U.sized;
      at_work = U.at_work;
      posted = omega (arith, U.posted, w.skipped long);
      load = load_skip w long U.load;
    }

    -- one that must wait comes in no lead
    pub wait_ends : must_wait host out (request_value request) ≡ true
        → too_long (request_value request) ≡ false
        → (l : InLead start (request_values requests) n out host)
        → lead_from host.credits l.seen (drop n (request_values requests)) ≡ 0
    wait_ends waits short l =
        let waits_too = ap (λ (met : Bool). nat_eq host.credits 0 || met)
        (l.clash_alike (request_value request)) ∙ waits in
        ap (lead_from host.credits l.seen) w.rest
        ∙ lead-waits host.credits l.seen (request_value request)
        (drop (n + 1) (request_values requests)) short waits_too

    -- one that needn't is posted
    module _ (free : must_wait host out (request_value request) ≡ false) where
      pub underway_post : {one : Outstanding} {new : HostState} {after : List (Option Outstanding)} {left : List CodeAnswer}
          (d : CodeAnswer) → too_long (request_value request) ≡ false → one.place ≡ n
          → one.request.now ≡ request
          → one.answer ≡ get_or answers n d → left ≡ slice_set answers n CodeTooLong
          → PostsRequest one host out new after → IsConsistent new → RunInvariant start requests (n + 1) after left new
      underway_post {one} {new} {after} {left} d short place is answer_is left_is puts consistent =
          let rs = request_values requests in
          let request_is = ap request_value is in
          let fit : IsFit (n + 1) one = record {
            before = omega (arith, place);
            short = ap too_long request_is ∙ short;
            prepared = rw (request_is, answer_is) ((blank d).room short);
          } in
          let clear = (or_parts (nat_eq host.credits 0)
          (clashes_with_any (request_value request) out) free).1 in
          let told_is : answer_values left ≡ slice_set (answer_values answers) one.place TooLong =
          ap (map answer_value) left_is ∙ map-set answer_value answers n CodeTooLong
          ∙ ap (λ (k : ℕ). set (answer_values answers) k TooLong) (sym place) in
          let posted = driving_post U.driving puts fit place
          (ap (slice_get rs) place ∙ at_place it ∙ ap Some (sym request_is))
          (λ number other stands. no_clash_at (request_value one.request.now) out number other
          (ap (λ (q : Request). clashes_with_any q out) request_is ∙ clear) stands) U.at_work.consistent.size
          TooLong in
          let changed = puts.posts.is in
          record {
            driving = rw told_is posted;
            blank = λ k q a from stands at. U.blank k q a (omega (arith, from)) stands
                (sym (slice_get-set_other answers n k CodeTooLong (λ same. omega (arith, same, from)))
                ∙ ap (λ (as' : List CodeAnswer). slice_get as' k) (sym left_is) ∙ at);
            sized = ap length left_is ∙ length-set answers n CodeTooLong ∙ U.sized;
            at_work = record {
              begun = rw changed U.at_work.begun;
              well_formed = rw changed U.at_work.well_formed;
              consistent = consistent;
            };
            posted = rw changed (omega (
              arith,
              U.posted,
              w.posted short,
              length_push host.due (posted_command (posted_with puts.number one)),
            ));
            load = rw puts.out_is (load_post w request_is short
                (credit_left (request_value request) free) clear puts U.load);
          }

  module _ (ready : DriverInvariant start) (all : length requests ≤ n) (back : PENDING_LIMIT ≤ host.credits) where
    whole : take n (request_values requests) ≡ request_values requests
    whole = take_all n (request_values requests) (omega (arith, all, length-map requests request_value))

    none : outstanding_count host ≡ 0
    none = omega (arith, all_credits, back)

    none_due : host.due ≡ []
    none_due = nil_from_length host.due (omega (arith, none))

    rests : IsAtRest host
    rests = record {
      runs = U.at_work.consistent.runs;
      idle = record { none_due = none_due; none_wait = nil_from_length host.waiting (omega (arith, none)) };
      credits_are = omega (arith, all_credits, none);
      begun = U.at_work.begun;
    }

    counted_on : HasTurnCounts (request_values requests) start host
    counted_on =
        let before = ready.consistent in let after = U.at_work.consistent in
        let due = ap length ready.rest.idle.none_due in let waiting = ap length ready.rest.idle.none_wait in
        let fetches : start.fetches ≡ start.taken =
        omega (arith, before.done_were_fetched, before.fetched_were_posted, due, waiting) in
        let fetches_now : host.fetches ≡ host.taken =
        omega (arith, after.done_were_fetched, after.fetched_were_posted, none) in
        let p = ap posted_count whole in
        let taken : host.taken ≡ start.taken + posted_count (request_values requests) =
        omega (arith, U.posted, none, p) in
        let over = over_from (drain_ends requests all) U.load in
        record {
          turns = omega (
            arith,
            before.turns_are,
            after.turns_are,
            fetches,
            fetches_now,
            taken,
            none,
            waiting,
          );
          fetches = omega (arith, fetches, fetches_now, taken);
          deliveries = taken;
          load = omega (
            arith,
            over.load,
            over.within,
            p,
            triangle-is (lead (request_values requests)),
            ap (λ (h : List _). triangle (length h)) none_due,
          );
        }

    owed : UnexecutedInvariant start.units (request_values requests) (answer_values answers) host.units × NoneToCome
        (request_values requests) (answer_values answers)
    owed = driving_end U.driving (omega (
      arith,
      length-map answers answer_value,
      length-map requests request_value,
      U.sized,
    ))
        (omega (arith, all, length-map requests request_value)) none

    pub ran : RunFinished start requests answers host
    ran = record {
      ready = record {
        rest = rests;
        four_units = same_count host.units start.units owed.0.all_attributes ∙ ready.four_units;
        well_formed = U.at_work.well_formed;
        consistent = U.at_work.consistent;
      };
      counted = U.sized;
      owes = owed.0;
      none_to_come = owed.1;
      counts = counted_on;
    }
