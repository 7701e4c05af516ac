-- The unexecuted requests, as requests are posted and their commands executed.
use Rattle.std.proofs.Common.{◌≡◌, ◌≢◌, ℕ, suc, min, max, ◌+◌, ◌<◌, ◌≤◌, ◌⊎◌, inl, inr, Bool, true, false, List, [], ◌∷◌, ◌++◌, length, set, get_or, Option, None, Some, refl, sym, ap, ap₂, ◌∙◌, arith, subst, subst₂}
use Rattle.std.specs.Prelude.{slice_get, slice_set, option_map, map, remove, All, AllPairs, nat_eq, ◌&&◌, if◌then◌else◌}
use Rattle.std.proofs.Math.Bool.{and_comm, or_comm}
use Rattle.std.proofs.lemmas.List.{length-set, length-map, map-set}
use Rattle.std.proofs.lemmas.List.Elements.{All-nil, All-cons, All-push}
use Rattle.std.proofs.lemmas.List.Quantifiers.{all_pairs_push, all_pairs_remove}
use Rattle.std.proofs.lemmas.Bool.{cases_eq, cases_lt, eq-eqb, ne_eqb}
use Rattle.std.proofs.lemmas.Bool.Decides.{nat_tests}
use Rattle.std.proofs.lemmas.Option.{slice_get_within, slice_get-map, slice_get-get_or}
use Rattle.uda_packet.specs.declared.end.End.{End}
use Rattle.uda_disk.specs.Disk.{Disks}
use Rattle.uda_disk.specs.Request.{Act, Online, Available, Request, is_moving, is_writing, lbn_of, blocks_named}
use Rattle.uda_disk.specs.Order.{clash}
use Rattle.uda_disk.specs.Answer.{Answer, TooLong}
use Rattle.uda_disk.specs.RequestEffect.{Done, is_lost}
use Rattle.uda_disk.specs.InOrderRun.{too_long, FixedRequest, step_of, step, run_in_order, InOrderWithFailures, tells_error, drive_errors}
use Rattle.uda_disk.specs.Form.{IsAnswerOf}
use Rattle.uda_disk.proofs.Slots.{slice_get-set_same, slice_get-set_other}
use Rattle.uda_disk.proofs.Runs.{length-runs}
use Rattle.uda_disk.proofs.Lists.{put_back, All-remove, All-insert, All-at, All-front, slice_get-last, pairs_others}
use Rattle.uda_disk.proofs.Errors.{is_error, losses_told, errors-set}
use Rattle.uda_disk.specs.Units.{disks_of, failures_at, Units, AllSound, is_infallible}
use Rattle.uda_exec.specs.Execution.{Executes}
use Rattle.uda_exec.specs.Order.{IsEligible}
use Rattle.uda_exec.proofs.Units.{sure_stays, all_sound}
use Rattle.uda_posting.specs.Ledger.{untold, told_by, IsToCome, NoneToCome, MayExecuteBefore}
use Rattle.uda_posting.proofs.LedgerSteps.{ledger_opens, ledger_carries_out, ledger_closes}
use Rattle.uda_posting.specs.Posting.{answer_of, Posted, posted_command, commands_in, buffer_of, Ready}
use Rattle.uda_posting.specs.Outstanding.{IsEarlier, IsNotAt, IsUnexecuted, AreUnexecuted, AreSeparate, IsExact, UnexecutedInvariant}
use Rattle.uda_posting.specs.UpToData.{bares, is_done, has_begun, outline, outlines, ReportsTransfer, AnswerMatches, AllAnswersMatch, MatchesUpToData}
use Rattle.uda_posting.proofs.Posts.{may_overtake}
use Rattle.uda_posting.proofs.Seemings.{look, step_looks, run_looks, plain_each, outline_same, goes_as, IsServed, served}

-- ---- failures

-- the failures of a unit grow by one if its drive error is reported
one_failure : (u unit : ℕ) (told lost : Bool) (units after : Units) → told ≡ lost
    → ((v : ℕ) → v ≢ unit → slice_get after v ≡ slice_get units v)
    → failures_at (slice_get after unit) ≡ failures_at (slice_get units unit) +
    (let k : ℕ = if lost then 1 else 0 in k)
    → failures_at (slice_get after u) ≡ failures_at (slice_get units u) +
    (let k : ℕ = if nat_eq unit u && told then 1 else 0 in k)
one_failure u unit told lost units after same stay grows = elim (cases_eq u unit) [
  | inl own ↦ let is : nat_eq unit u ≡ true = eq-eqb unit u (sym own) in rw (is, same, own) grows
  | inr other ↦ let is_not : nat_eq unit u ≡ false = ne_eqb unit u (λ e. other (sym e)) in
      rw is_not (ap failures_at (stay u other) ∙ omega arith)
]

-- and none is reported of one that has none
pub none_told : (u unit : ℕ) (told : Bool) → (u ≡ unit → told ≡ false)
    → (let k : ℕ = if nat_eq unit u && told then 1 else 0 in k) ≡ 0
none_told u unit told none = elim (cases_eq u unit) [
  | inl own ↦ rw (none own) (by (nat_eq unit u))
  | inr other ↦ let is_not : nat_eq unit u ≡ false = ne_eqb unit u (λ e. other (sym e)) in rw is_not refl
]
  where
    by : (b : Bool) → (let k : ℕ = if b && false then 1 else 0 in k) ≡ 0
    by true = refl
    by false = refl

told_none : (u : ℕ) (requests : List Request) → drive_errors u requests (untold requests) ≡ 0
told_none u [] = refl
told_none u (r ∷ rest) = omega (arith, none_told u r.unit false (λ _. refl), told_none u rest)

-- ---- before the first request

untold_at : (requests : List Request) (k : ℕ) (r : Request) → slice_get requests k ≡ Some r
    → slice_get (untold requests) k ≡ Some TooLong
untold_at requests k r asked = slice_get-map (λ (_ : Request). TooLong) requests k
    ∙ ap (option_map (λ (_ : Request). TooLong)) asked

exact_start : (units : Units) (requests : List Request)
    → IsExact units requests (untold requests, disks_of units) (untold requests) units
exact_start units requests = record {
  same = refl;
  errors = λ u. omega (arith, told_none u requests);
  infallible = λ u never. refl;
}

pub owes_start : (units : Units) (requests : List Request) → UnexecutedInvariant units requests (untold requests) units
owes_start units requests = record {
  run = (untold requests, disks_of units);
  ledger = ledger_opens (disks_of units) requests;
  looks = refl;
  faithful = λ _. exact_start units requests;
  sound_before = λ u sound. sound;
  well_formed_if_sound = λ whole. whole;
  sound = λ _. exact_start units requests;
  tell = λ k r a asked at begun.
      let both : Some TooLong ≡ Some a = sym (untold_at requests k r asked) ∙ at in
      let is : TooLong ≡ a = cc in absurd (cc (begun, ap has_begun is));
  counted = length-map requests (λ (_ : Request). TooLong);
  all_attributes = refl;
}

-- ---- a request is executed

outlines-set : (w : List Answer) (i : ℕ) (x : Answer × Disks)
    → outlines (slice_set w i x.0, x.1) ≡ (set (map outline w) i (look x).0, (look x).1)
outlines-set w i x = ap (λ l. (l, bares x.1)) (map-set outline w i x.0)

-- what has one outline is still to come alike
to_come_alike : (requests : List Request) (w v : List Answer × Disks) → outlines w ≡ outlines v
    → (k : ℕ) (r : Request) → IsToCome requests w.0 k r → IsToCome requests v.0 k r
to_come_alike requests w v same k r it =
    record { stands = it.stands; short = it.short; untold = by (slice_get v.0 k) refl }
  where
    looks : option_map outline (slice_get v.0 k) ≡ Some (Some TooLong)
    looks = sym (slice_get-map outline v.0 k) ∙ ap (λ l. slice_get l.0 k) (sym same)
        ∙ slice_get-map outline w.0 k ∙ ap (option_map outline) it.untold

    by : (x : Option Answer) → slice_get v.0 k ≡ x → slice_get v.0 k ≡ Some TooLong
    by None is = let none : option_map outline None ≡ Some (Some TooLong) = ap (option_map outline) (sym is)
        ∙ looks in absurd (cc)
    by (Some a) is =
        let both : Some (outline a) ≡ Some (Some TooLong) = ap (option_map outline) (sym is) ∙ looks in
        let look : outline a ≡ outline TooLong = cc in let two = outline_same a TooLong look in
        is ∙ ap Some (two.1 two.0)

-- a command is executed whose request may be executed before each older one that is still to come
pub owes_done : {start : Units} {requests : List Request} {told : List Answer} {units after : Units}
    {memory left : List ℕ} {e : End} (owes : UnexecutedInvariant start requests told units) (p : Posted)
    → IsToCome requests told p.place p.request
    → ((i : ℕ) (older : Request) → i < p.place → IsToCome requests told i older → MayExecuteBefore older p.request)
    → Ready p memory
    → Executes (posted_command p) units memory e after left
    → UnexecutedInvariant start requests (slice_set told p.place (answer_of p.request.act e (buffer_of p left))) after
owes_done {start} {requests} {told} {units} {after} {memory} {left} {e} owes p own may ready x =
    let r = p.request in let i = p.place in let run = owes.run in
    let now : List Answer × Disks = (told, disks_of units) in
    let a = answer_of r.act e (buffer_of p left) in
    let s = served p units memory e after left ready x in
    let f : FixedRequest = record { request = r; outcome = s.outcome } in
    let more = λ (it : IsServed s.outcome p units a after) (u : ℕ). one_failure u r.unit (is_error a)
    (is_lost s.outcome) units after it.lost x.others_stay it.failures_are in
    let exact : AllSound after
    → IsExact start requests (told_by i f run) (slice_set told i a) after = λ trusted.
    let before = owes.sound (λ u. x.sound_before u (trusted u)) in
    let it = s.sound (trusted r.unit) in
    record {
      same = ap (told_by i f) before.same ∙ ap (λ x. (set told i x.0, x.1)) (sym it.is);
      errors = λ u. omega (
        arith,
        before.errors u,
        more it u,
        errors-set u requests told i r a own.stands own.untold,
      );
      infallible = λ u never.
          let none : tells_error u r a ≡ 0 = none_told u r.unit (is_error a)
          (λ own. it.lost ∙ ap is_lost (it.infallible
          (ap (λ v. is_infallible (slice_get units v)) (sym own) ∙ sure_stays start units owes.all_attributes u
          ∙ never))) in
          omega (arith, before.infallible u never, more it u, none);
    } in
    record {
      run = told_by i f run;
      ledger = ledger_carries_out (disks_of start) requests run i f
          (to_come_alike requests now run (sym owes.looks) i r own)
          (λ k older below it. may k older below (to_come_alike requests run now owes.looks k older it))
          s.fits owes.ledger;
      looks =
          let seen = step_looks s.outcome Done r run.1 (disks_of units) (ap (λ w. w.1) owes.looks)
          ∙ sym s.looks in
          outlines-set run.0 i (step_of f run.1)
          ∙ ap₂ (λ l x. (set l i x.0, x.1)) (ap (λ w. w.0) owes.looks) seen
          ∙ sym (outlines-set told i (a, disks_of after));
      faithful = λ trusted. exact (all_sound start after (x.all_attributes_stay ∙ owes.all_attributes) trusted);
      sound_before = λ u sound. owes.sound_before u (x.sound_before u sound);
      well_formed_if_sound = λ whole. x.well_formed_if_sound (owes.well_formed_if_sound whole);
      sound = exact;
      tell = λ k q b asked at begun. elim (cases_eq k i) [
        | inl same ↦
            let one : Some r ≡ Some q = sym own.stands ∙ ap (slice_get requests) (sym same) ∙ asked in
            let other : Some a ≡ Some b = sym (slice_get-set_same told i a
            (slice_get_within told i TooLong own.untold)) ∙ ap (slice_get (set told i a)) (sym same)
            ∙ at in
            let one_is : r ≡ q = cc in let other_is : a ≡ b = cc in
            subst₂ (λ (q : Request) (b : Answer). ReportsTransfer q.act b) one_is other_is
            (s.tells (ap has_begun other_is ∙ begun))
        | inr other ↦ owes.tell k q b asked (sym (slice_get-set_other told i k a other) ∙ at) begun
      ];
      counted = length-set told i a ∙ owes.counted;
      all_attributes = x.all_attributes_stay ∙ owes.all_attributes;
    }

-- ---- two outstanding requests

-- two requests conflict either way
pub clash_turned : (r s : Request) → clash r s ≡ false → clash s r ≡ false
clash_turned r s h =
    let units : nat_eq s.unit r.unit ≡ nat_eq r.unit s.unit = grind (arith, nat_tests) in
    let starts : max (lbn_of s.act) (lbn_of r.act) ≡ max (lbn_of r.act) (lbn_of s.act) = omega arith in
    let ends : min (lbn_of s.act + blocks_named s.act) (lbn_of r.act + blocks_named r.act) ≡ min
    (lbn_of r.act + blocks_named r.act) (lbn_of s.act + blocks_named s.act) = omega arith in
    rw (
      and_comm (is_moving s.act) (is_moving r.act),
      units,
      or_comm (is_writing s.act) (is_writing r.act),
      starts,
      ends,
    ) h

pub separate_turned : (p q : Posted) → AreSeparate p q → AreSeparate q p
separate_turned p q separate = record {
  two = λ same. separate.two (sym same);
  beside = λ meet. separate.beside (omega arith);
  clear = clash_turned p.request q.request separate.clear;
}

pub separate_others : (due : List Posted) (j : ℕ) (p : Posted) → AllPairs AreSeparate due
    → slice_get due j ≡ Some p
    → All (AreSeparate p) (remove due j)
separate_others due j p separate at = pairs_others AreSeparate AreSeparate
    (λ y z two. (two, separate_turned y z two)) due j p separate at

-- ---- what is still to come

pub is_told : (act : Act) (e : End) (buffer : List ℕ) → answer_of act e buffer ≢ TooLong
is_told (Online protect) e buffer same = cc
is_told _ e buffer same = cc

-- if another answer is written, the same are still to come
pub told_at : (requests : List Request) (told : List Answer) (i k : ℕ) (a : Answer) (r : Request) → k ≢ i
    → IsToCome requests told k r → IsToCome requests (slice_set told i a) k r
told_at requests told i k a r other it =
    record { stands = it.stands; short = it.short; untold = slice_get-set_other told i k a other ∙ it.untold }

-- and what is still to come was so before
was_to_come : (requests : List Request) (told : List Answer) (i k : ℕ) (a : Answer) (r : Request)
    → i < length told → a ≢ TooLong → IsToCome requests (slice_set told i a) k r
    → (k ≢ i) × IsToCome requests told k r
was_to_come requests told i k a r low new it = elim (cases_eq k i) [
  | inl same ↦
      let both : Some a ≡ Some TooLong = sym (slice_get-set_same told i a low)
      ∙ ap (slice_get (set told i a)) (sym same) ∙ it.untold in
      let is : a ≡ TooLong = cc in absurd (new is)
  | inr other ↦ (
    other,
    record {
      stands = it.stands;
      short = it.short;
      untold = sym (slice_get-set_other told i k a other) ∙ it.untold;
    },
  )
]

-- ---- what is due

-- one of these is at index k
record StandsAt (due : List Posted) (d : Posted) (k : ℕ) : Type 0 where
  index : ℕ
  low : index < length due
  place : (get_or due index d).place ≡ k

find : (due : List Posted) (d : Posted) (k : ℕ) → StandsAt due d k ⊎ All (IsNotAt k) due
find [] d k = inr (All-nil (IsNotAt k))
find (p ∷ rest) d k = elim (cases_eq p.place k) [
  | inl same ↦ inl (record { index = 0; low = omega arith; place = same })
  | inr other ↦ (elim (find rest d k) [
    | inl it ↦ inl (record { index = suc it.index; low = omega (arith, it.low); place = it.place })
    | inr none ↦ inr (All-cons (IsNotAt k) p rest other none)
  ])
]

pub due_start : (requests : List Request) → AreUnexecuted requests 0 (untold requests) []
due_start requests = record {
  each = All-nil (IsUnexecuted requests 0 (untold requests));
  in_order = λ i j d before within. absurd (omega arith);
  no_other = λ k r it none. omega arith;
  untold = λ k le low. untold_at requests k _
      (slice_get-get_or requests k (record { unit = 0; act = Available }) low);
}

-- an index that differs from that of one, and at which none of the others is, is not the index of any
pub due_back : (due : List Posted) (j k : ℕ) (d : Posted) → j < length due → (get_or due j d).place ≢ k
    → All (IsNotAt k) (remove due j) → All (IsNotAt k) due
due_back due j k d low other none =
    let p = get_or due j d in
    subst (All (IsNotAt k)) (put_back due j p (slice_get-get_or due j d low))
    (All-insert (IsNotAt k) (remove due j) j p other none)

module _ {requests : List Request} {n : ℕ} {told : List Answer} {due : List Posted}
    (D : AreUnexecuted requests n told due) where
  -- one of the first n is one of the first n + 1
  still_due : All (IsUnexecuted requests (n + 1) told) due
  still_due k d l =
      let it = D.each k d l in
      record { before = omega (arith, it.before); to_come = it.to_come }

  -- the next request is too long
  pub due_skip : (r : Request) → slice_get requests n ≡ Some r → too_long r ≡ true
      → AreUnexecuted requests (n + 1) told due
  due_skip r asked long = record {
    each = still_due;
    in_order = D.in_order;
    no_other = λ k s it none. elim (cases_eq k n) [
      | inl same ↦
          (let both : Some r ≡ Some s = sym asked ∙ ap (slice_get requests) (sym same) ∙ it.stands in
          let is : r ≡ s = cc in absurd (cc (long, it.short, ap too_long is)))
      | inr other ↦ omega (arith, D.no_other k s it none)
    ];
    untold = λ k le. D.untold k (omega arith);
  }

  -- the next request is posted
  pub due_post : (p : Posted) → p.place ≡ n → slice_get requests p.place ≡ Some p.request
      → too_long p.request ≡ false → AreUnexecuted requests (n + 1) told (due ++ p ∷ [])
  due_post p place asked short = record {
    each = All-push (IsUnexecuted requests (n + 1) told) due p still_due (record {
      before = omega (arith, place);
      to_come = record {
        stands = asked;
        short = short;
        untold = D.untold p.place (omega arith) (slice_get_within requests p.place p.request asked);
      };
    });
    in_order = all_pairs_push IsEarlier due p D.in_order
        (λ k d l. omega (arith, (D.each k d l).before, place));
    no_other = λ k r it none.
        let other : p.place ≢ k = All-at (IsNotAt k) (due ++ p ∷ []) (length due) p none
        (slice_get-last due (length due) p refl) in
        omega (arith, D.no_other k r it (All-front (IsNotAt k) due (p ∷ []) none), other, place);
    untold = λ k le. D.untold k (omega arith);
  }

  module _ (j : ℕ) (d : Posted) (low : j < length due) where
    abbrev p : Posted
    p = get_or due j d

    at_p : slice_get due j ≡ Some p
    at_p = slice_get-get_or due j d low

    -- an eligible one may be executed before each older one that is to come
    pub due_before : AllPairs AreSeparate due → IsEligible (commands_in due) j → (k : ℕ) (older : Request)
        → k < p.place
        → IsToCome requests told k older → MayExecuteBefore older p.request
    due_before separate may k older below it = elim (find due d k) [
      | inl found ↦
          (let m = found.index in let q = get_or due m d in
          let first : m < j = elim (cases_lt m j) [
            | inl low ↦ low
            | inr past ↦ (elim (cases_eq m j) [
              | inl same ↦ absurd (omega (arith, ap (λ at. (get_or due at d).place) same, found.place))
              | inr other ↦ absurd (omega (arith, D.in_order j m d (omega arith) found.low, found.place))
            ])
          ] in
          let asked : Some q.request ≡ Some older = sym (D.each m d found.low).to_come.stands
          ∙ ap (slice_get requests) found.place ∙ it.stands in
          let is : q.request ≡ older = cc in
          subst (λ r. MayExecuteBefore r p.request) is (record {
            may_overtake = may_overtake q p (may.may_overtake m (posted_command q) (posted_command p) first
                (command_at m found.low) (command_at j low));
            clear = (separate m j d first low).clear;
          }))
      | inr none ↦ absurd (omega (arith, D.no_other k older it none, (D.each j d low).before))
    ]
      where
        command_at : (m : ℕ) → m < length due
            → slice_get (commands_in due) m ≡ Some (posted_command (get_or due m d))
        command_at m low = slice_get-map posted_command due m
            ∙ ap (option_map posted_command) (slice_get-get_or due m d low)

    -- it is executed
    pub due_done : (a : Answer) → a ≢ TooLong → AllPairs AreSeparate due
        → AreUnexecuted requests n (slice_set told p.place a) (remove due j)
    due_done a new separate =
        let own = D.each j d low in
        let others = separate_others due j p separate at_p in
        record {
          each = λ k q l.
              let was = All-remove (IsUnexecuted requests n told) due j D.each k q l in
              record {
                before = was.before;
                to_come =
                    told_at requests told p.place _ a _ (λ same. (others k q l).two (sym same)) was.to_come;
              };
          in_order = all_pairs_remove IsEarlier due j low D.in_order;
          no_other = λ k r it none.
              let was = was_to_come requests told p.place k a r
              (slice_get_within told p.place TooLong own.to_come.untold) new it in
              D.no_other k r was.1 (due_back due j k d low (λ same. was.0 (sym same)) none);
          untold = λ k le within. slice_get-set_other told p.place k a
              (λ same. omega (arith, own.before, same)) ∙ D.untold k le within;
        }

-- if every command is executed, no answer is to come
pub due_none : (requests : List Request) (n : ℕ) (told : List Answer) → length requests ≤ n
    → AreUnexecuted requests n told [] → NoneToCome requests told
due_none requests n told all D k r it =
    omega (arith, D.no_other k r it (All-nil (IsNotAt k)), slice_get_within requests k r it.stands, all)

-- ---- nothing is still to come

module _ {start : Units} {requests : List Request} {told : List Answer} {units : Units}
    (owes : UnexecutedInvariant start requests told units) (none : NoneToCome requests told) where
  ran : InOrderWithFailures (disks_of start) requests owes.run.0 owes.run.1
  ran = ledger_closes (disks_of start) requests owes.run
      (λ k r it. none k r (to_come_alike requests owes.run (told, disks_of units) owes.looks k r it))
      owes.ledger

  pub owes_end : AllSound units → InOrderWithFailures (disks_of start) requests told (disks_of units)
  owes_end trusted = subst (λ (w : List Answer × Disks). InOrderWithFailures (disks_of start) requests w.0 w.1)
      (owes.sound trusted).same ran

  -- if no answer reports a drive error, it is the in-order run
  pub owes_untold : AllSound units → ((u : ℕ) → drive_errors u requests told ≡ 0)
      → (told, disks_of units) ≡ run_in_order (disks_of start) requests
  owes_untold trusted none = losses_told (disks_of start) requests told (disks_of units)
      (owes_end trusted) none

  -- and if no store failed, too
  pub owes_plain : AllSound units → ((u : ℕ)
      → failures_at (slice_get units u) ≡ failures_at (slice_get start u))
      → (told, disks_of units) ≡ run_in_order (disks_of start) requests
  owes_plain trusted none = owes_untold trusted (λ u. omega (arith, (owes.sound trusted).errors u, none u))

  -- over any stores, its outlines are those of the in-order run
  looks : outlines (told, disks_of units) ≡ outlines (run_in_order (disks_of start) requests)
  looks = sym owes.looks ∙ ap outlines (sym ran.gives)
      ∙ run_looks ran.fixed (disks_of start) (disks_of start) refl
      ∙ ap (λ rs. outlines (run_in_order (disks_of start) rs)) ran.are_requests

  -- and so each answer matches the one there
  answered : AllAnswersMatch requests (run_in_order (disks_of start) requests).0 told
  answered k r b a asked there here =
      let same : Some (outline a) ≡ Some (outline b) =
      sym (slice_get-map outline told k ∙ ap (option_map outline) here) ∙ ap (λ w. slice_get w.0 k) looks
      ∙ slice_get-map outline (run_in_order (disks_of start) requests).0 k ∙ ap (option_map outline) there in
      goes_as r.act b a (let one : outline a ≡ outline b = cc in
      one) (plain_each requests (disks_of start) k r b asked there).clean (owes.tell k r a asked here)

  pub owes_seems : MatchesUpToData start requests told units
  owes_seems = record { left = ap (λ w. w.1) looks; answered = answered }

  -- and has its request's form
  pub owes_formed : (k : ℕ) (r : Request) (a : Answer) → slice_get requests k ≡ Some r
      → slice_get told k ≡ Some a → IsAnswerOf r a
  owes_formed k r a asked here =
      let answers = (run_in_order (disks_of start) requests).0 in let b = get_or answers k TooLong in
      let there = slice_get-get_or answers k TooLong
      (omega (arith, length-runs step requests (disks_of start), slice_get_within requests k r asked)) in
      let goes = answered k r b a asked there here in
      let is = (plain_each requests (disks_of start) k r b asked there).formed in
      by b goes is (is_done b) refl
    where
      by : (b : Answer) → AnswerMatches r.act b a → IsAnswerOf r b → (done : Bool) → is_done b ≡ done
          → IsAnswerOf r a
      by b goes is false undone = let same : b ≡ a = sym (goes.same undone) in subst (IsAnswerOf r) same is
      by b goes is true done = record {
        long = λ long. absurd (cc (done, ap is_done (is.long long)));
        short = λ _. (goes.ends done).form;
      }
