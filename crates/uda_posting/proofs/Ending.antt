-- The invariant of a driver, as requests are posted, their commands executed, and later their end messages
-- received.
use Rattle.std.proofs.Common.{◌≡◌, ◌≢◌, true, ℕ, ◌+◌, ◌<◌, ◌≤◌, inl, inr, List, [], ◌∷◌, ◌++◌, length, get_or, Some, refl, sym, ap, ◌∙◌, arith, subst}
use Rattle.std.specs.Prelude.{slice_get, slice_set, option_map, map, remove, All, AllPairs}
use Rattle.std.proofs.lemmas.List.{length-map, ext_get_or}
use Rattle.std.proofs.lemmas.List.Elements.{All-nil, All-cons, All-head, All-tail, All-push}
use Rattle.std.proofs.lemmas.Bool.{cases_eq}
use Rattle.std.proofs.lemmas.Option.{slice_get_within, slice_get-map, slice_get-get_or}
use Rattle.uda_mem.specs.Put.{part, put}
use Rattle.uda_mem.proofs.PutLaws.{length-part, length-put, part-put_apart}
use Rattle.uda_packet.specs.declared.command.Command.{Command}
use Rattle.uda_packet.specs.declared.end.End.{End}
use Rattle.uda_exec.specs.Disks.{ExecState}
use Rattle.uda_exec.specs.Commands.{buffer_start, memory_write_length}
use Rattle.uda_exec.specs.Transfers.{ChangesAt}
use Rattle.uda_exec.specs.Execution.{Executes, ExecutesAt}
use Rattle.uda_exec.specs.Order.{IsEligible}
use Rattle.uda_exec.proofs.Changes.{landing-le}
use Rattle.uda_exec.proofs.Requests.{act_of-put}
use Rattle.uda_disk.specs.Request.{Available, Request}
use Rattle.uda_disk.specs.Answer.{Answer, TooLong}
use Rattle.uda_disk.specs.InOrderRun.{too_long}
use Rattle.uda_disk.proofs.Slots.{slice_get-set_same, slice_get-set_other}
use Rattle.uda_disk.proofs.Lists.{map-remove, All-remove, All-at, All-front, slice_get-last, pairs_first, pairs_rest}
use Rattle.uda_disk.specs.Units.{Units}
use Rattle.uda_posting.specs.Ledger.{untold, NoneToCome}
use Rattle.uda_posting.specs.Posting.{answer_of, Posted, posted_command, commands_in, buffer_of, Ready}
use Rattle.uda_posting.specs.Outstanding.{AvoidsBuffer, BuffersDisjoint, IsReadyIn, IsNotAt, AreSeparate, UnexecutedInvariant, Ended, answer_now, Tells, EndedNotAt, outstanding_of, OutstandingInvariant}
use Rattle.uda_posting.proofs.Owing.{separate_others, is_told, due_start, due_skip, due_post, due_before, due_back, due_done, due_none, owes_start, owes_done}

-- ---- memory

-- a command that is ready stays so, and its buffer as it was
record IsLeft (p : Posted) (memory after : List ℕ) : Type 0 where
  ready : Ready p memory → Ready p after
  buffer : buffer_of p after ≡ buffer_of p memory

-- by bytes that its buffer has not
left_put : (p : Posted) (memory : List ℕ) (at : ℕ) (bytes : List ℕ)
    → AvoidsBuffer at (length bytes) (posted_command p) → IsLeft p memory (put memory at bytes)
left_put p memory at bytes misses = record {
  ready = λ r. record {
    short = r.short;
    even = r.even;
    within = omega (arith, r.within, length-put memory at bytes);
    asks = act_of-put (posted_command p).op memory at bytes misses ∙ r.asks;
  };
  buffer = part-put_apart memory at bytes _ _ misses;
}

-- and by a command with a separate buffer
left_beside : (p : Posted) (c : Command) (memory after : List ℕ)
    → ChangesAt memory (buffer_start c.op) (memory_write_length c.op) after → BuffersDisjoint c (posted_command p)
    → IsLeft p memory after
left_beside p c memory after changes beside =
    let at = buffer_start c.op in let size = length-part after at (memory_write_length c.op) in
    let small = landing-le c.op in
    subst (IsLeft p memory) (sym changes) (left_put p memory at (part after at (memory_write_length c.op))
    (λ meet. beside (omega arith)))

-- an answer that is in an end message stays with its buffer
still_tells : (told : List Answer) (memory after : List ℕ) (d : Ended) → IsLeft d.posted memory after
    → Tells told memory d → Tells told after d
still_tells told memory after d left tells = tells
    ∙ ap (λ buffer. Some (answer_of d.posted.request.act d.end buffer)) (sym left.buffer)

-- ---- the outstanding ones

all_behind : {A : Type 0} (P : A → Type 0) (xs ys : List A) → All P (xs ++ ys) → All P ys
all_behind P [] ys all = all
all_behind P (x ∷ xs) ys all = all_behind P xs ys (All-tail P x (xs ++ ys) all)

all_ended : (P : Posted → Type 0) (ended : List Ended) (due : List Posted) → All P (outstanding_of ended due)
    → All (λ d. P d.posted) ended
all_ended P [] due all = All-nil (λ (d : Ended). P d.posted)
all_ended P (e ∷ ended) due all = All-cons (λ (d : Ended). P d.posted) e ended
    (All-head P e.posted (outstanding_of ended due) all)
    (all_ended P ended due (All-tail P e.posted (outstanding_of ended due) all))

-- one that is due is separate from those that have ended, and so are those that are due among them
ended_separate : (ended : List Ended) (due : List Posted) (j : ℕ) (p : Posted)
    → AllPairs AreSeparate (outstanding_of ended due)
    → slice_get due j ≡ Some p → All (λ d. AreSeparate d.posted p) ended × AllPairs AreSeparate due
ended_separate [] due j p separate at = (All-nil (λ (d : Ended). AreSeparate d.posted p), separate)
ended_separate (d ∷ rest) due j p separate at =
    let others = ended_separate rest due j p (pairs_rest AreSeparate d.posted (outstanding_of rest due) separate) at in
    let own = All-at (AreSeparate d.posted) due j p
    (all_behind (AreSeparate d.posted) (map (λ (e : Ended). e.posted) rest) due
    (pairs_first AreSeparate d.posted (outstanding_of rest due) separate)) at in
    (All-cons (λ (e : Ended). AreSeparate e.posted p) d rest own others.0, others.1)

-- ---- the steps

pub keeps_start : (units : Units) (requests : List Request) (answers : List Answer) (memory : List ℕ)
    → OutstandingInvariant units requests 0 [] [] answers units memory
keeps_start units requests answers memory = record {
  told = untold requests;
  owes = owes_start units requests;
  are_unexecuted = due_start requests;
  ready = All-nil (IsReadyIn memory);
  tell = All-nil (λ (d : Ended). Tells (untold requests) memory d);
  shown = λ k low. absurd (omega arith);
}

pub record Ends (start : Units) (requests : List Request) (n : ℕ) (due : List Posted) (ended : List Ended)
    (answers : List Answer) (j : ℕ) (e : End) (new : ExecState) (memory : List ℕ) : Type 0 where
  pub posted : Posted
  pub stands : slice_get due j ≡ Some posted
  pub reference : e.reference ≡ posted.place + 1
  pub keeps : OutstandingInvariant start requests n (remove due j)
      (ended ++ record { posted = posted; end = e } ∷ []) answers new.units memory
  pub pending : new.pending ≡ commands_in (remove due j)

module _ {start : Units} {requests : List Request} {n : ℕ} {due : List Posted} {ended : List Ended}
    {answers : List Answer} {units : Units} {memory : List ℕ}
    (keeps : OutstandingInvariant start requests n due ended answers units memory) where
  pub keeps_put : (at : ℕ) (bytes : List ℕ)
      → All (λ p. AvoidsBuffer at (length bytes) (posted_command p)) (outstanding_of ended due)
      → OutstandingInvariant start requests n due ended answers units (put memory at bytes)
  keeps_put at bytes misses =
      let left : All (λ p. IsLeft p memory (put memory at bytes)) (outstanding_of ended due) =
      λ k d l. left_put _ memory at bytes (misses k d l) in
      record {
        told = keeps.told;
        owes = keeps.owes;
        ready = λ k d l. (all_behind (λ p. IsLeft p memory (put memory at bytes))
            (map (λ d. d.posted) ended) due left k d l).ready (keeps.ready k d l);
        are_unexecuted = keeps.are_unexecuted;
        tell = λ k d l. still_tells keeps.told memory _ (get_or ended k d)
            (all_ended (λ p. IsLeft p memory (put memory at bytes)) ended due left k d l) (keeps.tell k d l);
        shown = keeps.shown;
      }

  -- the next request is too long, and so its answer says
  pub keeps_skip : (r : Request) → slice_get requests n ≡ Some r → too_long r ≡ true
      → slice_get answers n ≡ Some TooLong → OutstandingInvariant start requests (n + 1) due ended answers units memory
  keeps_skip r asked long blank = record {
    told = keeps.told;
    owes = keeps.owes;
    are_unexecuted = due_skip keeps.are_unexecuted r asked long;
    ready = keeps.ready;
    tell = keeps.tell;
    shown = λ k low not_due not_ended. elim (cases_eq k n) [
      | inl same ↦ rw same (blank ∙ sym (keeps.are_unexecuted.untold n (omega arith)
          (slice_get_within requests n r asked)))
      | inr other ↦ keeps.shown k (omega arith) not_due not_ended
    ];
  }

  -- the next request is posted; the answer at its index is not written
  pub keeps_post : (p : Posted) (left : Answer) → p.place ≡ n → slice_get requests p.place ≡ Some p.request
      → Ready p memory → OutstandingInvariant start requests (n + 1) (due ++ p ∷ []) ended
      (slice_set answers p.place left) units memory
  keeps_post p left place asked ready = record {
    told = keeps.told;
    owes = keeps.owes;
    are_unexecuted = due_post keeps.are_unexecuted p place asked ready.short;
    ready = All-push (IsReadyIn memory) due p keeps.ready ready;
    tell = keeps.tell;
    shown = λ k low not_due not_ended.
        let other : p.place ≢ k = All-at (IsNotAt k) (due ++ p ∷ []) (length due) p not_due
        (slice_get-last due (length due) p refl) in
        slice_get-set_other answers p.place k left (λ same. other (sym same))
        ∙ keeps.shown k (omega (arith, other, place))
        (All-front (IsNotAt k) due (p ∷ []) not_due) not_ended;
  }

  -- a pending command is executed
  pub keeps_execute : {j : ℕ} {old new : ExecState} {e : End} {left : List ℕ} → old.pending ≡ commands_in due
      → old.units ≡ units → AllPairs AreSeparate (outstanding_of ended due)
      → ExecutesAt j old memory e new left → Ends start requests n due ended answers j e new left
  keeps_execute {j} {old} {new} {e} {left} waits are separate x =
      let may : IsEligible (commands_in due) j = subst (λ (cs : List Command). IsEligible cs j) waits x.taken.may in
      let within : j < length due = omega (arith, may.stands, length-map due posted_command) in
      let blank : Posted = record {
        place = 0;
        address = 0;
        request = record { unit = 0; act = Available };
      } in
      let p = get_or due j blank in let c = posted_command p in let i = p.place in
      let at_p = slice_get-get_or due j blank within in
      let both : Some x.command ≡ Some c = sym x.taken.stands ∙ ap (λ cs. slice_get cs j) waits
      ∙ slice_get-map posted_command due j ∙ ap (option_map posted_command) at_p in
      let is : x.command ≡ c = cc in
      let it : Executes c units memory e new.units left =
      rw (← are) (subst (λ (c : Command). Executes c old.units memory e new.units left) is x.executes) in
      let two = ended_separate ended due j p separate at_p in
      let own = keeps.are_unexecuted.each j blank within in
      let new_end : Ended = record { posted = p; end = e } in
      let a = answer_now left new_end in let told = keeps.told in
      let others = separate_others due j p two.1 at_p in
      record {
        posted = p;
        stands = at_p;
        reference = it.answers.reference;
        keeps = record {
          told = slice_set told i a;
          owes = owes_done keeps.owes p own.to_come (due_before keeps.are_unexecuted j blank within two.1 may)
              (keeps.ready j blank within) it;
          are_unexecuted = due_done keeps.are_unexecuted j blank within a
              (is_told p.request.act e (buffer_of p left)) two.1;
          ready = λ k d l. (left_beside _ c memory left it.memory_stays (others k d l).beside).ready
              (All-remove (IsReadyIn memory) due j keeps.ready k d l);
          tell = All-push (Tells (slice_set told i a) left) ended new_end
              (λ k d l.
              let it_was = get_or ended k d in let own = two.0 k d l in
              slice_get-set_other told i it_was.posted.place a own.two
              ∙ still_tells told memory left it_was
              (left_beside it_was.posted c memory left it.memory_stays (λ meet. own.beside (omega arith)))
              (keeps.tell k d l))
              (slice_get-set_same told i a (slice_get_within told i TooLong own.to_come.untold));
          shown = λ k low not_due not_ended.
              let other : i ≢ k = All-at (EndedNotAt k) (ended ++ new_end ∷ [])
              (length ended) new_end not_ended (slice_get-last ended (length ended) new_end refl) in
              keeps.shown k low (due_back due j k blank within other not_due)
              (All-front (EndedNotAt k) ended (new_end ∷ []) not_ended)
              ∙ sym (slice_get-set_other told i k a (λ same. other (sym same)));
        };
        pending = x.taken.taken ∙ ap (λ (cs : List Command). remove cs j) waits
            ∙ sym (map-remove posted_command due j);
      }

-- the first end message is received, and its answer written
pub keeps_deliver : {start : Units} {requests : List Request} {n : ℕ} {due : List Posted} {d : Ended}
    {ended : List Ended} {answers : List Answer} {units : Units} {memory : List ℕ}
    → length requests ≤ length answers → OutstandingInvariant start requests n due (d ∷ ended) answers units memory
    → OutstandingInvariant start requests n due ended (slice_set answers d.posted.place (answer_now memory d)) units memory
keeps_deliver {d = d} {ended} {answers} {memory = memory} room keeps =
    let i = d.posted.place in let a = answer_now memory d in
    let own = All-head (Tells keeps.told memory) d ended keeps.tell in
    let low : i < length answers = omega (
      arith,
      slice_get_within keeps.told i a own,
      keeps.owes.counted,
      room,
    ) in
    record {
      told = keeps.told;
      owes = keeps.owes;
      are_unexecuted = keeps.are_unexecuted;
      ready = keeps.ready;
      tell = All-tail (Tells keeps.told memory) d ended keeps.tell;
      shown = λ k before not_due not_ended. elim (cases_eq k i) [
        | inl same ↦ rw same (slice_get-set_same answers i a low ∙ sym own)
        | inr other ↦
            slice_get-set_other answers i k a other
            ∙ keeps.shown k before not_due (All-cons (EndedNotAt k) d ended
            (λ same. other (sym same)) not_ended)
      ];
    }

-- every command is executed and no end message is queued: all answers are written
pub keeps_end : {start : Units} {requests : List Request} {n : ℕ} {answers : List Answer} {units : Units}
    {memory : List ℕ}
    → length answers ≡ length requests → length requests ≤ n
    → OutstandingInvariant start requests n [] [] answers units memory
    → UnexecutedInvariant start requests answers units × NoneToCome requests answers
keeps_end {start} {requests} {n} {answers} {units} {memory} size all keeps =
    let none = due_none requests n keeps.told all keeps.are_unexecuted in
    let same : answers ≡ keeps.told = ext_get_or TooLong answers keeps.told (size ∙ sym keeps.owes.counted)
    (λ k low.
    let shown = keeps.shown k (omega arith) (All-nil (IsNotAt k)) (All-nil (EndedNotAt k)) in
    let here = slice_get-get_or answers k TooLong low in
    let there = slice_get-get_or keeps.told k TooLong (omega (arith, keeps.owes.counted)) in
    let same : Some (get_or answers k TooLong) ≡ Some (get_or keeps.told k TooLong) = sym here ∙ shown
    ∙ there in
    cc) in
    subst (λ (told : List Answer). UnexecutedInvariant start requests told units × NoneToCome requests told) (sym same)
    (keeps.owes, none)
