-- The steps of a driver: those of its host and those of the unexecuted requests, together.
use Rattle.std.proofs.Common.{◌≡◌, ◌≢◌, ℕ, ◌+◌, ◌<◌, ◌≤◌, inl, inr, false, true, List, [], ◌∷◌, ◌++◌, length, map, set, get_or, Option, Some, None, refl, sym, ap, ap₂, ◌∙◌, arith, subst, subst₂, length-append}
use Rattle.std.specs.Prelude.{slice_get, slice_set, remove, replicate, All}
use Rattle.std.proofs.lemmas.List.{length-map, map_push, nil_from_length}
use Rattle.std.proofs.lemmas.Option.{slice_get_within}
use Rattle.uda_mem.specs.Put.{put, part}
use Rattle.uda_mem.proofs.PutLaws.{length-part}
use Rattle.uda_packet.specs.declared.command.Command.{Command}
use Rattle.uda_packet.specs.declared.end.End.{End}
use Rattle.uda_exec.specs.Disks.{PENDING_LIMIT, basic_exec}
use Rattle.uda_disk.specs.Request.{Request}
use Rattle.uda_disk.specs.InOrderRun.{too_long}
use Rattle.uda_disk.specs.Answer.{Answer, TooLong}
use Rattle.uda_posting.specs.Posting.{Posted, posted_command, answer_of, buffer_of, write_payload}
use Rattle.uda_disk.specs.Values.{request_value}
use Rattle.uda_disk.specs.Units.{Units}
use Rattle.uda_posting.specs.Outstanding.{AvoidsBuffer, BuffersDisjoint, AreSeparate, UnexecutedInvariant, Ended, answer_now, outstanding_of, OutstandingInvariant}
use Rattle.uda_posting.specs.Ledger.{NoneToCome}
use Rattle.uda_posting.proofs.Posts.{buffer-at, bytes_fit, ready-put}
use Rattle.uda_posting.proofs.Owing.{clash_turned}
use Rattle.uda_posting.proofs.Ending.{keeps_start, keeps_put, keeps_skip, keeps_post, Ends, keeps_execute, keeps_deliver, keeps_end}
use Rattle.uda_host.specs.Layout.{buffers_start, buffer_address, memory_size}
use Rattle.uda_host.specs.HostPortAgreement.{IsAbove}
use Rattle.uda_host.specs.Host.{HostState, outstanding_count, BuffersStay, TakesEnd, TurnWithoutEnd, OneFetched, OneDone, IsIdle}
use Rattle.uda_driver.specs.Outstanding.{posted_with, occupied_count, clashes_with, IsFit, AreFit}
use Rattle.uda_driver.specs.DriverStep.{PostsRequest, IsReferred}
use Rattle.uda_driver.specs.RunInvariant.{BufferTableInvariant, RequestsInvariant}
use Rattle.uda_driver.specs.declared.outstanding.Outstanding.{Outstanding}
use Rattle.uda_driver.proofs.Slots.{set_at, freed_at}
use Rattle.uda_driver.proofs.BufferTableInvariant.{none_at, outs_none, of_alive, outs_post, outs_execute, own, own_reference, outs_take}

-- ---- buffers

-- a posted request that isn't too long, with one of the host's buffers
pub record IsBuffered (p : Posted) : Type 0 where
  pub short : too_long p.request ≡ false
  pub number : ℕ
  pub within : number < PENDING_LIMIT
  pub address_is : p.address ≡ buffer_address number

pub is_above : (p : Posted) → IsBuffered p → IsAbove (posted_command p)
is_above p is meet =
    let buffer = buffer-at p.request.unit p.request.act p.address is.short in
    omega (arith, buffer.here (omega arith), is.address_is)

-- commands with two buffers share no byte
beside_from : (p q : Posted) → IsBuffered p → IsBuffered q → q.address ≢ p.address
    → BuffersDisjoint (posted_command q) (posted_command p)
beside_from p q is that other meet =
    let own = buffer-at p.request.unit p.request.act p.address is.short in
    let its = buffer-at q.request.unit q.request.act q.address that.short in
    other (omega (
      arith,
      own.small,
      own.here (omega arith),
      its.small,
      its.here (omega arith),
      is.address_is,
      that.address_is,
    ))

-- ---- memory

-- while the buffers stay, so does the invariant
stay_kept : {start : Units} {requests : List Request} {n : ℕ} {due : List Posted} {ended : List Ended}
    {answers : List Answer} {units : Units} {memory after : List ℕ}
    → All IsBuffered (outstanding_of ended due) → BuffersStay memory after
    → OutstandingInvariant start requests n due ended answers units memory
    → OutstandingInvariant start requests n due ended answers units after
stay_kept {start} {requests} {n} {due} {ended} {answers} {units} {memory} {after} all stay keeps =
    let short = length-part after 0 buffers_start in
    subst (λ (m : List ℕ). OutstandingInvariant start requests n due ended answers units m) (sym stay.below)
    (keeps_put keeps 0 (part after 0 buffers_start)
    (λ k d low meet. is_above (get_or (outstanding_of ended due) k d) (all k d low) (omega (arith, short))))

has_buffer : {n : ℕ} (out : List (Option Outstanding)) → length out ≡ PENDING_LIMIT → AreFit n out
    → (number : ℕ) (one : Outstanding) → slice_get out number ≡ Some (Some one) → IsBuffered (posted_with number one)
has_buffer {n} out sized fit number one stands =
    record {
      short = (fit number one stands).short;
      number = number;
      within = omega (arith, slice_get_within out number (Some one) stands, sized);
      address_is = refl;
    }

-- ---- an end message

-- the first queued end message is that of the command that ended first
record FirstEnded (ended : List Ended) (e : End) : Type 0 where
  first : Ended
  later : List Ended
  is : ended ≡ first ∷ later
  end_is : first.end ≡ e

first_ended : (ended : List Ended) (e : End) (rest : List End) → e ∷ rest ≡ map (λ d. d.end) ended
    → FirstEnded ended e
first_ended [] e rest waits = absurd (cc)
first_ended (d ∷ later) e rest waits = record { first = d; later = later; is = refl; end_is = cc }

-- the conditions for being outstanding, of the first n requests, hold for more requests
pub still_fit : {n m : ℕ} {one : Outstanding} → n ≤ m → IsFit n one → IsFit m one
still_fit le fit = record { before = omega (arith, fit.before); short = fit.short; prepared = fit.prepared }

-- ---- nothing is outstanding yet

pub driving_start : {host : HostState} {out : List (Option Outstanding)} (requests : List Request)
    (answers : List Answer) → IsIdle host → out ≡ replicate PENDING_LIMIT None
    → RequestsInvariant host.units requests 0 out answers host
driving_start {host} {out} requests answers idle none = record {
  due = [];
  ended = [];
  are_unexecuted = idle.none_due;
  keeps = keeps_start host.units requests answers host.memory;
  outs = outs_none out host.waiting none idle.none_wait;
  fit = λ number one stands. absurd (none_at PENDING_LIMIT number one
      (sym (ap (λ (o : List (Option Outstanding)). slice_get o number) none) ∙ stands));
}

-- ---- the steps

module _ {start : Units} {requests : List Request} {n : ℕ} {out : List (Option Outstanding)} {answers : List Answer}
    {host : HostState} (D : RequestsInvariant start requests n out answers host) where
  stays : {after : List ℕ} → BuffersStay host.memory after
      → OutstandingInvariant start requests n D.due D.ended answers host.units after
  stays stay = stay_kept (of_alive D.outs IsBuffered (has_buffer _ D.outs.sized D.fit)) stay D.keeps

  -- as many requests are outstanding as the host has commands
  pub counted_out : occupied_count out ≡ outstanding_count host
  counted_out =
      omega (
        arith,
        D.outs.counted,
        length-append (map (λ (d : Ended). d.posted) D.ended) D.due,
        length-map D.ended (λ (d : Ended). d.posted),
        length-map D.ended (λ (d : Ended). d.end),
        ap length D.outs.waits,
        ap length D.are_unexecuted,
        length-map D.due posted_command,
      )

  -- a turn
  pub driving_works : {new : HostState} → TurnWithoutEnd host new → RequestsInvariant start requests n out answers new
  driving_works (OneFetched f) = rw f.is
      (record {
        due = D.due;
        ended = D.ended;
        are_unexecuted = D.are_unexecuted;
        keeps = stays f.buffers;
        outs = D.outs;
        fit = D.fit;
      })
  driving_works {new} (OneDone x) =
      let t : Ends start requests n D.due D.ended answers x.place x.end
      (basic_exec new.units new.due) new.memory =
      keeps_execute D.keeps D.are_unexecuted refl D.outs.separate x.executes in
      rw x.is (record {
        due = remove D.due x.place;
        ended = D.ended ++ record { posted = t.posted; end = x.end } ∷ [];
        are_unexecuted = t.pending;
        keeps = t.keeps;
        outs = outs_execute D.outs x.place t.posted x.end t.stands t.reference;
        fit = D.fit;
      })

  module _ {new : HostState} {e : End} (takes : TakesEnd host e new) where
    split : FirstEnded D.ended e
    split = first_ended D.ended e new.waiting (sym takes.waited ∙ D.outs.waits)

    outs_split : BufferTableInvariant out D.due (split.first ∷ split.later) (e ∷ new.waiting)
    outs_split = subst₂ (λ (es : List Ended) (w : List End). BufferTableInvariant out D.due es w) split.is takes.waited D.outs

    -- an end message is that of an outstanding request
    pub end_refers : IsReferred e.reference out
    end_refers =
        let it = own outs_split in
        record { number = it.number; one = it.one; stands = it.stands; refers = own_reference outs_split }

    -- once its answer is written, that request is no longer outstanding
    pub driving_takes : length requests ≤ length answers → (done : IsReferred e.reference out)
        → RequestsInvariant start requests n (set out done.number None)
        (slice_set answers done.one.place (answer_of (request_value done.one.request.now).act e
        (buffer_of (posted_with done.number done.one) new.memory))) new
    driving_takes room done =
        let p = posted_with done.number done.one in
        let back = outs_take outs_split done.number done.one done.stands done.refers in
        let delivered = keeps_deliver room (subst
        (λ (es : List Ended). OutstandingInvariant start requests n D.due es answers host.units new.memory) split.is
        (stays takes.buffers)) in
        let told : answer_now new.memory split.first ≡ answer_of p.request.act e (buffer_of p new.memory) =
        ap₂ (λ (q : Posted) (x : End). answer_of q.request.act x (buffer_of q new.memory))
        (sym back.same) split.end_is in
        let answers_are = ap₂ (slice_set answers) (ap (λ (q : Posted). q.place) (sym back.same)) told in
        rw takes.is (record {
          due = D.due;
          ended = split.later;
          are_unexecuted = D.are_unexecuted;
          keeps = subst (λ (now : List Answer). OutstandingInvariant start requests n D.due split.later now host.units
              new.memory) answers_are delivered;
          outs = back.outs;
          fit = λ k one stands. D.fit k one (freed_at out done.number k one
              (slice_get_within out done.number _ done.stands) stands).1;
        })

  -- one that is too long is never posted
  pub driving_skip : (r : Request) → slice_get requests n ≡ Some r → too_long r ≡ true
      → slice_get answers n ≡ Some TooLong → RequestsInvariant start requests (n + 1) out answers host
  driving_skip r asked long blank = record {
    due = D.due;
    ended = D.ended;
    are_unexecuted = D.are_unexecuted;
    keeps = keeps_skip D.keeps r asked long blank;
    outs = D.outs;
    fit = λ number one stands. still_fit (omega arith) (D.fit number one stands);
  }

  module _ {one : Outstanding} {new : HostState} {after : List (Option Outstanding)} (puts : PostsRequest one host out new after)
      (fit : IsFit (n + 1) one) (place : one.place ≡ n)
      (asked : slice_get requests one.place ≡ Some (request_value one.request.now))
      (clear : (number : ℕ) (other : Outstanding) → slice_get out number ≡ Some (Some other)
      → clashes_with (request_value one.request.now) (Some other) ≡ false)
      (size : length host.memory ≡ memory_size) (left : Answer) where
    abbrev pub now : Posted
    now = posted_with puts.number one

    now_buffered : IsBuffered now
    now_buffered = record {
      short = fit.short;
      number = puts.number;
      within = omega (arith, slice_get_within out puts.number None puts.free, D.outs.sized);
      address_is = refl;
    }

    other_buffer : (k : ℕ) (other : Outstanding) → slice_get out k ≡ Some (Some other)
        → (posted_with k other).address ≢ now.address
    other_buffer k other stands same =
        let both : Some (Some other) ≡ Some None = sym stands ∙ ap (slice_get out) (omega (arith, same))
        ∙ puts.free in cc

    separate : (k : ℕ) (other : Outstanding) → slice_get out k ≡ Some (Some other)
        → AreSeparate (posted_with k other) now
    separate k other stands = record {
      two = λ same. omega (arith, (D.fit k other stands).before, place);
      beside = beside_from now (posted_with k other) now_buffered
          (has_buffer out D.outs.sized D.fit k other stands) (other_buffer k other stands);
      clear = clash_turned now.request (posted_with k other).request (clear k other stands);
    }

    kept_brought : OutstandingInvariant start requests (n + 1) (D.due ++ now ∷ []) D.ended
        (slice_set answers now.place left) host.units
        (put host.memory now.address (write_payload now.request.act))
    kept_brought =
        let brought = write_payload now.request.act in
        let fits = (bytes_fit now.request.act now.address).fits in
        let buffer = buffer-at now.request.unit now.request.act now.address fit.short in
        let ready = ready-put now host.memory fit.short (omega arith)
        (omega (arith, slice_get_within out puts.number None puts.free, D.outs.sized, size)) in
        let misses = of_alive D.outs (λ q. AvoidsBuffer now.address (length brought) (posted_command q))
        (λ k other stands meet. (separate k other stands).beside
        (omega (arith, fits, buffer.here (omega (arith, fits))))) in
        keeps_post (keeps_put D.keeps now.address brought misses) now left place asked ready

    fit_after : AreFit (n + 1) (set out puts.number (Some one))
    fit_after = λ k other stands. elim (set_at out puts.number k (Some one) (Some other)
        (slice_get_within out puts.number None puts.free) stands) [
          | inl it ↦ (let same = it.1 in let is : one ≡ other = cc in subst (IsFit (n + 1)) is fit)
          | inr it ↦ still_fit (omega arith) (D.fit k other it.1)
        ]

    -- its payload is in its buffer, and its command is posted
    pub driving_post : RequestsInvariant start requests (n + 1) after (slice_set answers now.place left) new
    driving_post =
        let outs = outs_post D.outs puts.number one puts.free separate in
        let kept = stay_kept (of_alive outs IsBuffered
        (has_buffer (set out puts.number (Some one)) outs.sized fit_after)) puts.posts.buffers
        kept_brought in
        rw (puts.out_is, puts.posts.is) (record {
          due = D.due ++ now ∷ [];
          ended = D.ended;
          are_unexecuted = ap (λ (cs : List Command). cs ++ posted_command now ∷ []) D.are_unexecuted
              ∙ sym (map_push posted_command D.due now);
          keeps = kept;
          outs = outs;
          fit = fit_after;
        })

  -- all are posted, and nothing is outstanding
  pub driving_end : length answers ≡ length requests → length requests ≤ n → outstanding_count host ≡ 0
      → UnexecutedInvariant start requests answers host.units × NoneToCome requests answers
  driving_end size all none =
      let none_due = nil_from_length D.due (omega
      (arith, none, ap length D.are_unexecuted, length-map D.due posted_command)) in
      let none_ended = nil_from_length D.ended
      (omega (arith, none, ap length D.outs.waits, length-map D.ended (λ (d : Ended). d.end))) in
      keeps_end size all (subst₂ (λ (due : List Posted)
      (ended : List Ended). OutstandingInvariant start requests n due ended answers host.units host.memory) none_due
      none_ended D.keeps)
