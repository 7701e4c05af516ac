-- Facts of a run over any stores: its outlines are those of the in-order run.
use Rattle.std.proofs.Common.{◌≡◌, ℕ, zero, suc, ◌+◌, ◌≤◌, Bool, true, false, List, [], ◌∷◌, length, set, Option, Some, None, refl, sym, ap, ap₂, ◌∙◌, arith, subst, length-take}
use Rattle.std.specs.Prelude.{slice_get, slice_set, option_map, nat_lt, nat_eq, ◌&&◌, if◌then◌else◌}
use Rattle.std.proofs.Math.Bool.{or-false}
use Rattle.std.proofs.lemmas.Bool.{and_parts}
use Rattle.std.proofs.lemmas.List.{map-set}
use Rattle.std.proofs.lemmas.Option.{slice_get-map}
use Rattle.uda_packet.specs.declared.command.Command.{Command}
use Rattle.uda_packet.specs.declared.end.End.{End}
use Rattle.uda_disk.specs.declared.mode.Mode.{Mode}
use Rattle.uda_disk.specs.declared.refusal.Refusal.{Refusal}
use Rattle.uda_disk.specs.declared.refusal.Refusal.TheVariants.{UnitUnknown}
use Rattle.uda_disk.specs.Disk.{Disk, Disks}
use Rattle.uda_disk.specs.Status.{SUCCESS, DRIVE_ERROR}
use Rattle.uda_disk.specs.Request.{Act, Online, Available, Status, Read, Access, Write, Erase, Request, is_moving, extent_of, blocks_named}
use Rattle.uda_disk.specs.Answer.{Answer, TooLong, Moved, Data, blank_answer, status_of}
use Rattle.uda_disk.specs.Form.{SameForm, IsAnswerOf}
use Rattle.uda_disk.specs.RequestEffect.{CheckResult, Rejected, Accepted, check_result, check_at, check_by, refusal_on, refusal_status, is_accepted, TransferOutcome, Done, Lost, is_lost, IsWithinRange, answer_by, answer_on, transfer_status, transfer_bytes, disks_by, disk_after, mode_after, serve_by, serve_as}
use Rattle.uda_disk.specs.InOrderRun.{FixedRequest, requests_of, too_long, step_as, step, run_in_order, run_in_order_as}
use Rattle.uda_disk.specs.Units.{Units, disks_of, is_sound_at, failures_at, is_infallible, FixedAttributes, attributes_of, unit_attributes, modes_of}
use Rattle.uda_disk.proofs.Slots.{set-itself}
use Rattle.uda_disk.proofs.Errors.{is_error}
use Rattle.uda_disk.proofs.Outcomes.{error-lost}
use Rattle.uda_exec.specs.Commands.{is_transfer, blocks_asked, bytes_asked, buffer_start, buffer_length, memory_write_length}
use Rattle.uda_exec.specs.Effect.{World, passes_checks, plain_body}
use Rattle.uda_exec.specs.Execution.{world_of, bytes_of, Executes, TakesEffect, EndsTransfer}
use Rattle.uda_exec.proofs.Changes.{length-changes}
use Rattle.uda_mem.specs.Put.{part}
use Rattle.uda_mem.proofs.PutLaws.{length-part-le}
use Rattle.uda_posting.specs.Posting.{op_of, answer_of, Posted, posted_command, buffer_of, Ready}
use Rattle.uda_posting.specs.UpToData.{bare, bares, is_done, bytes_reported, bytes_named, ReportsTransfer, AnswerMatches, is_begun, has_begun, outline, outlines}
use Rattle.uda_posting.proofs.Serving.{passes_checks-own, shown_by, serves}
use Rattle.uda_posting.proofs.Posts.{names_same}

-- ---- one request, of which only outlines are seen

abbrev pub look : Answer × Disks → Option Answer × Disks
look x = (outline x.0, bares x.1)

abbrev bare_bar : CheckResult → CheckResult
bare_bar (Rejected refusal) = Rejected refusal
bare_bar (Accepted d) = Accepted (bare d)

check_result-bare : (act : Act) (slot : Option (Option Disk))
    → check_at act (option_map (option_map bare) slot) ≡ bare_bar (check_at act slot)
check_result-bare act None = refl
check_result-bare act (Some None) = refl
check_result-bare act (Some (Some d)) = by (refusal_on (extent_of act) d.size d.mode)
  where
    by : (found : Option Refusal) → check_by found (bare d) ≡ bare_bar (check_by found d)
    by None = refl
    by (Some refusal) = refl

outline-done : (o : TransferOutcome) (act : Act) (d : Disk)
    → outline (answer_on o act d) ≡ outline (answer_on Done act (bare d))
outline-done o (Online protect) d = refl
outline-done o Available d = refl
outline-done o Status d = refl
outline-done Done _ d = refl
outline-done (Lost k left) _ d = refl

-- what is seen of it follows from what is seen of the disks
abbrev glance_by : Request → CheckResult → Disks → Option Answer × Disks
glance_by r (Rejected refusal) ds = (outline (blank_answer r.act (refusal_status refusal)), ds)
glance_by r (Accepted d) ds = (
  outline (answer_on Done r.act d),
  slice_set ds r.unit (Some (bare (disk_after Done r.act d))),
)

look-by : (o : TransferOutcome) (r : Request) (b : CheckResult) (disks : Disks)
    → look (serve_by o r b disks) ≡ glance_by r (bare_bar b) (bares disks)
look-by o r (Rejected refusal) disks = refl
look-by o r (Accepted d) disks = ap₂ (λ a ds. (a, ds)) (outline-done o r.act d)
    (map-set (option_map bare) disks r.unit (Some (disk_after o r.act d)))

look-step : (o : TransferOutcome) (r : Request) (disks : Disks)
    → look (step_as o r disks) ≡ (let ds = bares disks in
    if too_long r then (Some TooLong, ds) else glance_by r (check_result ds r) ds)
look-step o r disks = by (too_long r)
  where
    by : (b : Bool) → look (if b then (TooLong, disks) else serve_as o r disks) ≡
        (if b then (Some TooLong, bares disks) else glance_by r (check_result (bares disks) r) (bares disks))
    by true = refl
    by false = look-by o r (check_result disks r) disks
        ∙ ap (λ b. glance_by r b (bares disks))
        (sym (ap (check_at r.act) (slice_get-map (option_map bare) disks r.unit)
        ∙ check_result-bare r.act (slice_get disks r.unit)))

pub step_looks : (o p : TransferOutcome) (r : Request) (disks others : Disks) → bares disks ≡ bares others
    → look (step_as o r disks) ≡ look (step_as p r others)
step_looks o p r disks others same =
    let glance : Disks → Option Answer × Disks =
    λ ds. if too_long r then (Some TooLong, ds) else glance_by r (check_result ds r) ds in
    look-step o r disks ∙ ap glance same ∙ sym (look-step p r others)

-- ---- a run

pub run_looks : (fixed : List FixedRequest) (disks others : Disks) → bares disks ≡ bares others
    → outlines (run_in_order_as disks fixed) ≡ outlines (run_in_order others (requests_of fixed))
run_looks [] disks others same = ap (λ ds. ([], ds)) same
run_looks (x ∷ xs) disks others same =
    let looks = step_looks x.outcome Done x.request disks others same in
    ap₂ (λ (l : Option Answer × Disks) (later : List (Option Answer) × Disks). (l.0 ∷ later.0, later.1)) looks
    (run_looks xs (step_as x.outcome x.request disks).1 (step x.request others).1 (ap (λ l. l.1) looks))

-- an answer of the in-order run has its request's form, and reports no drive error
pub record IsPlain (r : Request) (answer : Answer) : Type 0 where
  pub formed : IsAnswerOf r answer
  pub clean : is_error answer ≡ false

form-by : (act : Act) (b : CheckResult) → SameForm (blank_answer act 0) (answer_by Done act b)
form-by (Online protect) (Rejected refusal) = tt
form-by _ (Rejected refusal) = tt
form-by (Online protect) (Accepted d) = tt
form-by _ (Accepted d) = tt

step_plain : (r : Request) (disks : Disks) → IsPlain r (step r disks).0
step_plain r disks = by (too_long r) refl
  where
    by : (b : Bool) → too_long r ≡ b → IsPlain r (step r disks).0
    by true long =
        let is : step r disks ≡ (TooLong, disks) = rw long refl in
        rw is (record { formed = record { long = λ _. refl; short = λ short. absurd (cc) }; clean = refl })
    by false short =
        let is : step r disks ≡ serve_as Done r disks = rw short refl in
        record {
          formed = record { long = λ long. absurd (cc); short = λ _. rw is (form-by r.act (check_result disks r)) };
          clean = error-lost Done r disks short tt (λ lost. absurd (cc));
        }

pub plain_each : (requests : List Request) (disks : Disks) (k : ℕ) (r : Request) (a : Answer)
    → slice_get requests k ≡ Some r → slice_get (run_in_order disks requests).0 k ≡ Some a → IsPlain r a
plain_each [] disks k r a asked at = absurd (cc)
plain_each (q ∷ rest) disks zero r a asked at =
    let one : q ≡ r = cc in
    let other : (step q disks).0 ≡ a = cc in rw (← one, ← other) (step_plain q disks)
plain_each (q ∷ rest) disks (suc k) r a asked at = plain_each rest (step q disks).1 k r a asked at

-- ---- the facts in an outline

pub done-begun : (a : Answer) → is_error a ≡ false → is_done a ≡ has_begun a
done-begun (Moved status bytes) clean = rw clean (sym (or-false (nat_eq status SUCCESS)))
done-begun (Data status bytes) clean = rw clean (sym (or-false (nat_eq status SUCCESS)))
done-begun _ clean = refl

pub outline_same : (a b : Answer) → outline a ≡ outline b
    → (has_begun a ≡ has_begun b) × (has_begun a ≡ false → a ≡ b)
outline_same a b same = by (has_begun a) (has_begun b) refl refl same
  where
    by : (x y : Bool) → has_begun a ≡ x → has_begun b ≡ y
        → (let o : Option Answer = if x then None else Some a in o) ≡ (if y then None else Some b)
        → (has_begun a ≡ has_begun b) × (has_begun a ≡ false → a ≡ b)
    by true true x y e = (x ∙ sym y, λ not. absurd (cc))
    by false false x y e = (x ∙ sym y, λ _. cc)
    by _ _ x y e = absurd (cc)

pub goes_as : (act : Act) (plain told : Answer) → outline told ≡ outline plain → is_error plain ≡ false
    → (has_begun told ≡ true → ReportsTransfer act told) → AnswerMatches act plain told
goes_as act plain told same clean tells =
    let two = outline_same told plain same in let is = two.0 ∙ sym (done-begun plain clean) in
    record { same = λ undone. two.1 (is ∙ undone); ends = λ done. tells (is ∙ done) }

-- an answer that reports a drive error is not one of a transfer that succeeded
succeeds : (told : Answer) → status_of told ≡ DRIVE_ERROR → is_done told ≡ true → ⊥
succeeds (Moved status bytes) is done =
    let wrong : nat_eq DRIVE_ERROR SUCCESS ≡ true = rw is at done in
    absurd (cc)
succeeds (Data status bytes) is done =
    let wrong : nat_eq DRIVE_ERROR SUCCESS ≡ true = rw is at done in
    absurd (cc)
succeeds _ is done = absurd (cc)

-- a transfer that succeeded has all its bytes
pub done_is_whole : (act : Act) (plain told : Answer) → AnswerMatches act plain told → is_done told ≡ true
    → bytes_reported told ≡ bytes_named act
done_is_whole act plain told goes done = by (is_done plain) refl
  where
    tells : (t : ReportsTransfer act told) (o : TransferOutcome) → t.outcome ≡ o → bytes_reported told ≡ bytes_named act
    tells t Done is = t.bytes ∙ ap (λ (o : TransferOutcome). transfer_bytes o (bytes_named act)) is
    tells t (Lost k left) is = absurd (succeeds told (t.status ∙ ap transfer_status is) done)

    by : (b : Bool) → is_done plain ≡ b → bytes_reported told ≡ bytes_named act
    by true there = let t = goes.ends there in tells t t.outcome refl
    by false undone = let same : is_done told ≡ is_done plain = ap is_done (goes.same undone) in absurd (cc)

-- ---- one command

-- units with the same fixed attributes and modes are the same, except for their blocks
pub looks_stay : (after units : Units) → unit_attributes after ≡ unit_attributes units → modes_of after ≡ modes_of units
    → bares (disks_of after) ≡ bares (disks_of units)
looks_stay [] [] all_attributes modes = refl
looks_stay (None ∷ after) (None ∷ units) all_attributes modes =
    let rest_natures : unit_attributes after ≡ unit_attributes units = cc in
    let rest_modes : modes_of after ≡ modes_of units = cc in
    ap (λ (ds : Disks). None ∷ ds) (looks_stay after units rest_natures rest_modes)
looks_stay (Some x ∷ after) (Some y ∷ units) all_attributes modes =
    let rest_natures : unit_attributes after ≡ unit_attributes units = cc in
    let rest_modes : modes_of after ≡ modes_of units = cc in
    let attributes : attributes_of x ≡ attributes_of y = cc in let mode : x.mode ≡ y.mode = cc in
    ap₂ (λ d ds. Some d ∷ ds) (ap₂ (λ (n : FixedAttributes) (m : Mode). record {
      blocks = [];
      size = n.size;
      mode = m;
    }) attributes mode) (looks_stay after units rest_natures rest_modes)
looks_stay _ _ all_attributes modes = absurd (cc)

-- a transfer leaves disks unchanged, except for blocks
disks-still : (r : Request) (disks : Disks) (slot : Option (Option Disk)) → slice_get disks r.unit ≡ slot
    → is_moving r.act ≡ true → bares (disks_by Done r (check_at r.act slot) disks) ≡ bares disks
disks-still r disks None here moving = refl
disks-still r disks (Some None) here moving = refl
disks-still r disks (Some (Some d)) here moving = by (refusal_on (extent_of r.act) d.size d.mode)
  where
    mode : (act : Act) → is_moving act ≡ true → mode_after act d.mode ≡ d.mode
    mode (Online protect) moves = absurd (cc)
    mode Available moves = absurd (cc)
    mode _ moves = refl

    by : (found : Option Refusal) → bares (disks_by Done r (check_by found d) disks) ≡ bares disks
    by None =
        map-set (option_map bare) disks r.unit (Some (disk_after Done r.act d))
        ∙ ap (λ (m : Mode). set (bares disks) r.unit (Some (record { blocks = []; size = d.size; mode = m })))
        (mode r.act moving)
        ∙ set-itself (bares disks) r.unit (Some (bare d))
        (slice_get-map (option_map bare) disks r.unit ∙ ap (option_map (option_map bare)) here)
    by (Some refusal) = refl

-- an accepted transfer began
refused : (refusal : Refusal) → is_begun (refusal_status refusal) ≡ false
refused UnitUnknown = refl
refused _ = refl

begun-by : (o : TransferOutcome) (act : Act) (b : CheckResult) → has_begun (answer_by o act b) ≡ is_moving act && is_accepted b
begun-by o (Online protect) (Rejected refusal) = refl
begun-by o Available (Rejected refusal) = refl
begun-by o Status (Rejected refusal) = refl
begun-by o _ (Rejected refusal) = refused refusal
begun-by o (Online protect) (Accepted d) = refl
begun-by o Available (Accepted d) = refl
begun-by o Status (Accepted d) = refl
begun-by Done _ (Accepted d) = refl
begun-by (Lost k left) _ (Accepted d) = refl

begun-told : (o : TransferOutcome) (act : Act) (e : End) (buffer : List ℕ) → e.status ≡ transfer_status o
    → has_begun (answer_of act e buffer) ≡ is_moving act
begun-told o (Online protect) e buffer is = refl
begun-told o Available e buffer is = refl
begun-told o Status e buffer is = refl
begun-told Done _ e buffer is = rw is refl
begun-told (Lost k left) _ e buffer is = rw is refl

-- an answer has its act's form, and the status of its end message
pub has_form : (act : Act) (e : End) (buffer : List ℕ)
    → SameForm (blank_answer act 0) (answer_of act e buffer)
has_form (Online protect) e buffer = tt
has_form _ e buffer = tt

status-told : (act : Act) (e : End) (buffer : List ℕ) → status_of (answer_of act e buffer) ≡ e.status
status-told (Online protect) e buffer = refl
status-told _ e buffer = refl

-- and as many bytes as the end message of its transfer
bytes-told : (act : Act) (a : ℕ) (e : End) (left : List ℕ) (o : TransferOutcome) → is_transfer (op_of act a) ≡ true
    → bytes_of e.body ≡ bytes_of (plain_body (op_of act a) (transfer_bytes o (bytes_asked (op_of act a))))
    → bytes_of e.body ≤ bytes_asked (op_of act a)
    → buffer_start (op_of act a) + buffer_length (op_of act a) ≤ length left
    → bytes_reported (answer_of act e (part left (buffer_start (op_of act a)) (buffer_length (op_of act a))))
    ≡ transfer_bytes o (bytes_named act)
bytes-told (Read lbn n) a e left o moving told within room =
    omega (arith, length-take (bytes_of e.body) (part left a n), length-part-le left a n room, told)
bytes-told (Access lbn n) a e left o moving told within room = told
bytes-told (Write lbn payload) a e left o moving told within room = told
bytes-told (Erase lbn n) a e left o moving told within room = told
bytes-told (Online protect) a e left o moving told within room = absurd (cc)
bytes-told _ a e left o moving told within room = absurd (cc)

and_false : (b : Bool) → b && false ≡ true → ⊥
and_false true h = cc
and_false false h = cc

-- a command that calls a store is an accepted transfer
calls-moving : (act : Act) (a : ℕ) (acting : Bool) → nat_lt 0 (blocks_asked (op_of act a)) && acting ≡ true
    → is_transfer (op_of act a) && acting ≡ true
calls-moving act a false h = absurd (and_false _ h)
calls-moving (Online protect) a true h = absurd (cc)
calls-moving Available a true h = absurd (cc)
calls-moving Status a true h = absurd (cc)
calls-moving _ a true h = refl

-- it is as the step of its request, with this outcome
pub record IsServed (o : TransferOutcome) (p : Posted) (units : Units) (told : Answer) (after : Units) : Type 0 where
  pub is : (told, disks_of after) ≡ step_as o p.request (disks_of units)
  pub lost : is_error told ≡ is_lost o
  pub failures_are : failures_at (slice_get after p.request.unit) ≡ failures_at
      (slice_get units p.request.unit) + (if is_lost o then 1 else 0)
  pub infallible : is_infallible (slice_get units p.request.unit) ≡ true → o ≡ Done

-- a command was executed, with this answer: it is the step of its request up to data, and over a store
-- that is sound afterwards exactly that step
pub record Served (p : Posted) (units : Units) (told : Answer) (after : Units) : Type 0 where
  pub outcome : TransferOutcome
  pub fits : IsWithinRange (blocks_named p.request.act) outcome
  pub looks : look (told, disks_of after) ≡ look (step_as Done p.request (disks_of units))
  pub tells : has_begun told ≡ true → ReportsTransfer p.request.act told
  pub sound : is_sound_at (slice_get after p.request.unit) ≡ true → IsServed outcome p units told after

module _ (p : Posted) (units : Units) (memory : List ℕ) (e : End) (after : Units) (left : List ℕ)
    (ready : Ready p memory) (x : Executes (posted_command p) units memory e after left) where
  abbrev told : Answer
  told = answer_of p.request.act e (buffer_of p left)

  abbrev own : World
  own = world_of units memory

  abbrev c : Command
  c = posted_command p

  -- it takes effect
  step_is : (t : TakesEffect c units memory e after left)
      → (told, disks_of after) ≡ step_as t.outcome p.request (disks_of units)
  step_is t = ap (shown_by p) t.effect_is ∙ serves t.outcome p own ready

  taken : TakesEffect c units memory e after left → (has_begun told ≡ true → ReportsTransfer p.request.act told)
      → Served p units told after
  taken t begun =
      let r = p.request in let o = t.outcome in let is = step_is t in
      let fits = subst (λ n. IsWithinRange n o) (names_same r.act p.address).count t.fits.count in
      record {
        outcome = o;
        fits = fits;
        looks = ap look is ∙ step_looks o Done r (disks_of units) (disks_of units) refl;
        tells = begun;
        sound = λ _. record {
          is = is;
          lost = ap (λ (y : Answer × Disks). is_error y.0) is
              ∙ error-lost o r (disks_of units) ready.short fits
              (λ lost. sym (passes_checks-own p own ready) ∙ t.fits.acting lost);
          failures_are = t.failures_are;
          infallible = t.infallible;
        };
      }

  -- a transfer succeeds or fails, and its answer reports that
  tells : is_transfer c.op ≡ true → EndsTransfer c e → ReportsTransfer p.request.act told
  tells moving t =
      let size = length-changes memory left (buffer_start c.op) (memory_write_length c.op) x.memory_stays in
      record {
        outcome = t.outcome;
        fits = subst (λ n. IsWithinRange n t.outcome) (names_same p.request.act p.address).count t.count;
        form = has_form p.request.act e (buffer_of p left);
        status = status-told p.request.act e (buffer_of p left) ∙ ap (λ (y : End). y.status) t.end_is;
        bytes = bytes-told p.request.act p.address e left t.outcome moving
            (ap (λ (y : End). bytes_of y.body) t.end_is) x.answers.body.within
            (omega (arith, ready.within, size));
      }

  -- whatever its store made of it
  moved : is_transfer c.op ≡ true → passes_checks c own ≡ true → is_sound_at (slice_get after p.request.unit) ≡ false
      → Served p units told after
  moved moving acting none =
      let r = p.request in let ds = disks_of units in let t = x.by_checks.ends moving acting in
      let is_moved = sym (names_same r.act p.address).moving ∙ moving in
      let now : step_as Done r ds ≡ serve_as Done r ds = rw ready.short refl in
      record {
        outcome = Done;
        fits = tt;
        looks = ap₂ (λ a d. (a, d)) (let one =
            begun-told t.outcome r.act e (buffer_of p left) (ap (λ (y : End). y.status) t.end_is)
            ∙ is_moved in let other = begun-by Done r.act (check_result ds r)
            ∙ ap₂ (λ m f. m && f) is_moved (sym (passes_checks-own p own ready) ∙ acting) in rw (one, other) refl)
            (looks_stay after units x.all_attributes_stay (x.modes_stay moving)
            ∙ sym (disks-still r ds (slice_get ds r.unit) refl is_moved)) ∙ ap look (sym now);
        tells = λ _. tells moving t;
        sound = λ trusted. absurd (cc);
      }

  pub served : Served p units told after
  served = by (is_transfer c.op && passes_checks c own) (is_sound_at (slice_get after p.request.unit)) refl refl
    where
      still : is_transfer c.op && passes_checks c own ≡ false → Served p units told after
      still idle =
          let t = x.takes_effect (λ calls. absurd
          (cc (calls-moving p.request.act p.address (passes_checks c own) calls, idle))) in
          let now : step_as t.outcome p.request (disks_of units) ≡ serve_as t.outcome p.request
          (disks_of units) = rw ready.short refl in
          let none : has_begun told ≡ false =
          ap (λ (y : Answer × Disks). has_begun y.0) (step_is t ∙ now)
          ∙ begun-by t.outcome p.request.act (check_result (disks_of units) p.request)
          ∙ ap₂ (λ m f. m && f) (sym (names_same p.request.act p.address).moving)
          (sym (passes_checks-own p own ready)) ∙ idle in
          taken t (λ begun. absurd (cc))

      by : (moving sound : Bool) → is_transfer c.op && passes_checks c own ≡ moving
          → is_sound_at (slice_get after p.request.unit) ≡ sound → Served p units told after
      by false sound idle is = still idle
      by true true goes is =
          let two = and_parts (is_transfer c.op) (passes_checks c own) goes in
          taken (x.takes_effect_if_sound (λ _. is)) (λ _. tells two.0 (x.by_checks.ends two.0 two.1))
      by true false goes is = let two = and_parts (is_transfer c.op) (passes_checks c own) goes in moved two.0 two.1 is
