-- What Reads and Writes that succeed have done.
use Rattle.std.proofs.Common.{◌≡◌, ℕ, zero, suc, ◌+◌, ◌*◌, ◌/◌, ◌%◌, ◌≤◌, Bool, true, false, List, [], ◌∷◌, ◌++◌, length, get_or, take, drop, replicate, Option, Some, None, refl, sym, ap, ap₂, ◌∙◌, arith, subst, inl, inr}
use Rattle.std.specs.Prelude.{All, not, nat_eq, nat_le, nat_lt, slice_get, slice_set, option_map, if◌then◌else◌}
use Rattle.std.specs.List.{concat}
use Rattle.std.proofs.lemmas.Bool.Decides.{nat_tests, eqb_tells}
use Rattle.std.proofs.lemmas.List.{take_all, take-append-le}
use Rattle.std.proofs.lemmas.List.Elements.{All-nil, All-take, All-drop, All-head, All-tail}
use Rattle.std.proofs.lemmas.Option.{slice_get_within, slice_get-map}
use Rattle.uda_mem.specs.Put.{part, put}
use Rattle.uda_mem.proofs.PutLaws.{length-part-le, part-put_at}
use Rattle.uda_image.specs.Store.{HasWholeBlocks}
use Rattle.uda_disk.specs.declared.mode.Mode.{Mode}
use Rattle.uda_disk.specs.declared.refusal.Refusal.{Refusal}
use Rattle.uda_disk.specs.declared.refusal.Refusal.TheVariants.{UnitUnknown, NotOnline, OddCount, BlockPastEnd, RangePastEnd}
use Rattle.uda_disk.specs.Status.{SUCCESS, DRIVE_ERROR}
use Rattle.uda_disk.specs.Disk.{Disk, Disks}
use Rattle.uda_disk.specs.Request.{Act, Read, Write, Request, Extent, extent_of, is_writing, blocks_for, in_blocks}
use Rattle.uda_disk.specs.Answer.{Answer, TooLong, Data, Moved, status_of}
use Rattle.uda_disk.specs.RequestEffect.{CheckResult, Rejected, Accepted, check_result, check_at, check_by, first_failed_check, refusal_on, refusal_status, TransferOutcome, Done, disk_after, disks_by, serve_by}
use Rattle.uda_disk.specs.InOrderRun.{FixedRequest, requests_of, too_long, step_as, step, step_of, run_in_order_as}
use Rattle.uda_image.proofs.AtOnceLaws.{concat-chunks}
use Rattle.uda_image.specs.StoreLaws.{length-first_chunks}
use Rattle.uda_disk.specs.Laws.{write_and_read, WrittenIsRead, blocks_in, blocks_at, size_in, size_at, HasWholeDisk, HasSameBlocks, BlocksStay, AnsweredOnSameBlocks, RunBlocksStay, SuccessfulRead, SuccessfulWrite}
use Rattle.uda_disk.specs.Units.{UnitState, Units, disk_of, disks_of, is_sound_at, IsWellFormedIfSound, AreWellFormedIfSound}
use Rattle.uda_disk.proofs.Lists.{All-at}
use Rattle.uda_disk.proofs.Callers.{whole_count, length-concat, unwritten_stays}
use Rattle.uda_disk.proofs.Errors.{is_error, step-clean}
use Rattle.uda_disk.proofs.Slots.{slice_get-set_same, slice_get-set_other}

-- ---- what an accepted request tells

refused : (refusal : Refusal) → refusal_status refusal ≡ SUCCESS → ⊥
refused UnitUnknown h = absurd (cc)
refused _ h = absurd (cc)

accepted_by : (found : Option Refusal) (disk d : Disk) → check_by found disk ≡ Accepted d
    → (found ≡ None) × (disk ≡ d)
accepted_by None disk d is = (refl, cc)
accepted_by (Some refusal) disk d is = absurd (cc)

accepted_at : (act : Act) (slot : Option (Option Disk)) (d : Disk) → check_at act slot ≡ Accepted d
    → (slot ≡ Some (Some d)) × (refusal_on (extent_of act) d.size d.mode ≡ None)
accepted_at act None d is = absurd (cc)
accepted_at act (Some None) d is = absurd (cc)
accepted_at act (Some (Some disk)) d is =
    let both = accepted_by (refusal_on (extent_of act) disk.size disk.mode) disk d is in (
      ap (λ (x : Disk). Some (Some x)) both.1,
      subst (λ (x : Disk). refusal_on (extent_of act) x.size x.mode ≡ None)
          both.1 both.0,
    )

not_over : (online even past over : Bool) (more : Option Refusal)
    → (if not online then Some NotOnline else if not even then Some OddCount else if past then Some BlockPastEnd
    else if over then Some RangePastEnd else more) ≡ None → over ≡ false
not_over online even past false more is = refl
not_over false even past true more is = absurd (cc)
not_over true false past true more is = absurd (cc)
not_over true true true true more is = absurd (cc)
not_over true true false true more is = absurd (cc)

ends_within : (e : Extent) (size : ℕ) (mode : Mode) → first_failed_check e size mode ≡ None
    → e.lbn + blocks_for e.bytes ≤ size
ends_within e size mode none =
    let over = not_over mode.online (nat_eq (e.bytes % 2) 0) (nat_le size e.lbn)
    (nat_lt size (e.lbn + blocks_for e.bytes)) _ none in
    grind (arith, nat_tests)

-- ---- what isn't written stays

pub All-part : (blocks : List (List ℕ)) (lbn count : ℕ) → All (λ block. length block ≡ 512) blocks
    → All (λ block. length block ≡ 512) (part blocks lbn count)
unfolding part
All-part blocks lbn count whole =
    All-take (λ block. length block ≡ 512) count (drop lbn blocks)
    (All-drop (λ block. length block ≡ 512) lbn blocks whole)

abbrev unchanged : Disks → Disks → ℕ → Type 0
unchanged disks left v =
    (blocks_at left v ≡ blocks_at disks v) × ((HasWholeDisk (slice_get disks v) → HasWholeDisk (slice_get left v))
    × (size_at left v ≡ size_at disks v))

set_stays : (disks : Disks) (u : ℕ) (old new : Disk) → slice_get disks u ≡ Some (Some old)
    → (new.blocks ≡ old.blocks) × (new.size ≡ old.size)
    → (v : ℕ) → unchanged disks (slice_set disks u (Some new)) v
set_stays disks u old new here same v = elim (eqb_tells v u) [
  | inl both ↦
      let now = slice_get-set_same disks u (Some new) (slice_get_within disks u (Some old) here) in
      subst (unchanged disks (slice_set disks u (Some new))) (sym both.1) (
        ap blocks_in now ∙ same.0 ∙ sym (ap blocks_in here),
        (
          λ whole.
              let image : HasWholeBlocks old.size old.blocks = subst HasWholeDisk here whole in
              subst HasWholeDisk (sym now) (rw (same.0, same.1) image),
          ap size_in now ∙ same.1 ∙ sym (ap size_in here),
        ),
      )
  | inr both ↦
      let other = slice_get-set_other disks u v (Some new) both.1 in
      (ap blocks_in other, (λ whole. subst HasWholeDisk (sym other) whole, ap size_in other))
]

served_stays : (o : TransferOutcome) (r : Request) (disks : Disks) (b : CheckResult) → check_result disks r ≡ b
    → is_writing r.act ≡ false → (v : ℕ) → unchanged disks (disks_by o r b disks) v
served_stays o r disks (Rejected refusal) is unwritten v = (refl, (λ whole. whole, refl))
served_stays o r disks (Accepted d) is unwritten v =
    set_stays disks r.unit d (disk_after o r.act d) (accepted_at r.act (slice_get disks r.unit) d is).0
    (unwritten_stays o r.act d unwritten, refl) v

stepped_stays : (o : TransferOutcome) (r : Request) (disks : Disks) (long : Bool) → too_long r ≡ long
    → is_writing r.act ≡ false → (v : ℕ) → unchanged disks (step_as o r disks).1 v
stepped_stays o r disks true is unwritten v = rw is (refl, (λ whole. whole, refl))
stepped_stays o r disks false is unwritten v =
    rw is (served_stays o r disks (check_result disks r) refl unwritten v)

pub blocks_stay : BlocksStay
blocks_stay o r disks unwritten = record {
  same = λ v. (stepped_stays o r disks (too_long r) refl unwritten v).0;
  whole = λ v. (stepped_stays o r disks (too_long r) refl unwritten v).1.0;
  sizes_stay = λ v. (stepped_stays o r disks (too_long r) refl unwritten v).1.1;
}

-- ---- a run of requests that write nothing

both_same : (a b c : Disks) → HasSameBlocks a b → HasSameBlocks b c → HasSameBlocks a c
both_same a b c one two = record {
  same = λ u. two.same u ∙ one.same u;
  whole = λ u whole. two.whole u (one.whole u whole);
  sizes_stay = λ u. two.sizes_stay u ∙ one.sizes_stay u;
}

abbrev Unwritten : Request → Type 0
Unwritten q = is_writing q.act ≡ false

pub answered_on_same_blocks : AnsweredOnSameBlocks
answered_on_same_blocks [] disks k r answer unwritten asked told = absurd (cc)
answered_on_same_blocks (x ∷ xs) disks zero r answer unwritten asked told =
    let is : x.request ≡ r = cc in (
      x.outcome,
      (
        disks,
        (
          record { same = λ u. refl; whole = λ u whole. whole; sizes_stay = λ u. refl },
          ap (λ (q : Request). (step_as x.outcome q disks).0) (sym is) ∙ cc,
        ),
      ),
    )
answered_on_same_blocks (x ∷ xs) disks (suc k) r answer unwritten asked told =
    let next = (step_of x disks).1 in
    let first = blocks_stay x.outcome x.request disks (All-head Unwritten x.request (requests_of xs) unwritten) in
    let later = answered_on_same_blocks xs next k r answer (All-tail Unwritten x.request (requests_of xs) unwritten)
    asked told in
    (later.0, (later.1.0, (both_same disks next later.1.0 first later.1.1.0, later.1.1.1)))

pub run_blocks_stay : RunBlocksStay
run_blocks_stay [] disks unwritten = record { same = λ u. refl; whole = λ u whole. whole; sizes_stay = λ u. refl }
run_blocks_stay (x ∷ xs) disks unwritten =
    let next = (step_of x disks).1 in
    both_same disks next (run_in_order_as next xs).1
    (blocks_stay x.outcome x.request disks (All-head Unwritten x.request (requests_of xs) unwritten))
    (run_blocks_stay xs next (All-tail Unwritten x.request (requests_of xs) unwritten))

-- ---- a Read

-- the bytes of whole blocks
pub length-joined : (blocks : List (List ℕ)) (lbn count : ℕ) → All (λ block. length block ≡ 512) blocks
    → lbn + count ≤ length blocks → length (concat (part blocks lbn count)) ≡ 512 * count
length-joined blocks lbn count whole within =
    length-concat (part blocks lbn count) (All-part blocks lbn count whole)
    ∙ ap (λ (n : ℕ). 512 * n) (length-part-le blocks lbn count within)

-- a request whose answer reports success has not failed
done : (o : TransferOutcome) (r : Request) (disks : Disks) (answer : Answer) → (step_as o r disks).0 ≡ answer
    → status_of answer ≡ SUCCESS → step_as o r disks ≡ step r disks
done o r disks answer is success =
    step-clean o r disks (ap is_error is ∙ ap (λ (n : ℕ). nat_eq n DRIVE_ERROR) success)

abbrev served : Request → Disks → Bool → CheckResult → Answer × Disks
served r disks long b = if long then (TooLong, disks) else serve_by Done r b disks

read_accepted : (u lbn bytes : ℕ) (disks : Disks) (came : List ℕ) (long : Bool) (b : CheckResult)
    → (served (record { unit = u; act = Read lbn bytes }) disks long b).0 ≡ Data SUCCESS came
    → (d : Disk) × ((b ≡ Accepted d)
    × (came ≡ take bytes (take bytes (concat (part d.blocks lbn (blocks_for bytes))))))
read_accepted u lbn bytes disks came true b is = absurd (cc)
read_accepted u lbn bytes disks came false (Rejected refusal) is = absurd (refused refusal (cc))
read_accepted u lbn bytes disks came false (Accepted d) is = (d, (refl, cc))

read_there : (u lbn count : ℕ) (disks : Disks) (bytes : List ℕ) (d : Disk)
    → slice_get disks u ≡ Some (Some d) → refusal_on (extent_of (Read lbn (512 * count))) d.size d.mode ≡ None
    → bytes ≡ take (512 * count) (take (512 * count) (concat (part d.blocks lbn (blocks_for (512 * count)))))
    → HasWholeDisk (slice_get disks u)
    → (lbn + count ≤ length (blocks_at disks u)) × (bytes ≡ concat (part (blocks_at disks u) lbn count))
read_there u lbn count disks bytes d here free came whole =
    let image : HasWholeBlocks d.size d.blocks = subst HasWholeDisk here whole in
    let e : Extent = record { lbn = lbn; bytes = 512 * count; writes = false } in
    let within : lbn + count ≤ length d.blocks = omega (
      arith,
      ends_within e d.size d.mode free,
      whole_count count,
      image.counted,
    ) in
    let joined : List ℕ = concat (part d.blocks lbn count) in
    let long : length joined ≡ 512 * count = length-joined d.blocks lbn count image.whole within in
    let all : take (512 * count) joined ≡ joined = take_all (512 * count) joined (omega (arith, long)) in
    let blocks : blocks_at disks u ≡ d.blocks = ap blocks_in here in
    subst (λ (b : List (List ℕ)). (lbn + count ≤ length b) × (bytes ≡ concat (part b lbn count))) (sym blocks) (
      within,
      came
          ∙ ap (λ (n : ℕ). take (512 * count) (take (512 * count) (concat (part d.blocks lbn n)))) (whole_count count)
          ∙ ap (take (512 * count)) all ∙ all,
    )

pub successful_read : SuccessfulRead
successful_read o u lbn count disks bytes is whole =
    let r : Request = record { unit = u; act = Read lbn (512 * count) } in
    let plain = sym (ap (λ (x : Answer × Disks). x.0) (done o r disks (Data SUCCESS bytes) is refl)) ∙ is in
    let found = read_accepted u lbn (512 * count) disks bytes (too_long r) (check_result disks r) plain in
    let at = accepted_at r.act (slice_get disks u) found.0 found.1.0 in
    read_there u lbn count disks bytes found.0 at.0 at.1 found.1.1 whole

-- ---- a Write

write_accepted : (u lbn : ℕ) (payload : List ℕ) (disks : Disks) (n : ℕ) (long : Bool) (b : CheckResult)
    → (served (record { unit = u; act = Write lbn payload }) disks long b).0 ≡ Moved SUCCESS n
    → (d : Disk) × ((b ≡ Accepted d)
    × (served (record { unit = u; act = Write lbn payload }) disks long b
    ≡ serve_by Done (record { unit = u; act = Write lbn payload }) (Accepted d) disks))
write_accepted u lbn payload disks n true b is = absurd (cc)
write_accepted u lbn payload disks n false (Rejected refusal) is = absurd (refused refusal (cc))
write_accepted u lbn payload disks n false (Accepted d) is = (d, (refl, refl))

pub successful_write : SuccessfulWrite
successful_write o u lbn payload disks n is =
    let r : Request = record { unit = u; act = Write lbn payload } in
    let stepped = done o r disks (Moved SUCCESS n) is refl in
    let plain = sym (ap (λ (x : Answer × Disks). x.0) stepped) ∙ is in
    let found = write_accepted u lbn payload disks n (too_long r) (check_result disks r) plain in
    let d = found.0 in
    let at = accepted_at r.act (slice_get disks u) d found.1.0 in
    let left : (step_as o r disks).1 ≡ slice_set disks u (Some (disk_after Done r.act d)) =
    ap (λ (x : Answer × Disks). x.1) (stepped ∙ found.1.1) in
    let now = slice_get-set_same disks u (Some (disk_after Done r.act d)) (slice_get_within disks u (Some d) at.0) in
    let e : Extent = record { lbn = lbn; bytes = length payload; writes = true } in
    record {
      within = subst (λ (slot : Option (Option Disk)). lbn + blocks_for (length payload) ≤ size_in slot) (sym at.0)
          (ends_within e d.size d.mode at.1);
      written = ap (λ (ds : Disks). blocks_at ds u) left ∙ ap blocks_in now
          ∙ ap (λ (b : List (List ℕ)). put b lbn (in_blocks payload)) (sym (ap blocks_in at.0));
      size_stays = ap (λ (ds : Disks). size_at ds u) left ∙ ap size_in now ∙ sym (ap size_in at.0);
      others_stay = λ v other. ap (λ (ds : Disks). slice_get ds v) left
          ∙ slice_get-set_other disks u v (Some (disk_after Done r.act d)) other;
    }

-- ---- whole disks

-- a whole disk has as many blocks as its size says
pub whole_size : (disks : Disks) (u : ℕ) → HasWholeDisk (slice_get disks u) → size_at disks u ≡ length (blocks_at disks u)
whole_size disks u image = by (slice_get disks u) image
  where
    by : (slot : Option (Option Disk)) → HasWholeDisk slot → size_in slot ≡ length (blocks_in slot)
    by None image = refl
    by (Some None) image = refl
    by (Some (Some disk)) image = sym image.counted

-- and they have 512 bytes each
pub whole_blocks : (disks : Disks) (u : ℕ) → HasWholeDisk (slice_get disks u)
    → All (λ block. length block ≡ 512) (blocks_at disks u)
whole_blocks disks u image = by (slice_get disks u) image
  where
    by : (slot : Option (Option Disk)) → HasWholeDisk slot → All (λ block. length block ≡ 512) (blocks_in slot)
    by None image = All-nil (λ block. length block ≡ 512)
    by (Some None) image = All-nil (λ block. length block ≡ 512)
    by (Some (Some disk)) image = image.whole

-- ---- units

-- the disk of a sound unit is whole
pub whole_disk : (units : Units) (u : ℕ) → AreWellFormedIfSound units → is_sound_at (slice_get units u) ≡ true
    → HasWholeDisk (slice_get (disks_of units) u)
whole_disk units u well_formed sound =
    subst HasWholeDisk (sym (slice_get-map (option_map disk_of) units u)) (by (slice_get units u) refl)
  where
    by : (slot : Option (Option UnitState)) → slice_get units u ≡ slot
        → HasWholeDisk (option_map (option_map disk_of) slot)
    by None at = tt
    by (Some None) at = tt
    by (Some (Some unit)) at =
        All-at IsWellFormedIfSound units u (Some unit) well_formed at (sym (ap is_sound_at at) ∙ sound)

-- ---- a Read of what was written

-- the bytes of whole blocks, divided and joined again
rejoined : (payload : List ℕ) (count : ℕ) → length payload ≡ 512 * count → concat (in_blocks payload) ≡ payload
rejoined payload count long =
    let zeros : List ℕ = replicate 512 0 in
    let blocks : blocks_for (length payload) ≡ count = ap blocks_for long ∙ whole_count count in
    concat-chunks (blocks_for (length payload)) (payload ++ zeros)
    ∙ ap (λ (n : ℕ). take n (payload ++ zeros)) (ap (λ (n : ℕ). 512 * n) blocks ∙ sym long)
    ∙ take-append-le (length payload) payload zeros (omega arith)
    ∙ take_all (length payload) payload (omega arith)

read_back : (o p : TransferOutcome) (u lbn count n : ℕ) (payload bytes : List ℕ) (disks : Disks)
    → length payload ≡ 512 * count → HasWholeDisk (slice_get disks u)
    → (step_as o (record { unit = u; act = Write lbn payload }) disks).0 ≡ Moved SUCCESS n
    → (step_as p (record { unit = u; act = Read lbn (512 * count) })
    (step_as o (record { unit = u; act = Write lbn payload }) disks).1).0 ≡ Data SUCCESS bytes
    → bytes ≡ payload
read_back o p u lbn count n payload bytes disks long whole wrote read =
    let r : Request = record { unit = u; act = Read lbn (512 * count) } in
    let left : Disks = (step_as o (record { unit = u; act = Write lbn payload }) disks).1 in
    let is = successful_write o u lbn payload disks n wrote in
    let plain = sym (ap (λ (x : Answer × Disks). x.0) (done p r left (Data SUCCESS bytes) read refl)) ∙ read in
    let found = read_accepted u lbn (512 * count) left bytes (too_long r) (check_result left r) plain in
    let at = accepted_at r.act (slice_get left u) found.0 found.1.0 in
    let blocks : found.0.blocks ≡ put (blocks_at disks u) lbn (in_blocks payload) =
    sym (ap blocks_in at.0) ∙ is.written in
    let counted : blocks_for (length payload) ≡ count = ap blocks_for long ∙ whole_count count in
    let size : length (in_blocks payload) ≡ count =
    length-first_chunks (blocks_for (length payload)) (payload ++ replicate 512 0) ∙ counted in
    let there : part found.0.blocks lbn (blocks_for (512 * count)) ≡ in_blocks payload =
    ap₂ (λ (b : List (List ℕ)) (m : ℕ). part b lbn m) blocks (whole_count count)
    ∙ part-put_at (blocks_at disks u) lbn count (in_blocks payload)
    (omega (arith, is.within, counted, size, whole_size disks u whole)) (sym size) in
    let joined : concat (part found.0.blocks lbn (blocks_for (512 * count))) ≡ payload =
    ap concat there ∙ rejoined payload count long in
    let all : take (512 * count) payload ≡ payload = take_all (512 * count) payload (omega (arith, long)) in
    found.1.1 ∙ ap (λ (l : List ℕ). take (512 * count) (take (512 * count) l)) joined
    ∙ ap (take (512 * count)) all ∙ all

pub written_is_read : WrittenIsRead
written_is_read u lbn n payload bytes units left well_formed sound even run =
    by run.fixed run.are_requests run.gives
  where
    count : ℕ
    count = length payload / 512

    long : length payload ≡ 512 * count
    long = omega arith

    by : (fixed : List FixedRequest) → requests_of fixed ≡ write_and_read u lbn payload
        → run_in_order_as (disks_of units) fixed ≡ (Moved SUCCESS n ∷ Data SUCCESS bytes ∷ [], left)
        → bytes ≡ payload
    by [] are gives = absurd (cc)
    by (x ∷ []) are gives = absurd (cc)
    by (x ∷ y ∷ z ∷ more) are gives = absurd (cc)
    by (x ∷ y ∷ []) are gives =
        let disks : Disks = disks_of units in
        let first : Request = record { unit = u; act = Write lbn payload } in
        let writes : x.request ≡ first = ap (λ (l : List Request). get_or l 0 x.request) are in
        let reads : y.request ≡ record { unit = u; act = Read lbn (512 * count) } =
        ap (λ (l : List Request). get_or l 1 x.request) are
        ∙ ap (λ (m : ℕ). record { unit = u; act = Read lbn m }) long in
        read_back x.outcome y.outcome u lbn count n payload bytes disks long (whole_disk units u well_formed sound)
        (subst (λ (q : Request). (step_as x.outcome q disks).0 ≡ Moved SUCCESS n) writes
        (ap (λ (a : List Answer × Disks). get_or a.0 0 TooLong) gives))
        (subst (λ (q : Request). (step_as y.outcome q (step_as x.outcome first disks).1).0 ≡ Data SUCCESS bytes) reads
        (subst (λ (q : Request). (step_as y.outcome y.request (step_as x.outcome q disks).1).0 ≡ Data SUCCESS bytes)
        writes (ap (λ (a : List Answer × Disks). get_or a.0 1 TooLong) gives)))
