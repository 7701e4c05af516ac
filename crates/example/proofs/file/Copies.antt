-- Two Reads of which the bytes are written by two Writes.
use Rattle.std.proofs.Common.{◌≡◌, ℕ, ◌+◌, ◌*◌, ◌≤◌, false, List, [], ◌∷◌, ◌++◌, length, Option, Some, None, refl, sym, ap, ◌∙◌, arith, subst, length-append, append_assoc, option_to_list}
use Rattle.std.specs.Prelude.{All, slice_get, option_map}
use Rattle.std.proofs.lemmas.List.{map_push}
use Rattle.std.specs.List.{concat}
use Rattle.std.proofs.lemmas.List.Elements.{All-nil, All-cons}
use Rattle.uda_mem.specs.Put.{part, put}
use Rattle.uda_mem.proofs.PutLaws.{length-part-le, part-next, put-put_next}
use Rattle.uda_disk.specs.Disk.{Disks}
use Rattle.uda_disk.specs.Status.{SUCCESS}
use Rattle.uda_disk.specs.Request.{Online, Read, Write, Request, in_blocks, blocks_for, is_writing}
use Rattle.uda_disk.specs.Answer.{Answer, Data, Moved}
use Rattle.uda_disk.specs.InOrderRun.{FixedRequest, requests_of, InOrderWithFailures, step_as, step_of, run_in_order_as}
use Rattle.uda_disk.specs.Laws.{blocks_in, blocks_at, size_at, HasWholeDisk, HasSameBlocks}
use Rattle.uda_disk.specs.Values.{answer_value, answer_values}
use Rattle.uda_disk.specs.declared.answer.Answer.{Answer as Told}
use Rattle.uda_disk.specs.Units.{Units, disks_of, AllSound, AreWellFormedIfSound}
use Rattle.uda_disk.proofs.Callers.{joined_and_cut, whole_count}
use Rattle.uda_disk.proofs.Successes.{answered_on_same_blocks, run_blocks_stay, successful_read, successful_write, All-part, length-joined, whole_size, whole_blocks, whole_disk}
use Rattle.example.specs.file.Copy.{IsCopied, AreBothWritten}

-- ---- the first run

abbrev online : ℕ → Request
online u = record { unit = u; act = Online false }

abbrev read_at : ℕ → Request
read_at lbn = record { unit = 0; act = Read lbn (512 * 32) }

abbrev pub asked : List Request
asked = online 0 ∷ online 1 ∷ read_at 0 ∷ read_at 32 ∷ []

abbrev Unwritten : Request → Type 0
Unwritten q = is_writing q.act ≡ false

all_unwritten : All Unwritten asked
all_unwritten =
    All-cons Unwritten (online 0) (online 1 ∷ read_at 0 ∷ read_at 32 ∷ []) refl
    (All-cons Unwritten (online 1) (read_at 0 ∷ read_at 32 ∷ []) refl
    (All-cons Unwritten (read_at 0) (read_at 32 ∷ []) refl
    (All-cons Unwritten (read_at 32) [] refl (All-nil Unwritten))))

-- the last two of four answers
last_two : (front : List Answer) (a b : Answer) → length (front ++ a ∷ b ∷ []) ≡ 4
    → (slice_get (front ++ a ∷ b ∷ []) 2 ≡ Some a) × (slice_get (front ++ a ∷ b ∷ []) 3 ≡ Some b)
last_two (x ∷ y ∷ []) a b four = (refl, refl)
last_two [] a b four = absurd (omega (arith, four))
last_two (x ∷ []) a b four = absurd (omega (arith, four))
last_two (x ∷ y ∷ z ∷ more) a b four = absurd (omega (arith, four, length-append more (a ∷ b ∷ [])))

values_last : (xs front : List Told) (last : Option Told) (value : Answer) → xs ≡ front ++ option_to_list last
    → option_map answer_value last ≡ Some value → answer_values xs ≡ answer_values front ++ value ∷ []
values_last xs front None value is at = absurd (cc)
values_last xs front (Some x) value is at =
    let same : answer_value x ≡ value = cc in
    ap answer_values is ∙ map_push answer_value front x ∙ ap (λ (v : Answer). answer_values front ++ v ∷ []) same

-- the answers of a list from which two were taken
pub values_two : (xs ys front : List Told) (second first : Option Told) (a b : Answer)
    → xs ≡ ys ++ option_to_list second → ys ≡ front ++ option_to_list first
    → option_map answer_value second ≡ Some b → option_map answer_value first ≡ Some a
    → length (answer_values xs) ≡ 4
    → (slice_get (answer_values xs) 2 ≡ Some a) × (slice_get (answer_values xs) 3 ≡ Some b)
values_two xs ys front second first a b xs_are ys_are at_b at_a four =
    let is : answer_values xs ≡ answer_values front ++ a ∷ b ∷ [] =
    values_last xs ys second b xs_are at_b
    ∙ ap (λ (l : List Answer). l ++ b ∷ []) (values_last ys front first a ys_are at_a)
    ∙ append_assoc (answer_values front) (a ∷ []) (b ∷ []) in
    let found = last_two (answer_values front) a b (sym (ap length is) ∙ four) in
    (ap (λ (l : List Answer). slice_get l 2) is ∙ found.0, ap (λ (l : List Answer). slice_get l 3) is ∙ found.1)

module _ (units between : Units) (told : List Answer) (well_formed : AreWellFormedIfSound units) (sound : AllSound units)
    (run : InOrderWithFailures (disks_of units) asked told (disks_of between)) where
  abbrev start : Disks
  start = disks_of units

  abbrev source : List (List ℕ)
  source = blocks_at start 0

  unwritten : All Unwritten (requests_of run.fixed)
  unwritten = subst (All Unwritten) (sym run.are_requests) all_unwritten

  image : HasWholeDisk (slice_get start 0)
  image = whole_disk units 0 well_formed (sound 0)

  pub piece : (k lbn : ℕ) (bytes : List ℕ) → slice_get asked k ≡ Some (read_at lbn)
      → slice_get told k ≡ Some (Data SUCCESS bytes)
      → (lbn + 32 ≤ length source) × (bytes ≡ concat (part source lbn 32))
  piece k lbn bytes asks tells =
      let found = answered_on_same_blocks run.fixed start k (read_at lbn) (Data SUCCESS bytes) unwritten
      (ap (λ (rs : List Request). slice_get rs k) run.are_requests ∙ asks)
      (ap (λ (x : List Answer × Disks). slice_get x.0 k) run.gives ∙ tells) in
      let same = found.1.1.0 in
      subst (λ (blocks : List (List ℕ)). (lbn + 32 ≤ length blocks) × (bytes ≡ concat (part blocks lbn 32)))
      (same.same 0)
      (successful_read found.0 0 lbn 32 found.1.0 bytes found.1.1.1 (same.whole 0 image))

  pub stay : HasSameBlocks start (disks_of between)
  stay = subst (HasSameBlocks start) (ap (λ (x : List Answer × Disks). x.1) run.gives)
      (run_blocks_stay run.fixed start unwritten)

-- ---- the second run

abbrev pub write_at : ℕ → List ℕ → Request
write_at lbn bytes = record { unit = 1; act = Write lbn bytes }

record WrittenBoth (a b : List ℕ) (disks left : Disks) : Type 0 where
  pub within : 32 + blocks_for (length b) ≤ size_at disks 1
  pub source_stays : blocks_at left 0 ≡ blocks_at disks 0
  pub written : blocks_at left 1 ≡ put (put (blocks_at disks 1) 0 (in_blocks a)) 32 (in_blocks b)

both_written : (xs : List FixedRequest) (disks left : Disks) (a b : List ℕ) (m n : ℕ)
    → requests_of xs ≡ write_at 0 a ∷ write_at 32 b ∷ []
    → run_in_order_as disks xs ≡ (Moved SUCCESS m ∷ Moved SUCCESS n ∷ [], left) → WrittenBoth a b disks left
both_written [] disks left a b m n are gives = absurd (omega (arith, ap length are))
both_written (x ∷ []) disks left a b m n are gives = absurd (omega (arith, ap length are))
both_written (x ∷ y ∷ z ∷ more) disks left a b m n are gives = absurd (omega (arith, ap length are))
both_written (x ∷ y ∷ []) disks left a b m n are gives =
    let one : x.request ≡ write_at 0 a = cc in
    let two : y.request ≡ write_at 32 b = cc in
    let mid = (step_of x disks).1 in
    let told : (step_of x disks).0 ∷ (step_of y mid).0 ∷ [] ≡ Moved SUCCESS m ∷ Moved SUCCESS n ∷ [] =
    ap (λ (w : List Answer × Disks). w.0) gives in
    let first_told : (step_of x disks).0 ≡ Moved SUCCESS m = cc in
    let second_told : (step_of y mid).0 ≡ Moved SUCCESS n = cc in
    let mid_is : mid ≡ (step_as x.outcome (write_at 0 a) disks).1 =
    ap (λ (q : Request). (step_as x.outcome q disks).1) one in
    let left_is : left ≡ (step_as y.outcome (write_at 32 b) mid).1 =
    sym (ap (λ (w : List Answer × Disks). w.1) gives) ∙ ap (λ (q : Request). (step_as y.outcome q mid).1) two in
    let first = successful_write x.outcome 1 0 a disks m
    (ap (λ (q : Request). (step_as x.outcome q disks).0) (sym one) ∙ first_told) in
    let second = successful_write y.outcome 1 32 b mid n
    (ap (λ (q : Request). (step_as y.outcome q mid).0) (sym two) ∙ second_told) in
    record {
      within = omega (arith, second.within, ap (λ (ds : Disks). size_at ds 1) mid_is, first.size_stays);
      source_stays =
          ap (λ (ds : Disks). blocks_at ds 0) left_is
          ∙ ap blocks_in (second.others_stay 0 (λ same. absurd (omega (arith, same))))
          ∙ ap (λ (ds : Disks). blocks_at ds 0) mid_is
          ∙ ap blocks_in (first.others_stay 0 (λ same. absurd (omega (arith, same))));
      written =
          ap (λ (ds : Disks). blocks_at ds 1) left_is ∙ second.written
          ∙ ap (λ (blocks : List (List ℕ)). put blocks 32 (in_blocks b))
          (ap (λ (ds : Disks). blocks_at ds 1) mid_is ∙ first.written);
    }

-- ---- both runs

pub is_copied : (units between after : Units) (told written : List Answer) (a b : List ℕ)
    → AreWellFormedIfSound units → AllSound units
    → InOrderWithFailures (disks_of units) asked told (disks_of between)
    → slice_get told 2 ≡ Some (Data SUCCESS a) → slice_get told 3 ≡ Some (Data SUCCESS b)
    → InOrderWithFailures (disks_of between) (write_at 0 a ∷ write_at 32 b ∷ []) written (disks_of after)
    → AreBothWritten written → IsCopied units after
is_copied units between after told written a b well_formed sound run first second next both =
    let source = blocks_at (disks_of units) 0 in
    let stays = stay units between told well_formed sound run in
    let low = piece units between told well_formed sound run 2 0 a refl first in
    let high = piece units between told well_formed sound run 3 32 b refl second in
    let whole = whole_blocks (disks_of units) 0 (whole_disk units 0 well_formed (sound 0)) in
    let low_blocks : in_blocks a ≡ part source 0 32 =
    ap in_blocks low.1 ∙ joined_and_cut (part source 0 32) (All-part source 0 32 whole) in
    let high_blocks : in_blocks b ≡ part source 32 32 =
    ap in_blocks high.1 ∙ joined_and_cut (part source 32 32) (All-part source 32 32 whole) in
    let done = both_written next.fixed (disks_of between) (disks_of after) a b both.first both.second
    next.are_requests (next.gives ∙ ap (λ (w : List Answer). (w, disks_of after)) both.are) in
    let long : blocks_for (length b) ≡ 32 =
    ap (λ (l : List ℕ). blocks_for (length l)) high.1 ∙ ap blocks_for (length-joined source 32 32 whole high.0)
    ∙ whole_count 32 in
    let image : HasWholeDisk (slice_get (disks_of between) 1) =
    stays.whole 1 (whole_disk units 1 well_formed (sound 1)) in
    record {
      on_source = high.0;
      on_target = omega (arith, done.within, long, whole_size (disks_of between) 1 image, ap length (stays.same 1));
      source_stays = done.source_stays ∙ stays.same 0;
      copied = done.written
          ∙ ap (λ (blocks : List (List ℕ)). put (put blocks 0 (in_blocks a)) 32 (in_blocks b)) (stays.same 1)
          ∙ rw (low_blocks, high_blocks) (put-put_next (blocks_at (disks_of units) 1) 0 (part source 0 32)
          (part source 32 32) 32 (omega (arith, length-part-le source 0 32 low.0))
          ∙ ap (put (blocks_at (disks_of units) 1) 0) (sym (part-next source 0 32 32)));
    }
