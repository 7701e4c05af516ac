-- Pairs of Reads of both units, and what equal answers tell.
use Rattle.std.proofs.Common.{◌≡◌, Bool, false, inl, inr, None, option_to_list, length-append, get_or, ℕ, suc, ◌+◌, ◌-◌, ◌<◌, ◌≤◌, min, max, List, [], ◌∷◌, ◌++◌, length, Option, Some, refl, sym, ap, ◌∙◌, arith, subst, append_assoc}
use Rattle.std.specs.Prelude.{All, slice_get, option_map, Result, Ok, Err, IfOk}
use Rattle.std.proofs.lemmas.Bool.{cases_lt}
use Rattle.uda_mem.specs.Put.{part}
use Rattle.uda_mem.proofs.PutLaws.{part-next}
use Rattle.uda_disk.specs.Status.{SUCCESS}
use Rattle.uda_disk.specs.Request.{Request, in_blocks}
use Rattle.uda_disk.specs.Answer.{Answer, Data}
use Rattle.uda_disk.specs.Values.{answer_value, answer_values}
use Rattle.uda_disk.specs.declared.answer.Answer.{Answer as Told}
use Rattle.uda_disk.specs.Units.{Units, disks_of, AllSound, AreWellFormedIfSound}
use Rattle.uda_disk.proofs.Callers.{joined_and_cut}
use Rattle.uda_disk.proofs.Successes.{All-part, whole_blocks, whole_disk}
use Rattle.uda50_copy.specs.Copy.{source_of, target_of, ChangesNoBlock, AreEqual, EqualIfSound, read_from, ArePairedReads, ReturnsBlocks, EachReturnsBlocks, IsReading, IsBlockRead, AreSameBytes, AreEqualReads}
use Rattle.uda50_copy.specs.declared.requests.BlockReading.{BlockReading}
use Rattle.uda50_copy.specs.declared.requests.BlockReading.TheVariants.{Bytes, Failed}
use Rattle.uda50_copy.proofs.Pieces.{part-none}

-- ---- equal blocks

pub equal_none : (from to : ℕ) (source target : List (List ℕ)) → to ≤ from → AreEqual from to source target
equal_none from to source target none =
    let empty : to - from ≡ 0 = omega (arith, none) in
    record {
      on_source = λ some. absurd (omega (arith, none, some));
      on_target = λ some. absurd (omega (arith, none, some));
      equal = ap (part target from) empty ∙ part-none target from ∙ sym (part-none source from)
          ∙ sym (ap (part source from) empty);
    }

part_both : (xs : List (List ℕ)) (from mid to : ℕ) → from ≤ mid → mid < to
    → part xs from (to - from) ≡ part xs from (mid - from) ++ part xs mid (to - mid)
part_both xs from mid to low high =
    let split : to - from ≡ (mid - from) + (to - mid) = omega (arith, low, high) in
    let at : from + (mid - from) ≡ mid = omega (arith, low) in
    ap (part xs from) split ∙ part-next xs from (mid - from) (to - mid)
    ∙ ap (λ (m : ℕ). part xs from (mid - from) ++ part xs m (to - mid)) at

pub equal_both : (from mid to : ℕ) (source target : List (List ℕ)) → from ≤ mid → mid < to
    → AreEqual from mid source target → AreEqual mid to source target → AreEqual from to source target
equal_both from mid to source target low high one two = record {
  on_source = λ some. two.on_source high;
  on_target = λ some. two.on_target high;
  equal = part_both target from mid to low high
      ∙ ap (λ (b : List (List ℕ)). b ++ part target mid (to - mid)) one.equal
      ∙ ap (λ (b : List (List ℕ)). part source from (mid - from) ++ b) two.equal
      ∙ sym (part_both source from mid to low high);
}

-- at the end of the range
pub equal_end : (from to done : ℕ) (source target : List (List ℕ)) → to ≤ done → done ≤ max from to
    → AreEqual from done source target → AreEqual from to source target
equal_end from to done source target past within equal = elim (cases_lt from to) [
  | inl some ↦ let same : done ≡ to = omega (arith, past, within, some) in
      subst (λ (n : ℕ). AreEqual from n source target) same equal
  | inr none ↦ equal_none from to source target (omega (arith, none))
]

-- two Reads that returned the same bytes
pub equal_reads : (bytes : List ℕ) (lbn stop : ℕ) (source target : List (List ℕ)) → lbn < stop
    → All (λ block. length block ≡ 512) source → All (λ block. length block ≡ 512) target
    → ReturnsBlocks source (Data SUCCESS bytes) lbn (stop - lbn)
    → ReturnsBlocks target (Data SUCCESS bytes) lbn (stop - lbn) → AreEqual lbn stop source target
equal_reads bytes lbn stop source target some whole_source whole_target one two =
    let a = one bytes refl in let b = two bytes refl in
    record {
      on_source = λ h. omega (arith, some, a.0);
      on_target = λ h. omega (arith, some, b.0);
      equal = sym (ap in_blocks b.1
          ∙ joined_and_cut (part target lbn (stop - lbn)) (All-part target lbn (stop - lbn) whole_target))
          ∙ ap in_blocks a.1
          ∙ joined_and_cut (part source lbn (stop - lbn)) (All-part source lbn (stop - lbn) whole_source);
    }

-- blocks that are equal after no block was changed
pub equal_before : (skips_lost : Bool) (from to : ℕ) (units now after : Units) → ChangesNoBlock units now
    → ChangesNoBlock now after → EqualIfSound skips_lost from to now after → EqualIfSound skips_lost from to units after
equal_before skips_lost from to units now after one two equal all whole sound =
    let sound_now : AllSound now = λ u. two.stays_sound.sound_before u (sound u) in
    let same = one.if_sound sound_now in
    subst (λ (b : List (List ℕ)). AreEqual from to (source_of units) b) (same.same 1)
    (subst (λ (b : List (List ℕ)). AreEqual from to b (target_of now)) (same.same 0)
    (equal all (one.stays_sound.well_formed whole) sound))

-- one range after another
pub equal_next : (skips_lost : Bool) (from mid to : ℕ) (units now after : Units) → from ≤ mid → mid < to
    → ChangesNoBlock units now → ChangesNoBlock now after → EqualIfSound skips_lost from mid units now
    → EqualIfSound skips_lost mid to now after → EqualIfSound skips_lost from to units after
equal_next skips_lost from mid to units now after low high one two before here all whole sound =
    let sound_now : AllSound now = λ u. two.stays_sound.sound_before u (sound u) in
    equal_both from mid to (source_of units) (target_of units) low high (before all whole sound_now)
    (equal_before skips_lost mid to units now after one two here all whole sound)

-- ---- one block

-- the only answer
pub only_one : (xs ys : List Told) (last : Option Told) (x : Told) → xs ≡ ys ++ option_to_list last → last ≡ Some x
    → length xs ≡ 1 → slice_get (answer_values xs) 0 ≡ Some (answer_value x)
only_one xs ys None x are at one = absurd (cc)
only_one xs (z ∷ zs) (Some y) x are at one = absurd (omega (arith, ap length are, one, length-append zs (y ∷ [])))
only_one xs [] (Some y) x are at one =
    ap (λ (l : List Told). slice_get (answer_values l) 0) are ∙ ap (option_map answer_value) at

pub block_read : (blocks : List (List ℕ)) (lbn : ℕ) (answer : Answer) (reading : BlockReading)
    → ReturnsBlocks blocks answer lbn 1 → IsReading answer reading → IsBlockRead blocks lbn reading
block_read blocks lbn answer (Bytes payload) returned is = λ bytes h. returned bytes (is ∙ h)
block_read blocks lbn answer Failed returned is = tt

pub block_is_read : {E P Q : Type 0} (result : Result BlockReading E) (answer : Answer) (blocks : List (List ℕ)) (lbn : ℕ)
    → (P → Q → ReturnsBlocks blocks answer lbn 1) → IfOk result (IsReading answer)
    → IfOk result (λ reading. P → Q → IsBlockRead blocks lbn reading)
block_is_read (Ok reading) answer blocks lbn returned is = λ p q. block_read blocks lbn answer reading (returned p q) is
block_is_read (Err e) answer blocks lbn returned is = tt

-- the same bytes were read of a block of both units
pub equal_block : (skips_lost : Bool) (lbn : ℕ) (units now after : Units) (source target : BlockReading)
    → ChangesNoBlock units now → ChangesNoBlock now after
    → (AreWellFormedIfSound units → AllSound now → IsBlockRead (source_of units) lbn source)
    → (AreWellFormedIfSound now → AllSound after → IsBlockRead (target_of now) lbn target)
    → (skips_lost ≡ false → AreSameBytes source target) → EqualIfSound skips_lost lbn (lbn + 1) units after
equal_block skips_lost lbn units now after Failed target one two first second same all whole sound = absurd (same all)
equal_block skips_lost lbn units now after (Bytes a) Failed one two first second same all whole sound = absurd (same all)
equal_block skips_lost lbn units now after (Bytes a) (Bytes b) one two first second same all whole sound =
    let sound_now : AllSound now = λ u. two.stays_sound.sound_before u (sound u) in
    let sound_first : AllSound units = λ u. one.stays_sound.sound_before u (sound_now u) in
    let stay = one.if_sound sound_now in
    let count : 1 ≡ (lbn + 1) - lbn = omega arith in
    let of_target : ReturnsBlocks (target_of units) (Data SUCCESS a.items) lbn 1 =
    subst (λ (bytes : List ℕ). ReturnsBlocks (target_of units) (Data SUCCESS bytes) lbn 1) (sym (same all))
    (subst (λ (blocks : List (List ℕ)). ReturnsBlocks blocks (Data SUCCESS b.items) lbn 1) (stay.same 1)
    (second (one.stays_sound.well_formed whole) sound)) in
    equal_reads a.items lbn (lbn + 1) (source_of units) (target_of units) (omega arith)
    (whole_blocks (disks_of units) 0 (whole_disk units 0 whole (sound_first 0)))
    (whole_blocks (disks_of units) 1 (whole_disk units 1 whole (sound_first 1)))
    (subst (λ (n : ℕ). ReturnsBlocks (source_of units) (Data SUCCESS a.items) lbn n) count (first whole sound_now))
    (subst (λ (n : ℕ). ReturnsBlocks (target_of units) (Data SUCCESS a.items) lbn n) count of_target)

-- ---- pairs of Reads

-- Reads so far, and others that will follow from the block `lbn` on
abbrev pub ReadPairsSoFar : ℕ → ℕ → ℕ → ℕ → List Request → Type 0
ReadPairsSoFar from to piece lbn requests =
    (more : List Request) → ArePairedReads piece more lbn to → ArePairedReads piece (requests ++ more) from to

pub pairs_more : (from to piece lbn : ℕ) (requests : List Request) (r s : Request) → lbn < to
    → r ≡ read_from 0 lbn (min piece (to - lbn)) → s ≡ read_from 1 lbn (min piece (to - lbn))
    → ReadPairsSoFar from to piece lbn requests
    → ReadPairsSoFar from to piece (lbn + min piece (to - lbn)) (requests ++ r ∷ s ∷ [])
pairs_more from to piece lbn requests r s some one two before more h =
    subst (λ (l : List Request). ArePairedReads piece l from to) (sym (append_assoc requests (r ∷ s ∷ []) more))
    (before (r ∷ s ∷ more) (some, (one, (two, h))))

-- what each answer of such Reads returns
abbrev pub ReturnPairs : Units → ℕ → List Answer → ℕ → ℕ → Type 0
ReturnPairs units piece [] from to = to ≤ from
ReturnPairs units piece (a ∷ []) from to = ⊥
ReturnPairs units piece (a ∷ b ∷ rest) from to = (from < to)
    × (ReturnsBlocks (source_of units) a from (min piece (to - from))
    × (ReturnsBlocks (target_of units) b from (min piece (to - from))
    × ReturnPairs units piece rest (from + min piece (to - from)) to))

pub return_pairs : (units : Units) (piece : ℕ) (requests : List Request) (answers : List Answer) (from to : ℕ)
    → ArePairedReads piece requests from to → length answers ≡ length requests → EachReturnsBlocks units requests answers
    → ReturnPairs units piece answers from to
return_pairs units piece [] [] from to reads counted each = reads
return_pairs units piece [] (a ∷ more) from to reads counted each = absurd (omega (arith, counted))
return_pairs units piece (r ∷ []) answers from to reads counted each = absurd reads
return_pairs units piece (r ∷ s ∷ rest) [] from to reads counted each = absurd (omega (arith, counted))
return_pairs units piece (r ∷ s ∷ rest) (a ∷ []) from to reads counted each = absurd (omega (arith, counted))
return_pairs units piece (r ∷ s ∷ rest) (a ∷ b ∷ more) from to reads counted each = (
  reads.0,
  (
    each 0 0 from (min piece (to - from)) a (ap Some reads.1.0) refl,
    (
      each 1 1 from (min piece (to - from)) b (ap Some reads.1.1.0) refl,
      return_pairs units piece rest more (from + min piece (to - from)) to reads.1.1.1 (omega (arith, counted))
          (λ u k lbn count answer asks tells. each u (suc (suc k)) lbn count answer asks tells),
    ),
  ),
)

-- the next pair of answers, and those that are left
pub record NextPair (units : Units) (pair left : List Told) (from to : ℕ) : Type 0 where
  pub some : from < to
  pub first : Answer
  pub second : Answer
  pub are : answer_values pair ≡ first ∷ second ∷ []
  pub of_source : ReturnsBlocks (source_of units) first from (min 32 (to - from))
  pub of_target : ReturnsBlocks (target_of units) second from (min 32 (to - from))
  pub others : ReturnPairs units 32 (answer_values left) (from + min 32 (to - from)) to

pub next_pair : (units : Units) (rest pair left : List Told) (from to : ℕ) → rest ≡ pair ++ left
    → length pair ≡ min 2 (length rest) → 0 < length rest → ReturnPairs units 32 (answer_values rest) from to
    → NextPair units pair left from to
next_pair units [] pair left from to is many some returns = absurd (omega (arith, some))
next_pair units (x ∷ []) pair left from to is many some returns = absurd returns
next_pair units (x ∷ y ∷ more) [] left from to is many some returns = absurd (omega (arith, many))
next_pair units (x ∷ y ∷ more) (p ∷ []) left from to is many some returns = absurd (omega (arith, many))
next_pair units (x ∷ y ∷ more) (p ∷ q ∷ z ∷ others) left from to is many some returns = absurd (omega (arith, many))
next_pair units (x ∷ y ∷ more) (p ∷ q ∷ []) left from to is many some returns =
    let one : answer_value p ≡ answer_value x = cc in
    let two : answer_value q ≡ answer_value y = cc in
    let rest : more ≡ left = cc in
    record {
      some = returns.0;
      first = answer_value x;
      second = answer_value y;
      are = ap (λ (a : Answer). a ∷ answer_value q ∷ []) one ∙ ap (λ (b : Answer). answer_value x ∷ b ∷ []) two;
      of_source = returns.1.0;
      of_target = returns.1.1.0;
      others = subst (λ (l : List Told). ReturnPairs units 32 (answer_values l) (from + min 32 (to - from)) to) rest
          returns.1.1.1;
    }

-- after the last pair all blocks are compared
pub pairs_end : (units : Units) (rest : List Told) (from to : ℕ) → ReturnPairs units 32 (answer_values rest) from to
    → length rest ≡ 0 → to ≤ from
pairs_end units [] from to returns none = returns
pairs_end units (x ∷ more) from to returns none = absurd (omega (arith, none))

-- a pair of answers
pub two_answers : (pair : List Told) (x y : Told) → 2 ≤ length pair → length pair < 3 → x ≡ get_or pair 0 x
    → y ≡ get_or pair 1 y → answer_values pair ≡ answer_value x ∷ answer_value y ∷ []
two_answers [] x y least most one two = absurd (omega (arith, least))
two_answers (p ∷ []) x y least most one two = absurd (omega (arith, least))
two_answers (p ∷ q ∷ r ∷ more) x y least most one two = absurd (omega (arith, most))
two_answers (p ∷ q ∷ []) x y least most one two =
    ap (λ (a : Told). answer_value a ∷ answer_value q ∷ []) (sym one)
    ∙ ap (λ (a : Told). answer_value x ∷ answer_value a ∷ []) (sym two)

-- ---- a comparison so far

-- the answers that are left, and the range: the blocks before `at` are compared
pub record PairsLeft : Type 0 where
  pub rest : List Told
  pub from : ℕ
  pub at : ℕ
  pub to : ℕ

pub record ComparedSoFar (units : Units) (left : PairsLeft) : Type 0 where
  pub begun : left.from ≤ left.at
  pub within : left.at ≤ max left.from left.to
  pub returns : ReturnPairs units 32 (answer_values left.rest) left.at left.to
  pub equal : AreEqual left.from left.at (source_of units) (target_of units)

abbrev pub ComparedIfSound : Bool → PairsLeft → Units → Units → Type 0
ComparedIfSound skips_lost left units now =
    skips_lost ≡ false → AreWellFormedIfSound units → AllSound now → ComparedSoFar units left

-- after the next pair, whose blocks are equal
pub compared_next : (skips_lost : Bool) (units now after : Units) (left : PairsLeft) (pair rest : List Told) (stop : ℕ)
    → left.rest ≡ pair ++ rest → length pair ≡ min 2 (length left.rest) → 0 < length left.rest
    → stop ≡ min left.to (min (left.at + 32) 4294967295) → left.to < 4294967296
    → ChangesNoBlock now after → ComparedIfSound skips_lost left units now
    → (skips_lost ≡ false → AreWellFormedIfSound units → AllSound after → NextPair units pair rest left.at left.to
    → AreEqual left.at stop (source_of units) (target_of units))
    → ComparedIfSound skips_lost (record { rest = rest; from = left.from; at = stop; to = left.to }) units after
compared_next skips_lost units now after left pair rest stop is many some there fits stays before equal all whole sound =
    let sound_now : AllSound now = λ u. stays.stays_sound.sound_before u (sound u) in
    let so_far = before all whole sound_now in
    let next = next_pair units left.rest pair rest left.at left.to is many some so_far.returns in
    let at : left.at + min 32 (left.to - left.at) ≡ stop = omega (arith, there, fits, next.some) in
    let further : left.at < stop = omega (arith, there, fits, next.some) in
    record {
      begun = omega (arith, so_far.begun, further);
      within = omega (arith, there, next.some, so_far.begun);
      returns = subst (λ (n : ℕ). ReturnPairs units 32 (answer_values rest) n left.to) at next.others;
      equal = equal_both left.from left.at stop (source_of units) (target_of units) so_far.begun further so_far.equal
          (equal all whole sound next);
    }

-- a pair of answers with the same bytes
pub equal_pair : (units now : Units) (pair rest : List Told) (lbn stop to : ℕ) → ChangesNoBlock units now
    → stop ≡ min to (min (lbn + 32) 4294967295) → to < 4294967296 → AreEqualReads (answer_values pair)
    → AreWellFormedIfSound units → AllSound now → NextPair units pair rest lbn to
    → AreEqual lbn stop (source_of units) (target_of units)
equal_pair units now pair rest lbn stop to stays there fits same whole sound next =
    let sound_first : AllSound units = λ u. stays.stays_sound.sound_before u (sound u) in
    let both : next.first ∷ next.second ∷ [] ≡ Data SUCCESS same.0 ∷ Data SUCCESS same.0 ∷ [] = sym next.are ∙ same.1 in
    let one : next.first ≡ Data SUCCESS same.0 = cc in
    let two : next.second ≡ Data SUCCESS same.0 = cc in
    let count : min 32 (to - lbn) ≡ stop - lbn = omega (arith, there, fits, next.some) in
    equal_reads same.0 lbn stop (source_of units) (target_of units) (omega (arith, there, fits, next.some))
    (whole_blocks (disks_of units) 0 (whole_disk units 0 whole (sound_first 0)))
    (whole_blocks (disks_of units) 1 (whole_disk units 1 whole (sound_first 1)))
    (subst (λ (n : ℕ). ReturnsBlocks (source_of units) (Data SUCCESS same.0) lbn n) count
    (subst (λ (a : Answer). ReturnsBlocks (source_of units) a lbn (min 32 (to - lbn))) one next.of_source))
    (subst (λ (n : ℕ). ReturnsBlocks (target_of units) (Data SUCCESS same.0) lbn n) count
    (subst (λ (a : Answer). ReturnsBlocks (target_of units) a lbn (min 32 (to - lbn))) two next.of_target))
