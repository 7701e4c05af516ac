-- The first entry that has unfinished blocks.
use Rattle.std.proofs.Common.{◌≡◌, ◌≢◌, ℕ, suc, ◌<◌, ◌≤◌, max, Bool, true, false, if◌then◌else◌, List, [], ◌∷◌, ◌++◌, length, get_or, take, drop, All, inl, inr, sym, ap, ◌∙◌, subst, arith, append-nil}
use Rattle.std.proofs.Math.Seq.{drop-cons}
use Rattle.std.proofs.lemmas.Bool.{cases_lt}
use Rattle.std.proofs.lemmas.Bool.Decides.{nat_tests}
use Rattle.std.proofs.lemmas.List.{take-append-drop, drop-append-le, drop_all}
use Rattle.std.proofs.lemmas.List.Elements.{All-cons}
use Rattle.std.specs.List.{AllWithin, HoldsAt}
use Rattle.uda50_copy.specs.declared.map.entry.BlockStatus.{BlockStatus}
use Rattle.uda50_copy.specs.declared.map.entry.BlockStatus.TheVariants.{Finished}
use Rattle.uda50_copy.specs.declared.map.entry.MapEntry.{MapEntry}
use Rattle.uda50_copy.specs.Map.{is_within, statuses_at, AreConsecutive, Spans, map_start, map_end, end_from, IsFinishedBetween, IsUnfinishedBetween}
use Rattle.uda50_copy.proofs.MapLaws.{statuses_at-append, none_within, done_finished, All-first, IsDone, skipped}
use Rattle.uda50_copy.proofs.Spans.{spans_of, spans_left, spans_right, spans_starts, spans_ends, right_consecutive}

-- the entries from a place on follow each other
pub drop_consecutive : (xs : List MapEntry) (n : ℕ) → AreConsecutive xs → AreConsecutive (drop n xs)
drop_consecutive xs n all =
    right_consecutive (take n xs) (drop n xs) (subst AreConsecutive (sym (take-append-drop n xs)) all)

-- the entry at a place, between those before it and those after it
pub record Placed (xs : List MapEntry) (i : ℕ) (x : MapEntry) : Type 0 where
  pub parts : xs ≡ take i xs ++ x ∷ drop (suc i) xs
  pub before : All (λ (e : MapEntry). e.end ≤ x.start) (take i xs)
  pub after : All (λ (e : MapEntry). x.end ≤ e.start) (drop (suc i) xs)
  pub forward : x.start ≤ x.end

pub placed : (xs : List MapEntry) (i : ℕ) (x : MapEntry) → AreConsecutive xs → i < length xs
    → HoldsAt (λ (y : MapEntry). y ≡ x) xs i → Placed xs i x
placed xs i x all below is =
    let parts : xs ≡ take i xs ++ x ∷ drop (suc i) xs =
    sym (take-append-drop i xs)
    ∙ ap (λ (l : List MapEntry). take i xs ++ l) (drop-cons xs i x below
    ∙ ap (λ (e : MapEntry). e ∷ drop (suc i) xs) (is x)) in
    let spans = subst (Spans (map_start xs) (map_end xs)) parts (spans_of xs all) in
    let first = spans_left (take i xs) (x ∷ drop (suc i) xs) (map_start xs) (map_end xs) spans in
    let second = spans_right (take i xs) (x ∷ drop (suc i) xs) (map_start xs) (map_end xs) spans in
    record {
      parts = parts;
      before = subst (λ (n : ℕ). All (λ (e : MapEntry). e.end ≤ n) (take i xs)) second.0
          (spans_ends (take i xs) (map_start xs) (end_from (map_start xs) (take i xs)) first);
      after = spans_starts (drop (suc i) xs) x.end (map_end xs) second.2;
      forward = second.1;
    }

ended : (e : MapEntry) (start n : ℕ) → e.end ≤ start → start ≤ n → is_within e.start e.end n ≡ false
ended e start n is late = grind (arith, nat_tests)

coming : (e : MapEntry) (end n : ℕ) → end ≤ e.start → n < end → is_within e.start e.end n ≡ false
coming e end n is early = grind (arith, nat_tests)

none_before : (xs : List MapEntry) (start n : ℕ) → All (λ (e : MapEntry). e.end ≤ start) xs → start ≤ n → statuses_at xs n ≡ []
none_before xs start n all late = none_within xs n (λ k d below. ended (get_or xs k d) start n (all k d below) late)

none_after : (xs : List MapEntry) (end n : ℕ) → All (λ (e : MapEntry). end ≤ e.start) xs → n < end → statuses_at xs n ≡ []
none_after xs end n all early = none_within xs n (λ k d below. coming (get_or xs k d) end n (all k d below) early)

if_status : (inside : Bool) (status : BlockStatus) → status ≢ Finished
    → All (λ (s : BlockStatus). s ≢ Finished) (if inside then status ∷ [] else [])
if_status true status other = All-cons (λ (s : BlockStatus). s ≢ Finished) status [] other (λ k d below. absurd (omega (arith, below)))
if_status false status other = λ k d below. absurd (omega (arith, below))

pub unfinished_there : (xs : List MapEntry) (i from : ℕ) (x : MapEntry) → Placed xs i x → x.status ≢ Finished
    → IsUnfinishedBetween (max x.start from) x.end xs
unfinished_there xs i from x place other n late early =
    let same : statuses_at xs n ≡ statuses_at (x ∷ []) n =
    ap (λ (l : List MapEntry). statuses_at l n) place.parts
    ∙ statuses_at-append (take i xs) (x ∷ drop (suc i) xs) n
    ∙ ap (λ (l : List BlockStatus). l ++ statuses_at (x ∷ drop (suc i) xs) n)
    (none_before (take i xs) x.start n place.before (omega (arith, late)))
    ∙ statuses_at-append (x ∷ []) (drop (suc i) xs) n
    ∙ ap (λ (l : List BlockStatus). statuses_at (x ∷ []) n ++ l)
    (none_after (drop (suc i) xs) x.end n place.after early)
    ∙ append-nil (statuses_at (x ∷ []) n) in
    subst (All (λ (s : BlockStatus). s ≢ Finished)) (sym same) (if_status (is_within x.start x.end n) x.status other)

pub finished_up_to : (xs : List MapEntry) (i from : ℕ) (x : MapEntry) → Placed xs i x → i < length xs
    → AllWithin (IsDone from) xs 0 i → IsFinishedBetween from (max x.start from) xs
finished_up_to xs i from x place below done n late early =
    let before : n < x.start = omega (arith, late, early) in
    let same : statuses_at xs n ≡ statuses_at (take i xs) n =
    ap (λ (l : List MapEntry). statuses_at l n) place.parts
    ∙ statuses_at-append (take i xs) (x ∷ drop (suc i) xs) n
    ∙ ap (λ (l : List BlockStatus). statuses_at (take i xs) n ++ l)
    (statuses_at-append (x ∷ []) (drop (suc i) xs) n
    ∙ ap (λ (l : List BlockStatus). l ++ statuses_at (drop (suc i) xs) n)
    (none_after (x ∷ []) x.start n (All-cons (λ (e : MapEntry). x.start ≤ e.start) x [] (omega arith) (λ k d below. absurd (omega (arith, below)))) before)
    ∙ none_after (drop (suc i) xs) x.end n place.after (omega (arith, before, place.forward)))
    ∙ append-nil (statuses_at (take i xs) n) in
    subst (All (λ (s : BlockStatus). s ≡ Finished)) (sym same)
    (done_finished (take i xs) from (All-first (IsDone from) xs i (omega (arith, below)) done) n late)

-- the entries that end after a block, in two lists that follow each other, follow each other
pub rest_consecutive : (xs ys : List MapEntry) (n m from : ℕ) → AreConsecutive (xs ++ ys) → n ≤ length xs → m ≤ length ys
    → ((k : ℕ) (d : MapEntry) → n ≤ k → k < length xs → from < (get_or xs k d).end)
    → AllWithin (λ (e : MapEntry). e.end ≤ from) ys 0 m → AreConsecutive (drop n xs ++ drop m ys)
rest_consecutive xs ys n m from all first second past early = elim (cases_lt n (length xs)) [
  | inl some ↦ elim (cases_lt 0 m) [
    | inl more ↦ absurd (contradiction some more)
    | inr none ↦ subst (λ (l : List MapEntry). AreConsecutive (drop n xs ++ l)) (sym (ap (λ (k : ℕ). drop k ys) (none_is none)))
        (subst AreConsecutive (front some) (drop_consecutive (xs ++ ys) n all))
  ]
  | inr none ↦ subst (λ (l : List MapEntry). AreConsecutive (l ++ drop m ys)) (sym (past_end none))
      (drop_consecutive ys m (right_consecutive xs ys all))
]
  where
    none_is : m ≤ 0 → m ≡ 0
    none_is none = omega (arith, none)

    past_end : length xs ≤ n → drop n xs ≡ []
    past_end none = drop_all n xs none

    front : n < length xs → drop n (xs ++ ys) ≡ drop n xs ++ ys
    front some = drop-append-le n xs ys (omega (arith, some))

    contradiction : n < length xs → 0 < m → ⊥
    contradiction some more =
        let d : MapEntry = record { start = 0; end = 0; status = Finished } in
        let whole = spans_of (xs ++ ys) all in
        let ends = spans_ends xs _ _ (spans_left xs ys _ _ whole) n d some in
        let starts = spans_starts ys _ _ (spans_right xs ys _ _ whole) 0 d (omega (arith, second, more)) in
        let forward = (right_consecutive xs ys all).0 0 d (omega (arith, second, more)) in
        omega (arith, ends, starts, forward, past n d (omega arith) some, early 0 d (omega arith) more)

-- the same statuses from a block on
pub same_rest : (xs ys : List MapEntry) (n m from block : ℕ) → n ≤ length xs → m ≤ length ys
    → AllWithin (λ (e : MapEntry). e.end ≤ from) xs 0 n → AllWithin (λ (e : MapEntry). e.end ≤ from) ys 0 m
    → from ≤ block → statuses_at (xs ++ ys) block ≡ statuses_at (drop n xs ++ drop m ys) block
same_rest xs ys n m from block first second early late after =
    statuses_at-append xs ys block
    ∙ ap (λ s. s ++ statuses_at ys block) (skipped xs n from block first early after)
    ∙ ap (λ s. statuses_at (drop n xs) block ++ s) (skipped ys m from block second late after)
    ∙ sym (statuses_at-append (drop n xs) (drop m ys) block)
