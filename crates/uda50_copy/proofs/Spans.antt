-- Entries that follow each other.
use Rattle.std.proofs.Common.{◌≡◌, ℕ, ◌+◌, ◌-◌, ◌<◌, ◌≤◌, true, false, zero, suc, List, [], ◌∷◌, ◌++◌, length, get_or, set, All, inl, inr, ◌⊎◌, refl, sym, subst, ap, arith, add-one}
use Rattle.std.proofs.lemmas.Bool.{cases_lt}
use Rattle.std.proofs.lemmas.Bool.Decides.{nat_tests}
use Rattle.std.proofs.lemmas.List.Elements.{All-cons}
use Rattle.std.specs.List.Sorted.{IsNonDecreasingBy}
use Rattle.uda50_copy.specs.declared.map.entry.MapEntry.{MapEntry}
use Rattle.uda50_copy.specs.Map.{is_within, statuses_at, HasBlocks, AreConsecutive, Spans, map_start, end_from, map_end}

-- the entries after the first one
rest_consecutive : (x : MapEntry) (xs : List MapEntry) → AreConsecutive (x ∷ xs) → AreConsecutive xs
rest_consecutive x xs all =
    (λ k d below. all.0 (suc k) d (omega (arith, below)), λ k d below. rw add-one (rw add-one at (all.1 (suc k) d (omega (arith, below)))))

-- consecutive entries reach from the first block to the last
spans_more : (x : MapEntry) (xs : List MapEntry) → AreConsecutive (x ∷ xs) → Spans x.start (end_from x.end xs) (x ∷ xs)
spans_more x [] all = (refl, all.0 0 x (omega arith), refl)
spans_more x (y ∷ ys) all =
    let rest : Spans y.start (end_from y.end ys) (y ∷ ys) = spans_more y ys (rest_consecutive x (y ∷ ys) all) in
    (refl, all.0 0 x (omega arith), (all.1 0 x (omega arith), rest.1, rest.2))

pub spans_of : (xs : List MapEntry) → AreConsecutive xs → Spans (map_start xs) (map_end xs) xs
spans_of [] all = refl
spans_of (x ∷ xs) all = spans_more x xs all

-- one entry before consecutive ones
adjacent : (x y : MapEntry) (ys : List MapEntry) → x.end ≡ y.start → AreConsecutive (y ∷ ys) → (k : ℕ) (d : MapEntry)
    → k + 1 < length (x ∷ y ∷ ys) → (get_or (x ∷ y ∷ ys) k d).end ≡ (get_or (x ∷ y ∷ ys) (k + 1) d).start
adjacent x y ys follows all zero d below = follows
adjacent x y ys follows all (suc k) d below = rw add-one (rw add-one at (all.1 k d (omega (arith, below))))

-- entries that reach from one block to another are consecutive
pub consecutive : (xs : List MapEntry) (start end : ℕ) → Spans start end xs → AreConsecutive xs
consecutive [] start end spans = (λ k d below. absurd (omega (arith, below)), λ k d below. absurd (omega (arith, below)))
consecutive (x ∷ []) start end spans = (
  All-cons (λ (e : MapEntry). e.start ≤ e.end) x [] spans.1 (λ k d below. absurd (omega (arith, below))),
  λ k d below. absurd (omega (arith, below)),
)
consecutive (x ∷ y ∷ ys) start end spans =
    let rest : AreConsecutive (y ∷ ys) = consecutive (y ∷ ys) x.end end spans.2 in
    (All-cons (λ (e : MapEntry). e.start ≤ e.end) x (y ∷ ys) spans.1 rest.0, adjacent x y ys spans.2.0 rest)

-- two parts
pub spans_left : (xs ys : List MapEntry) (start end : ℕ) → Spans start end (xs ++ ys) → Spans start (end_from start xs) xs
spans_left [] ys start end spans = refl
spans_left (x ∷ xs) ys start end spans = (spans.0, spans.1, spans_left xs ys x.end end spans.2)

pub spans_right : (xs ys : List MapEntry) (start end : ℕ) → Spans start end (xs ++ ys) → Spans (end_from start xs) end ys
spans_right [] ys start end spans = spans
spans_right (x ∷ xs) ys start end spans = spans_right xs ys x.end end spans.2

pub spans_append : (xs ys : List MapEntry) (start middle end : ℕ) → Spans start middle xs → Spans middle end ys
    → Spans start end (xs ++ ys)
spans_append [] ys start middle end is spans = subst (λ at. Spans at end ys) (sym is) spans
spans_append (x ∷ xs) ys start middle end first spans =
    (first.0, first.1, spans_append xs ys x.end middle end first.2 spans)

-- one more entry
pub spans_push : (xs : List MapEntry) (x : MapEntry) (start : ℕ) → Spans start x.start xs → x.start ≤ x.end
    → Spans start x.end (xs ++ x ∷ [])
spans_push xs x start spans forward = spans_append xs (x ∷ []) start x.start x.end spans (refl, forward, refl)

-- the last entry is made longer by one that follows it
longer : (xs : List MapEntry) (k : ℕ) (d entry : MapEntry) (start : ℕ) → k + 1 ≡ length xs
    → entry.start ≤ entry.end → Spans start entry.start xs
    → Spans start entry.end (set xs k (record (get_or xs k d) { end = entry.end }))
longer [] k d entry start size later spans = absurd (omega (arith, size))
longer (x ∷ []) zero d entry start size later spans =
    let follows : x.end ≡ entry.start = spans.2 in
    (spans.0, omega (arith, follows, later, spans.1), refl)
longer (x ∷ []) (suc k) d entry start size later spans = absurd (omega (arith, size))
longer (x ∷ y ∷ ys) zero d entry start size later spans = absurd (omega (arith, size))
longer (x ∷ y ∷ ys) (suc k) d entry start size later spans =
    (spans.0, spans.1, longer (y ∷ ys) k d entry x.end (omega (arith, size)) later spans.2)

pub spans_longer : (xs : List MapEntry) (k : ℕ) (last entry : MapEntry) (start : ℕ) → k + 1 ≡ length xs
    → last ≡ get_or xs k last → entry.start ≤ entry.end → Spans start entry.start xs
    → Spans start entry.end (set xs k (record last { end = entry.end }))
spans_longer xs k last entry start size is later spans =
    subst (λ (e : MapEntry). Spans start entry.end (set xs k (record e { end = entry.end }))) (sym is)
    (longer xs k last entry start size later spans)

-- the ends
pub spans_order : (xs : List MapEntry) (start end : ℕ) → Spans start end xs → start ≤ end
spans_order [] start end spans = omega (arith, spans)
spans_order (x ∷ xs) start end spans =
    let later : x.end ≤ end = spans_order xs x.end end spans.2 in omega (arith, spans.0, spans.1, later)

weaker : (xs : List MapEntry) (low high : ℕ) → low ≤ high → All (λ (e : MapEntry). high ≤ e.start) xs
    → All (λ (e : MapEntry). low ≤ e.start) xs
weaker xs low high below all = λ k d within. let it : high ≤ (get_or xs k d).start = all k d within in omega (arith, it)

pub spans_starts : (xs : List MapEntry) (start end : ℕ) → Spans start end xs → All (λ (e : MapEntry). start ≤ e.start) xs
spans_starts [] start end spans = λ k d below. absurd (omega (arith, below))
spans_starts (x ∷ xs) start end spans =
    All-cons (λ (e : MapEntry). start ≤ e.start) x xs (omega (arith, spans.0))
    (weaker xs start x.end (omega (arith, spans.0, spans.1)) (spans_starts xs x.end end spans.2))

pub spans_ends : (xs : List MapEntry) (start end : ℕ) → Spans start end xs → All (λ (e : MapEntry). e.end ≤ end) xs
spans_ends [] start end spans = λ k d below. absurd (omega (arith, below))
spans_ends (x ∷ xs) start end spans =
    All-cons (λ (e : MapEntry). e.end ≤ end) x xs (spans_order xs x.end end spans.2) (spans_ends xs x.end end spans.2)

-- the ends of the entries rise
rising : (xs : List MapEntry) (start end : ℕ) → Spans start end xs → (i j : ℕ) (d : MapEntry) → i ≤ j → j < length xs
    → (get_or xs i d).end ≤ (get_or xs j d).end
rising [] start end spans i j d order below = absurd (omega (arith, below))
rising (x ∷ xs) start end spans zero zero d order below = omega arith
rising (x ∷ xs) start end spans zero (suc j) d order below =
    let first : x.end ≤ (get_or xs j d).start = spans_starts xs x.end end spans.2 j d (omega (arith, below)) in
    let forward : (get_or xs j d).start ≤ (get_or xs j d).end =
    (consecutive xs x.end end spans.2).0 j d (omega (arith, below)) in
    omega (arith, first, forward)
rising (x ∷ xs) start end spans (suc i) zero d order below = absurd (omega (arith, order))
rising (x ∷ xs) start end spans (suc i) (suc j) d order below =
    rising xs x.end end spans.2 i j d (omega (arith, order)) (omega (arith, below))

pub ends_rise : (xs : List MapEntry) → AreConsecutive xs → IsNonDecreasingBy (λ (e : MapEntry). e.end) xs
ends_rise xs all = rising xs (map_start xs) (map_end xs) (spans_of xs all)

-- the parts of consecutive entries
pub left_consecutive : (xs ys : List MapEntry) → AreConsecutive (xs ++ ys) → AreConsecutive xs
left_consecutive xs ys all = consecutive xs _ _ (spans_left xs ys _ _ (spans_of (xs ++ ys) all))

pub right_consecutive : (xs ys : List MapEntry) → AreConsecutive (xs ++ ys) → AreConsecutive ys
right_consecutive xs ys all = consecutive ys _ _ (spans_right xs ys _ _ (spans_of (xs ++ ys) all))

-- all of the entries after a block, if the first one is
pub all_later : (xs ys : List MapEntry) (next : MapEntry) (block : ℕ) → AreConsecutive (xs ++ ys)
    → next ≡ get_or ys 0 next → 0 < length ys → block < next.start → All (λ (e : MapEntry). block < e.start) ys
all_later xs [] next block all is some later = absurd (omega (arith, some))
all_later xs (y ∷ ys) next block all is some later = λ k d below.
    let starts : All (λ (e : MapEntry). y.start ≤ e.start) (y ∷ ys) =
    spans_starts (y ∷ ys) _ _ (spans_of (y ∷ ys) (right_consecutive xs (y ∷ ys) all)) in
    let it : y.start ≤ (get_or (y ∷ ys) k d).start = starts k d below in
    let same : next.start ≡ y.start = ap (λ (e : MapEntry). e.start) is in
    omega (arith, it, same, later)

-- the first and the last entry
pub map_start_first : (xs : List MapEntry) (d : MapEntry) → 0 < length xs → map_start xs ≡ (get_or xs 0 d).start
map_start_first [] d some = absurd (omega (arith, some))
map_start_first (x ∷ xs) d some = refl

end_from_last : (xs : List MapEntry) (start k : ℕ) (d : MapEntry) → k + 1 ≡ length xs → end_from start xs ≡ (get_or xs k d).end
end_from_last [] start k d size = absurd (omega (arith, size))
end_from_last (x ∷ []) start zero d size = refl
end_from_last (x ∷ []) start (suc k) d size = absurd (omega (arith, size))
end_from_last (x ∷ y ∷ ys) start zero d size = absurd (omega (arith, size))
end_from_last (x ∷ y ∷ ys) start (suc k) d size = end_from_last (y ∷ ys) x.end k d (omega (arith, size))

pub map_end_last : (xs : List MapEntry) (k : ℕ) (d : MapEntry) → k + 1 ≡ length xs → map_end xs ≡ (get_or xs k d).end
map_end_last xs k d size = end_from_last xs 0 k d size

pub map_end-append : (xs ys : List MapEntry) (k : ℕ) (d : MapEntry) → k + 1 ≡ length ys → map_end (xs ++ ys) ≡ (get_or ys k d).end
map_end-append xs ys k d size = end_from_append xs ys 0 k d size
  where
    end_from_append : (xs ys : List MapEntry) (start k : ℕ) (d : MapEntry) → k + 1 ≡ length ys
        → end_from start (xs ++ ys) ≡ (get_or ys k d).end
    end_from_append [] ys start k d size = end_from_last ys start k d size
    end_from_append (x ∷ xs) ys start k d size = end_from_append xs ys x.end k d size

-- blocks that the entries don't have
statuses_outside : (xs : List MapEntry) (start end block : ℕ) → Spans start end xs → (block < start) ⊎ (end ≤ block)
    → statuses_at xs block ≡ []
statuses_outside [] start end block spans outside = refl
statuses_outside (x ∷ xs) start end block spans (inl early) =
    let none : is_within x.start x.end block ≡ false = grind (arith, nat_tests, spans.0) in
    rw none (statuses_outside xs x.end end block spans.2 (inl (omega (arith, early, spans.0, spans.1))))
statuses_outside (x ∷ xs) start end block spans (inr late) =
    let last : x.end ≤ end = spans_order xs x.end end spans.2 in
    let none : is_within x.start x.end block ≡ false = grind (arith, nat_tests) in
    rw none (statuses_outside xs x.end end block spans.2 (inr late))

-- entries without blocks
pub no_blocks : (xs : List MapEntry) → AreConsecutive xs → map_end xs ≤ map_start xs → (block : ℕ) → statuses_at xs block ≡ []
no_blocks xs all none block =
    statuses_outside xs (map_start xs) (map_end xs) block (spans_of xs all)
    (either (cases_lt block (map_start xs)))
  where
    either : (block < map_start xs) ⊎ (map_start xs ≤ block) → (block < map_start xs) ⊎ (map_end xs ≤ block)
    either (inl early) = inl early
    either (inr late) = inr (omega (arith, late, none))

-- blocks that the entries have
inside_one : (x : MapEntry) (xs : List MapEntry) (start end block : ℕ) → Spans start end (x ∷ xs) → start ≤ block
    → (block < x.end) ⊎ (x.end ≤ block) → (x.end ≤ block → length (statuses_at xs block) ≡ 1)
    → length (statuses_at (x ∷ xs) block) ≡ 1
inside_one x xs start end block spans from (inl here) rest =
    let inside : is_within x.start x.end block ≡ true = grind (arith, nat_tests, spans.0) in
    rw (inside, statuses_outside xs x.end end block spans.2 (inl here)) refl
inside_one x xs start end block spans from (inr later) rest =
    let outside : is_within x.start x.end block ≡ false = grind (arith, nat_tests) in
    rw outside (rest later)

statuses_inside : (xs : List MapEntry) (start end block : ℕ) → Spans start end xs → start ≤ block → block < end
    → length (statuses_at xs block) ≡ 1
statuses_inside [] start end block spans from before = absurd (omega (arith, spans, from, before))
statuses_inside (x ∷ xs) start end block spans from before =
    inside_one x xs start end block spans from (cases_lt block x.end)
    (λ later. statuses_inside xs x.end end block spans.2 later before)

-- all blocks from the first to the last
pub has_blocks : (xs : List MapEntry) (start end : ℕ) → AreConsecutive xs → map_start xs ≤ start → end ≤ map_end xs
    → HasBlocks start end xs
has_blocks xs start end all first last = λ block from before.
    statuses_inside xs (map_start xs) (map_end xs) block (spans_of xs all) (omega (arith, first, from)) (omega (arith, last, before))

-- and no others
pub map_start_has : (xs : List MapEntry) (start end : ℕ) → AreConsecutive xs → start < end → HasBlocks start end xs
    → map_start xs ≤ start
map_start_has xs start end all some has = either (cases_lt start (map_start xs))
  where
    either : (start < map_start xs) ⊎ (map_start xs ≤ start) → map_start xs ≤ start
    either (inr is) = is
    either (inl early) =
        let none : statuses_at xs start ≡ [] =
        statuses_outside xs (map_start xs) (map_end xs) start (spans_of xs all) (inl early) in
        let one : length (statuses_at xs start) ≡ 1 = has start (omega arith) some in
        absurd (omega (arith, one, ap length none))

pub map_end_has : (xs : List MapEntry) (start end : ℕ) → AreConsecutive xs → start < end → HasBlocks start end xs
    → end ≤ map_end xs
map_end_has xs start end all some has = either (cases_lt (map_end xs) end)
  where
    either : (map_end xs < end) ⊎ (end ≤ map_end xs) → end ≤ map_end xs
    either (inr is) = is
    either (inl late) =
        let none : statuses_at xs (end - 1) ≡ [] =
        statuses_outside xs (map_start xs) (map_end xs) (end - 1) (spans_of xs all) (inr (omega (arith, late))) in
        let one : length (statuses_at xs (end - 1)) ≡ 1 = has (end - 1) (omega (arith, some)) (omega (arith, some)) in
        absurd (omega (arith, one, ap length none))

pub entries_has : (xs : List MapEntry) (start end : ℕ) → length xs ≡ 0 → start < end → HasBlocks start end xs → ⊥
entries_has [] start end none some has = omega (arith, has start (omega arith) some)
entries_has (x ∷ xs) start end none some has = omega (arith, none)
