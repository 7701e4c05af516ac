-- The last block that is finished.
use Rattle.std.proofs.Common.{◌≡◌, ◌≢◌, ℕ, ◌-◌, ◌<◌, ◌≤◌, Bool, true, false, zero, suc, if◌then◌else◌, List, [], ◌∷◌, ◌++◌, length, reverse, get_or, All, Bor, inl, inr, ◌⊎◌, sym, ap, ◌∙◌, subst, arith}
use Rattle.std.proofs.lemmas.Bool.{cases_lt}
use Rattle.std.proofs.lemmas.Bool.Decides.{nat_tests}
use Rattle.std.proofs.lemmas.Iterator.{YieldsList}
use Rattle.std.proofs.lemmas.Iterator.Consumers.{YieldsList-from_shown}
use Rattle.std.proofs.lemmas.List.{length-reverse, get_or-reverse, reverse-append}
use Rattle.std.proofs.lemmas.List.Elements.{All-append, All-head, All-tail, All-cons, All-contains, Contains-push, Contains-append_left, Contains-append_right}
use Rattle.std.specs.List.{AllWithin, HoldsAt, Contains}
use Rattle.std.specs.Slice.Iter.{iter_rest, iter_steps_back}
use Rattle.std.specs.VecDeque.Iter.{deque_iter_rest, deque_iter_steps_back}
use Rattle.uda50_copy.specs.declared.map.entry.BlockStatus.{BlockStatus}
use Rattle.uda50_copy.specs.declared.map.entry.BlockStatus.TheVariants.{Finished}
use Rattle.uda50_copy.specs.declared.map.entry.MapEntry.{MapEntry}
use Rattle.uda50_copy.specs.Map.{is_within, statuses_at, IsUnfinishedFrom, AreConsecutive, map_start, end_from}
use Rattle.uda50_copy.proofs.MapLaws.{statuses_at-append, outside_empty}
use Rattle.uda50_copy.proofs.Spans.{spans_of, spans_left, spans_right, spans_starts, spans_ends, right_consecutive, ends_rise}

-- an entry without finished blocks, of those from this one on
abbrev pub IsUnfinished : MapEntry → Type 0
IsUnfinished entry = (entry.status ≢ Finished) ⊎ (entry.end ≤ entry.start)

abbrev pub IsQuiet : ℕ → MapEntry → Type 0
IsQuiet from entry = (entry.end ≤ from) ⊎ IsUnfinished entry

if_other : (inside : Bool) (status : BlockStatus) → status ≢ Finished
    → All (λ status. status ≢ Finished) (if inside then status ∷ [] else [])
if_other true status other = All-cons (λ status. status ≢ Finished) status [] other (λ k d below. absurd (omega (arith, below)))
if_other false status other = λ k d below. absurd (omega (arith, below))

if_none : (inside : Bool) (status : BlockStatus) → inside ≡ false
    → All (λ status. status ≢ Finished) (if inside then status ∷ [] else [])
if_none inside status outside = rw outside (λ k d below. absurd (omega (arith, below)))

quiet_entry : (entry : MapEntry) (from block : ℕ) → IsQuiet from entry → from ≤ block
    → All (λ status. status ≢ Finished) (statuses_at (entry ∷ []) block)
quiet_entry entry from block (inl early) late =
    if_none (is_within entry.start entry.end block) entry.status
    (outside_empty entry.start entry.end from block (omega (arith, early)) late)
quiet_entry entry from block (inr (inl other)) late = if_other (is_within entry.start entry.end block) entry.status other
quiet_entry entry from block (inr (inr none)) late =
    if_none (is_within entry.start entry.end block) entry.status
    (outside_empty entry.start entry.end from block (omega (arith, none)) late)

pub quiet_unfinished : (xs : List MapEntry) (from : ℕ) → All (IsQuiet from) xs → IsUnfinishedFrom from xs
quiet_unfinished [] from all = λ block late k d below. absurd (omega (arith, below))
quiet_unfinished (x ∷ xs) from all = λ block late.
    rw (statuses_at-append (x ∷ []) xs block)
    (All-append (λ status. status ≢ Finished) (statuses_at (x ∷ []) block) (statuses_at xs block)
    (quiet_entry x from block (All-head (IsQuiet from) x xs all) late)
    (quiet_unfinished xs from (All-tail (IsQuiet from) x xs all) block late))

-- the last entry with finished blocks: the others, seen from the last one on, have none
pub last_quiet : (xs : List MapEntry) (i : ℕ) (x : MapEntry) → AreConsecutive xs → i < length (reverse xs)
    → HoldsAt (λ y. y ≡ x) (reverse xs) i → AllWithin IsUnfinished (reverse xs) 0 i → All (IsQuiet x.end) xs
last_quiet xs i x all below is others = λ k d within.
    let size : length (reverse xs) ≡ length xs = length-reverse xs in
    let at : get_or xs (length xs - 1 - i) d ≡ x = sym (get_or-reverse xs i d (omega (arith, size, below))) ∙ is d in
    either k d within at (cases_lt (length xs - 1 - i) k)
  where
    either : (k : ℕ) (d : MapEntry) → k < length xs → get_or xs (length xs - 1 - i) d ≡ x
        → (length xs - 1 - i < k) ⊎ (k ≤ length xs - 1 - i) → IsQuiet x.end (get_or xs k d)
    either k d within at (inl later) =
        let size : length (reverse xs) ≡ length xs = length-reverse xs in
        let mirrored : get_or (reverse xs) (length xs - 1 - k) d ≡ get_or xs k d =
        get_or-reverse xs (length xs - 1 - k) d (omega (arith, within))
        ∙ ap (λ j. get_or xs j d) (omega (arith, within)) in
        inr (subst IsUnfinished mirrored (others (length xs - 1 - k) d (omega arith) (omega (arith, within, later))))
    either k d within at (inr earlier) =
        let size : length (reverse xs) ≡ length xs = length-reverse xs in
        let ends : (get_or xs k d).end ≤ (get_or xs (length xs - 1 - i) d).end =
        ends_rise xs all k (length xs - 1 - i) d earlier (omega (arith, within)) in
        let end : (get_or xs (length xs - 1 - i) d).end ≡ x.end = ap (λ (e : MapEntry). e.end) at in
        inl (omega (arith, ends, end))

pub none_quiet : (xs : List MapEntry) (from : ℕ) → AllWithin IsUnfinished (reverse xs) 0 (length (reverse xs))
    → All (IsQuiet from) xs
none_quiet xs from others = λ k d within.
    let size : length (reverse xs) ≡ length xs = length-reverse xs in
    let mirrored : get_or (reverse xs) (length xs - 1 - k) d ≡ get_or xs k d =
    get_or-reverse xs (length xs - 1 - k) d (omega (arith, within))
    ∙ ap (λ j. get_or xs j d) (omega (arith, within)) in
    inr (subst IsUnfinished mirrored (others (length xs - 1 - k) d (omega arith) (omega (arith, size, within))))

-- the entries before others
pub before_quiet : (xs ys : List MapEntry) (x : MapEntry) → AreConsecutive (xs ++ ys) → Contains ys x → All (IsQuiet x.end) xs
before_quiet xs ys x all there = λ k d below.
    let spans = spans_of (xs ++ ys) all in
    let middle = end_from (map_start (xs ++ ys)) xs in
    let ends : (get_or xs k d).end ≤ middle = spans_ends xs _ _ (spans_left xs ys _ _ spans) k d below in
    let starts : middle ≤ x.start = All-contains (λ (e : MapEntry). middle ≤ e.start) ys x (spans_starts ys _ _ (spans_right xs ys _ _ spans)) there in
    let forward : x.start ≤ x.end = All-contains (λ (e : MapEntry). e.start ≤ e.end) ys x (right_consecutive xs ys all).0 there in
    inl (omega (arith, ends, starts, forward))

-- a block of an entry
within_entry : (xs : List MapEntry) (block k : ℕ) (d : MapEntry) → k < length xs
    → is_within (get_or xs k d).start (get_or xs k d).end block ≡ true
    → Contains (statuses_at xs block) (get_or xs k d).status
within_entry [] block k d below inside = absurd (omega (arith, below))
within_entry (y ∷ ys) block zero d below inside =
    subst (λ ss. Contains ss y.status) (sym (statuses_at-append (y ∷ []) ys block))
    (Contains-append_left (statuses_at (y ∷ []) block) (statuses_at ys block) y.status
    (rw inside (Contains-push [] y.status)))
within_entry (y ∷ ys) block (suc k) d below inside =
    subst (λ ss. Contains ss (get_or ys k d).status) (sym (statuses_at-append (y ∷ []) ys block))
    (Contains-append_right (statuses_at (y ∷ []) block) (statuses_at ys block) (get_or ys k d).status
    (within_entry ys block k d (omega (arith, below)) inside))

pub status_there : (xs : List MapEntry) (x : MapEntry) (block : ℕ) → Contains xs x → x.start ≤ block → block < x.end
    → Contains (statuses_at xs block) x.status
status_there xs x block there from before =
    let inside : is_within x.start x.end block ≡ true = grind (arith, nat_tests) in
    All-contains (λ (e : MapEntry). is_within e.start e.end block ≡ true → Contains (statuses_at xs block) e.status) xs x
    (λ k d below. within_entry xs block k d below) there inside

-- the last place of a list, seen from its end
pub in_reverse : (xs : List MapEntry) (i : ℕ) (x : MapEntry) → i < length (reverse xs) → HoldsAt (λ y. y ≡ x) (reverse xs) i
    → Contains xs x
in_reverse xs i x below is =
    let size : length (reverse xs) ≡ length xs = length-reverse xs in
    (length xs - 1 - i, omega (arith, size, below), sym (get_or-reverse xs i x (omega (arith, size, below))) ∙ is x)

-- chains from the last item on
pub slice_back : {s : _} (xs : List MapEntry) → iter_rest s ≡ xs
    → YieldsList iter_steps_back (λ (y : Bor MapEntry). y.now) s (reverse xs)
slice_back {s} xs e =
    subst (λ ys. YieldsList iter_steps_back (λ (y : Bor MapEntry). y.now) s (reverse ys)) e
    (YieldsList-from_shown iter_steps_back (λ (y : Bor MapEntry). y.now) (λ u. reverse (iter_rest u))
    (λ u t p. length-reverse _ ∙ p.0) (λ u x t p. ap reverse p ∙ reverse-append (iter_rest t) (x.now ∷ [])) s)

pub deque_back : {s : _} (xs : List MapEntry) → deque_iter_rest s ≡ xs
    → YieldsList (deque_iter_steps_back {X = MapEntry}) (λ (y : Bor MapEntry). y.now) s (reverse xs)
deque_back {s} xs e =
    subst (λ ys. YieldsList (deque_iter_steps_back {X = MapEntry}) (λ (y : Bor MapEntry). y.now) s (reverse ys)) e
    (YieldsList-from_shown deque_iter_steps_back (λ (y : Bor MapEntry). y.now) (λ u. reverse (deque_iter_rest u))
    (λ u t p. length-reverse _ ∙ p.0) (λ u x t p. ap reverse p ∙ reverse-append (deque_iter_rest t) (x.now ∷ [])) s)
