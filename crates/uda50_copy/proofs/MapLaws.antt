-- The statuses of blocks in entries that are added, joined or changed.
use Rattle.std.proofs.Common.{◌≡◌, ℕ, ◌+◌, ◌<◌, ◌≤◌, Bool, true, false, zero, suc, if◌then◌else◌, List, [], ◌∷◌, ◌++◌, length, get_or, set, take, drop, max, ◌-◌, All, inl, inr, ◌⊎◌, refl, sym, ap, ◌∙◌, subst, leb, ltb, Result, Ok, Err, arith}
use Rattle.std.proofs.lemmas.Bool.Decides.{nat_tests}
use Rattle.std.proofs.lemmas.List.{take_more, take_rest, take-append-drop, get_or-take, length-take, map-append}
use Rattle.std.proofs.lemmas.List.Elements.{All-append, All-head, All-tail}
use Rattle.std.proofs.lemmas.List.Sorted.{IsPartitionedBy-leb, IsPartitionedBy-ltb}
use Rattle.std.specs.List.{AllWithin}
use Rattle.std.specs.Result.{OnOk}
use Rattle.std.specs.List.Sorted.{IsPartitionedBy}
use Rattle.uda50_copy.specs.declared.map.entry.BlockStatus.{BlockStatus}
use Rattle.uda50_copy.specs.declared.map.entry.BlockStatus.TheVariants.{Finished}
use Rattle.uda50_copy.specs.declared.map.entry.MapEntry.{MapEntry}
use Rattle.uda50_copy.specs.Map.{is_within, statuses_at, changed, IsSet, IsFinishedFrom, AreForward, AreConsecutive, Spans}
use Rattle.uda50_copy.proofs.Spans.{spans_of, spans_left, spans_right, spans_append, consecutive, ends_rise}

-- one entry before others
one_before : (found : Bool) (status : BlockStatus) (rest before after : List BlockStatus) → rest ≡ before ++ after
    → (if found then status ∷ rest else rest) ≡ (if found then status ∷ before else before) ++ after
one_before true status rest before after same = ap (λ xs. status ∷ xs) same
one_before false status rest before after same = same

-- the statuses in entries that follow others
pub statuses_at-append : (xs ys : List MapEntry) (block : ℕ)
    → statuses_at (xs ++ ys) block ≡ statuses_at xs block ++ statuses_at ys block
statuses_at-append [] ys block = refl
statuses_at-append (x ∷ xs) ys block =
    one_before (is_within x.start x.end block) x.status _ _ _ (statuses_at-append xs ys block)

-- one entry that covers two, of which the second follows the first with the same status
both_within : (start middle follower end block : ℕ) (status same : BlockStatus) → start ≤ middle → follower < end
    → middle ≡ follower → status ≡ same
    → (if is_within start end block then status ∷ [] else [])
    ≡ (if is_within start middle block then status ∷ [] else [])
    ++ (if is_within follower end block then same ∷ [] else [])
both_within start middle follower end block status same forward later follows is = grind (arith, nat_tests)

-- the entries after the first one
rest_forward : (x : MapEntry) (xs : List MapEntry) → AreForward (x ∷ xs) → AreForward xs
rest_forward x xs forward = λ k d below. forward (suc k) d (omega (arith, below))

-- the last entry is made longer by one that follows it
joined : (xs : List MapEntry) (k : ℕ) (d entry : MapEntry) (block : ℕ) → AreForward xs → k + 1 ≡ length xs
    → (get_or xs k d).status ≡ entry.status → (get_or xs k d).end ≡ entry.start → entry.start < entry.end
    → statuses_at (set xs k (record (get_or xs k d) { end = entry.end })) block
    ≡ statuses_at xs block ++ statuses_at (entry ∷ []) block
joined [] k d entry block forward size same follows later = absurd (omega (arith, size))
joined (x ∷ []) zero d entry block forward size same follows later =
    both_within x.start x.end entry.start entry.end block x.status entry.status (forward 0 d (omega arith)) later follows
    same
joined (x ∷ []) (suc k) d entry block forward size same follows later = absurd (omega (arith, size))
joined (x ∷ y ∷ ys) zero d entry block forward size same follows later = absurd (omega (arith, size))
joined (x ∷ y ∷ ys) (suc k) d entry block forward size same follows later =
    one_before (is_within x.start x.end block) x.status _ _ _
    (joined (y ∷ ys) k d entry block (rest_forward x (y ∷ ys) forward) (omega (arith, size)) same follows later)

pub joined_last : (xs : List MapEntry) (k : ℕ) (last entry : MapEntry) (block : ℕ) → AreForward xs → k + 1 ≡ length xs
    → last ≡ get_or xs k last → last.status ≡ entry.status → last.end ≡ entry.start → entry.start < entry.end
    → statuses_at (set xs k (record last { end = entry.end })) block
    ≡ statuses_at xs block ++ statuses_at (entry ∷ []) block
joined_last xs k last entry block forward size is same follows later =
    ap (λ (e : MapEntry). statuses_at (set xs k (record e { end = entry.end })) block) is
    ∙ joined xs k last entry block forward size (ap (λ (e : MapEntry). e.status) (sym is) ∙ same)
    (ap (λ (e : MapEntry). e.end) (sym is) ∙ follows) later

-- statuses that are set in two parts
set_in_both : (inside : Bool) (status : BlockStatus) (before after : List BlockStatus)
    → (if inside then changed status before else before) ++ (if inside then changed status after else after)
    ≡ (if inside then changed status (before ++ after) else before ++ after)
set_in_both true status before after = sym (map-append (λ _. status) before after)
set_in_both false status before after = refl

-- one entry more
pub set_more : (xs : List MapEntry) (i : ℕ) (d : MapEntry) (start end : ℕ) (status : BlockStatus)
    (old new : List MapEntry) → i < length xs → IsSet start end status (take i xs) old
    → ((block : ℕ) → statuses_at new block ≡ statuses_at old block
    ++ (if is_within start end block then changed status (statuses_at (get_or xs i d ∷ []) block)
    else statuses_at (get_or xs i d ∷ []) block))
    → IsSet start end status (take (i + 1) xs) new
set_more xs i d start end status old new below done added = λ block.
    let entry = get_or xs i d ∷ [] in
    let inside = is_within start end block in
    let whole : statuses_at (take (i + 1) xs) block ≡ statuses_at (take i xs) block ++ statuses_at entry block =
    ap (λ ys. statuses_at ys block) (take_more xs i d below) ∙ statuses_at-append (take i xs) entry block in
    added block
    ∙ ap (λ s. s ++ (if inside then changed status (statuses_at entry block) else statuses_at entry block)) (done block)
    ∙ set_in_both inside status (statuses_at (take i xs) block) (statuses_at entry block)
    ∙ ap (λ s. if inside then changed status s else s) (sym whole)

-- all blocks are finished of an entry that is finished, and of one that has none
abbrev AreFinished : List BlockStatus → Type 0
AreFinished statuses = All (λ status. status ≡ Finished) statuses

single : (status : BlockStatus) (k : ℕ) (d : BlockStatus) → status ≡ Finished → k < 1 → get_or (status ∷ []) k d ≡ Finished
single status zero d is below = is
single status (suc k) d is below = absurd (omega (arith, below))

if_finished : (inside : Bool) (status : BlockStatus) → status ≡ Finished
    → AreFinished (if inside then status ∷ [] else [])
if_finished true status is = λ k d below. single status k d is below
if_finished false status is = λ k d below. absurd (omega (arith, below))

if_outside : (inside : Bool) (status : BlockStatus) → inside ≡ false
    → AreFinished (if inside then status ∷ [] else [])
if_outside inside status outside = rw outside (λ k d below. absurd (omega (arith, below)))

pub outside_empty : (start end from block : ℕ) → end ≤ max start from → from ≤ block → is_within start end block ≡ false
outside_empty start end from block none late = grind (arith, nat_tests)

finished_entry : (entry : MapEntry) (from block : ℕ) → (entry.status ≡ Finished) ⊎ (entry.end ≤ max entry.start from)
    → from ≤ block → AreFinished (statuses_at (entry ∷ []) block)
finished_entry entry from block (inl is) late = if_finished (is_within entry.start entry.end block) entry.status is
finished_entry entry from block (inr none) late =
    if_outside (is_within entry.start entry.end block) entry.status
    (outside_empty entry.start entry.end from block none late)

-- an entry without blocks that are not finished, of those from this one on
abbrev pub IsDone : ℕ → MapEntry → Type 0
IsDone from entry = (entry.status ≡ Finished) ⊎ (entry.end ≤ max entry.start from)

pub done_finished : (xs : List MapEntry) (from : ℕ) → All (IsDone from) xs → IsFinishedFrom from xs
done_finished [] from all = λ block late k d below. absurd (omega (arith, below))
done_finished (x ∷ xs) from all = λ block late.
    rw (statuses_at-append (x ∷ []) xs block)
    (All-append (λ status. status ≡ Finished) (statuses_at (x ∷ []) block) (statuses_at xs block)
    (finished_entry x from block (All-head (IsDone from) x xs all) late)
    (done_finished xs from (All-tail (IsDone from) x xs all) block late))

-- entries that have none of the blocks that get a status
pub none_within : (xs : List MapEntry) (block : ℕ) → All (λ (e : MapEntry). is_within e.start e.end block ≡ false) xs
    → statuses_at xs block ≡ []
none_within [] block all = refl
none_within (x ∷ xs) block all =
    rw (All-head (λ (e : MapEntry). is_within e.start e.end block ≡ false) x xs all)
    (none_within xs block (All-tail (λ (e : MapEntry). is_within e.start e.end block ≡ false) x xs all))

unchanged_at : (inside : Bool) (status : BlockStatus) (statuses : List BlockStatus) → (inside ≡ true → statuses ≡ [])
    → statuses ≡ (if inside then changed status statuses else statuses)
unchanged_at true status statuses none = rw (none refl) refl
unchanged_at false status statuses none = refl

unchanged : (xs : List MapEntry) (start end : ℕ) (status : BlockStatus)
    → All (λ (e : MapEntry). (e.end ≤ start) ⊎ (end ≤ e.start)) xs → IsSet start end status xs xs
unchanged xs start end status outside = λ block.
    unchanged_at (is_within start end block) status (statuses_at xs block)
    (λ inside. none_within xs block (λ k d below. apart (get_or xs k d) start end block inside (outside k d below)))
  where
    apart : (e : MapEntry) (start end block : ℕ) → is_within start end block ≡ true → (e.end ≤ start) ⊎ (end ≤ e.start)
        → is_within e.start e.end block ≡ false
    apart e start end block inside (inl below) = grind (arith, nat_tests)
    apart e start end block inside (inr above) = grind (arith, nat_tests)

-- two parts that are changed one by one
pub IsSet-append : (xs ys xs_after ys_after : List MapEntry) (start end : ℕ) (status : BlockStatus)
    → IsSet start end status xs xs_after → IsSet start end status ys ys_after
    → IsSet start end status (xs ++ ys) (xs_after ++ ys_after)
IsSet-append xs ys xs_after ys_after start end status first second = λ block.
    let inside = is_within start end block in
    statuses_at-append xs_after ys_after block
    ∙ ap (λ s. s ++ statuses_at ys_after block) (first block)
    ∙ ap (λ s. (if inside then changed status (statuses_at xs block) else statuses_at xs block) ++ s) (second block)
    ∙ set_in_both inside status (statuses_at xs block) (statuses_at ys block)
    ∙ ap (λ s. if inside then changed status s else s) (sym (statuses_at-append xs ys block))

-- entries in the middle of a map that are changed
pub set_middle : (xs ys zs new : List MapEntry) (start end : ℕ) (status : BlockStatus)
    → All (λ (e : MapEntry). e.end < start) xs → All (λ (e : MapEntry). end < e.start) zs → IsSet start end status ys new
    → IsSet start end status ((xs ++ ys) ++ zs) ((xs ++ new) ++ zs)
set_middle xs ys zs new start end status before after is =
    IsSet-append (xs ++ ys) zs (xs ++ new) zs start end status
    (IsSet-append xs ys xs new start end status
    (unchanged xs start end status (λ k d below. inl (omega (arith, before k d below)))) is)
    (unchanged zs start end status (λ k d below. inr (omega (arith, after k d below))))

-- entries that reach as far as those in whose place they come
pub consecutive_middle : (xs ys zs new : List MapEntry) → AreConsecutive ((xs ++ ys) ++ zs)
    → ((start end : ℕ) → Spans start end ys → Spans start end new) → AreConsecutive ((xs ++ new) ++ zs)
consecutive_middle xs ys zs new all same =
    let whole = spans_of ((xs ++ ys) ++ zs) all in
    let front = spans_left (xs ++ ys) zs _ _ whole in
    consecutive ((xs ++ new) ++ zs) _ _
    (spans_append (xs ++ new) zs _ _ _
    (spans_append xs new _ _ _ (spans_left xs ys _ _ front) (same _ _ (spans_right xs ys _ _ front)))
    (spans_right (xs ++ ys) zs _ _ whole))

-- one entry more of those that are changed
pub spans_set_more : (xs : List MapEntry) (i : ℕ) (d : MapEntry) (old new : List MapEntry) → i < length xs
    → ((start end : ℕ) → Spans start end (take i xs) → Spans start end old)
    → ((start : ℕ) → Spans start (get_or xs i d).start old → Spans start (get_or xs i d).end new)
    → (start end : ℕ) → Spans start end (take (i + 1) xs) → Spans start end new
spans_set_more xs i d old new below done added start end spans =
    let parts : Spans start end (take i xs ++ get_or xs i d ∷ []) = rw (take_more xs i d below) at spans in
    let last = spans_right (take i xs) (get_or xs i d ∷ []) start end parts in
    let first = spans_left (take i xs) (get_or xs i d ∷ []) start end parts in
    subst (λ at. Spans start at new) last.2
    (added start (done start (get_or xs i d).start (subst (λ at. Spans start at (take i xs)) last.0 first)))

-- the first entry that ends at a block or later
pub ends_before : (xs : List MapEntry) (block : ℕ) → AreConsecutive xs → IsPartitionedBy (λ (e : MapEntry). ltb e.end block) xs
ends_before xs block all = IsPartitionedBy-ltb (λ (e : MapEntry). e.end) xs block (ends_rise xs all)

-- the first entry that ends after a block
pub ends_up_to : (xs : List MapEntry) (block : ℕ) → AreConsecutive xs → IsPartitionedBy (λ (e : MapEntry). leb e.end block) xs
ends_up_to xs block all = IsPartitionedBy-leb (λ (e : MapEntry). e.end) xs block (ends_rise xs all)

-- the first elements, all of which have P
pub All-first : (P : MapEntry → Type 0) (xs : List MapEntry) (n : ℕ) → n ≤ length xs → AllWithin P xs 0 n → All P (take n xs)
All-first P xs n below all = λ k d within.
    let size : k < n = omega (arith, length-take n xs) in
    subst P (sym (get_or-take n xs k d size)) (all k d (omega arith) size)

-- the entries from the first one on that is changed
pub rest_of : (xs ys : List MapEntry) (first : ℕ) → ys ≡ xs → take (length ys - first) (drop first ys) ≡ drop first xs
rest_of xs ys first same = take_rest ys first ∙ ap (λ zs. drop first zs) same

-- a fact that does not depend on the result
pub on_ok : {T E P : Type 0} (r : Result T E) → P → OnOk r P
on_ok (Ok x) is = is
on_ok (Err e) is = tt

-- a block that is not before the first entries
pub skipped : (xs : List MapEntry) (n from block : ℕ) → n ≤ length xs → AllWithin (λ (e : MapEntry). e.end ≤ from) xs 0 n
    → from ≤ block → statuses_at xs block ≡ statuses_at (drop n xs) block
skipped xs n from block size all late =
    let first = All-first (λ (e : MapEntry). e.end ≤ from) xs n size all in
    let none : statuses_at (take n xs) block ≡ [] =
    none_within (take n xs) block (λ k d below. ended (get_or (take n xs) k d) from block (first k d below) late) in
    ap (λ ys. statuses_at ys block) (sym (take-append-drop n xs)) ∙ statuses_at-append (take n xs) (drop n xs) block
    ∙ ap (λ s. s ++ statuses_at (drop n xs) block) none
  where
    ended : (e : MapEntry) (from block : ℕ) → e.end ≤ from → from ≤ block → is_within e.start e.end block ≡ false
    ended e from block is late = grind (arith, nat_tests)

-- two lists, of which the first entries end up to a block and the others are done
pub finished_from : (xs ys : List MapEntry) (n m from : ℕ) → n ≤ length xs → m ≤ length ys
    → AllWithin (λ (e : MapEntry). e.end ≤ from) xs 0 n → AllWithin (λ (e : MapEntry). e.end ≤ from) ys 0 m
    → All (IsDone from) (drop n xs ++ drop m ys) → IsFinishedFrom from (xs ++ ys)
finished_from xs ys n m from first second early late all = λ block after.
    let same : statuses_at (xs ++ ys) block ≡ statuses_at (drop n xs ++ drop m ys) block =
    statuses_at-append xs ys block
    ∙ ap (λ s. s ++ statuses_at ys block) (skipped xs n from block first early after)
    ∙ ap (λ s. statuses_at (drop n xs) block ++ s) (skipped ys m from block second late after)
    ∙ sym (statuses_at-append (drop n xs) (drop m ys) block) in
    rw same (done_finished (drop n xs ++ drop m ys) from all block after)
