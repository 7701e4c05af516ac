-- The laws of ranges that are carried from one memory to another: they are then the same in both.
use Rattle.std.proofs.Common.{◌≡◌, ℕ, ◌+◌, ◌-◌, ◌<◌, ◌≤◌, inl, inr, min, List, [], ◌∷◌, length, get_or, refl, sym, ap, ◌∙◌, arith}
use Rattle.std.specs.Prelude.{All}
use Rattle.std.proofs.lemmas.List.{same_lists}
use Rattle.std.proofs.lemmas.List.Elements.{All-nil, All-cons, All-head, All-tail}
use Rattle.std.proofs.lemmas.Bool.{cases_lt}
use Rattle.uda_mem.specs.declared.range.ByteRange.{ByteRange}
use Rattle.uda_mem.specs.Put.{put, part}
use Rattle.uda_mem.specs.Ranges.{SameIn, carried}
use Rattle.uda_mem.proofs.PutLaws.{length-put, length-part, get_or-part, get_or-put_before, get_or-put_at, get_or-put_behind}

-- ---- one byte

-- a byte of a range that two memories share
byte_shared : (memory other : List ℕ) (r : ByteRange) (k d : ℕ) → SameIn memory other r → k < r.bytes
    → get_or other (r.at + k) d ≡ get_or memory (r.at + k) d
byte_shared memory other r k d same below =
    sym (get_or-part other r.at r.bytes k d below) ∙ ap (λ (p : List ℕ). get_or p k d) same
    ∙ get_or-part memory r.at r.bytes k d below

-- a byte of a carried range
byte_carried : (memory other : List ℕ) (q : ByteRange) (i d : ℕ) → length other ≡ length memory
    → i < length other → q.at ≤ i → i < q.at + q.bytes
    → get_or (put other q.at (part memory q.at q.bytes)) i d ≡ get_or memory i d
byte_carried memory other q i d long within from to =
    let size = length-part memory q.at q.bytes in
    get_or-put_at other q.at (part memory q.at q.bytes) i d within from (omega arith)
    ∙ get_or-part memory q.at q.bytes (i - q.at) d (omega arith) ∙ ap (λ j. get_or memory j d) (omega arith)

-- a shared byte is still shared after another range was carried
byte_kept : (memory other : List ℕ) (q : ByteRange) (i d : ℕ) → length other ≡ length memory
    → i < length other → get_or other i d ≡ get_or memory i d
    → get_or (put other q.at (part memory q.at q.bytes)) i d ≡ get_or memory i d
byte_kept memory other q i d long within same =
    let bytes = part memory q.at q.bytes in
    let size = length-part memory q.at q.bytes in
    elim (cases_lt i q.at) [
      | inl low ↦ get_or-put_before other q.at bytes i d within low ∙ same
      | inr from ↦ elim (cases_lt i (q.at + q.bytes)) [
        | inl to ↦ byte_carried memory other q i d long within from to
        | inr past ↦ get_or-put_behind other q.at bytes i d within (omega arith) ∙ same
      ]
    ]

-- ---- ranges

-- memories of one length share a range if they share each of its bytes
shared_by_bytes : (memory other : List ℕ) (r : ByteRange) → length other ≡ length memory
    → ((k d : ℕ) → k < r.bytes → r.at + k < length other
    → get_or other (r.at + k) d ≡ get_or memory (r.at + k) d)
    → SameIn memory other r
shared_by_bytes memory other r long same =
    let left = length-part other r.at r.bytes in
    let right = length-part memory r.at r.bytes in
    same_lists _ _ (left ∙ ap (λ l. min r.bytes (l - r.at)) long ∙ sym right) (λ k d below.
    let inside : k < r.bytes = omega (arith, left) in
    let within : r.at + k < length other = omega (arith, left) in
    get_or-part other r.at r.bytes k d inside ∙ same k d inside within
    ∙ sym (get_or-part memory r.at r.bytes k d inside))

shared_here : (memory other : List ℕ) (r : ByteRange) → length other ≡ length memory
    → SameIn memory (put other r.at (part memory r.at r.bytes)) r
shared_here memory other r long =
    let bytes = part memory r.at r.bytes in
    let kept = length-put other r.at bytes in
    shared_by_bytes memory (put other r.at bytes) r (kept ∙ long) (λ k d below within.
    byte_carried memory other r (r.at + k) d long (omega (arith, kept)) (omega arith) (omega arith))

shared_still : (memory other : List ℕ) (q r : ByteRange) → length other ≡ length memory
    → SameIn memory other r → SameIn memory (put other q.at (part memory q.at q.bytes)) r
shared_still memory other q r long same =
    let bytes = part memory q.at q.bytes in
    let kept = length-put other q.at bytes in
    shared_by_bytes memory (put other q.at bytes) r (kept ∙ long) (λ k d below within.
    byte_kept memory other q (r.at + k) d long (omega (arith, kept))
    (byte_shared memory other r k d same below))

-- a shared range is still shared after others were carried
pub carried_keeps : (rs : List ByteRange) (memory other : List ℕ) (r : ByteRange)
    → length other ≡ length memory → SameIn memory other r → SameIn memory (carried rs memory other) r
carried_keeps [] memory other r long same = same
carried_keeps (q ∷ rs) memory other r long same =
    let bytes = part memory q.at q.bytes in
    carried_keeps rs memory (put other q.at bytes) r (length-put other q.at bytes ∙ long)
    (shared_still memory other q r long same)

-- ranges that were carried are shared
pub carried_agrees : (rs : List ByteRange) (memory other : List ℕ) → length other ≡ length memory
    → All (SameIn memory (carried rs memory other)) rs
carried_agrees [] memory other long = All-nil (SameIn memory other)
carried_agrees (r ∷ rs) memory other long =
    let next = put other r.at (part memory r.at r.bytes) in
    let kept = length-put other r.at (part memory r.at r.bytes) ∙ long in
    All-cons (SameIn memory (carried rs memory next)) r rs
    (carried_keeps rs memory next r kept (shared_here memory other r long))
    (carried_agrees rs memory next kept)

pub all_same-sym : (rs : List ByteRange) (memory other : List ℕ) → All (SameIn memory other) rs
    → All (SameIn other memory) rs
all_same-sym [] memory other all = All-nil (SameIn other memory)
all_same-sym (r ∷ rs) memory other all =
    All-cons (SameIn other memory) r rs (sym (All-head (SameIn memory other) r rs all))
    (all_same-sym rs memory other (All-tail (SameIn memory other) r rs all))

pub all_kept : (qs rs : List ByteRange) (memory other : List ℕ) → length other ≡ length memory
    → All (SameIn memory other) rs → All (SameIn memory (carried qs memory other)) rs
all_kept qs [] memory other long all = All-nil (SameIn memory (carried qs memory other))
all_kept qs (r ∷ rs) memory other long all =
    All-cons (SameIn memory (carried qs memory other)) r rs
    (carried_keeps qs memory other r long (All-head (SameIn memory other) r rs all))
    (all_kept qs rs memory other long (All-tail (SameIn memory other) r rs all))

pub all_same-trans : (rs : List ByteRange) (a b c : List ℕ) → All (SameIn a b) rs → All (SameIn b c) rs
    → All (SameIn a c) rs
all_same-trans [] a b c ab bc = All-nil (SameIn a c)
all_same-trans (r ∷ rs) a b c ab bc =
    All-cons (SameIn a c) r rs (All-head (SameIn b c) r rs bc ∙ All-head (SameIn a b) r rs ab)
    (all_same-trans rs a b c (All-tail (SameIn a b) r rs ab) (All-tail (SameIn b c) r rs bc))

-- memories that share these ranges have the same to be carried
pub carried_same : (rs : List ByteRange) (a b other : List ℕ) → All (SameIn a b) rs
    → carried rs a other ≡ carried rs b other
carried_same [] a b other all = refl
carried_same (r ∷ rs) a b other all =
    ap (λ (bytes : List ℕ). carried rs a (put other r.at bytes)) (sym (All-head (SameIn a b) r rs all))
    ∙ carried_same rs a b (put other r.at (part b r.at r.bytes)) (All-tail (SameIn a b) r rs all)
