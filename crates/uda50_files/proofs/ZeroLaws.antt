-- Writes to files that end in zeros.
use Rattle.std.proofs.Common.{◌≡◌, ◌+◌, ◌-◌, ◌<◌, ◌≤◌, ℕ, List, Option, Some, None, length, take, drop, replicate, get_or, IfSome, refl, sym, ap, subst, ◌∙◌, inl, inr, arith, length-take, length-drop}
use Rattle.std.proofs.lemmas.Bool.{cases_lt}
use Rattle.std.proofs.lemmas.List.{same_lists, get_or-drop, get_or-take, get_or-replicate, length-replicate}
use Rattle.std.proofs.lemmas.Grind.{same_number_lists}
use Rattle.uda_mem.specs.Put.{put}
use Rattle.uda_mem.proofs.PutLaws.{length-put, get_or-put_before, get_or-put_at, get_or-put_behind}
use Rattle.uda_image.specs.File.{WritesAt}
use Rattle.uda_image.proofs.FileSteps.{none_changes}
use Rattle.uda50_files.specs.Zeros.{AreZeros, AreAtMost, EndsInZeros, SparseState, IsAsSupposed}

-- bytes of which none is larger than 0
pub zeros_of : (bytes : List ℕ) (count : ℕ) → AreAtMost 0 count bytes → length bytes ≤ count → AreZeros bytes
zeros_of bytes count least whole =
    same_number_lists bytes (replicate (length bytes) 0) (sym (length-replicate (length bytes) 0)) (λ k below.
    let zero : get_or bytes k 0 ≤ 0 = least k (omega (arith, below, whole)) in
    let is : get_or bytes k 0 ≡ 0 = omega (arith, zero) in
    is ∙ sym (get_or-replicate (length bytes) k 0 0 below))

-- one byte more
pub most_more : (bytes : List ℕ) (i most next : ℕ) → AreAtMost most i bytes → most ≤ next → get_or bytes i 0 ≤ next
    → AreAtMost next (i + 1) bytes
most_more bytes i most next least grows this k below = elim (cases_lt k i) [
  | inl low ↦ let old = least k low in omega (arith, old, grows)
  | inr high ↦ let same : k ≡ i = omega (arith, below, high) in rw same this
]

-- the bytes of a part more
pub part_more : (bytes : List ℕ) (at end most : ℕ) → AreAtMost 0 at bytes → at ≤ end
    → AreAtMost most (length (take (end - at) (drop at bytes))) (take (end - at) (drop at bytes)) → most ≤ 0
    → end ≤ length bytes
    → AreAtMost 0 end bytes
part_more bytes at end most least forward part none within k below = elim (cases_lt k at) [
  | inl low ↦ least k low
  | inr high ↦
      let size : length (take (end - at) (drop at bytes)) ≡ end - at =
      length-take (end - at) (drop at bytes) ∙ omega (arith, within, forward, length-drop at bytes) in
      let inside : k - at < end - at = omega (arith, below, high) in
      let this : get_or (take (end - at) (drop at bytes)) (k - at) 0 ≤ most = part (k - at) (rw size inside) in
      let same : get_or (take (end - at) (drop at bytes)) (k - at) 0 ≡ get_or bytes k 0 =
      get_or-take (end - at) (drop at bytes) (k - at) 0 inside ∙ get_or-drop at bytes (k - at) 0
      ∙ ap (λ (i : ℕ). get_or bytes i 0) (omega (arith, high)) in
      omega (arith, this, none, same)
]

-- a byte at the end of such a file
zero_byte : (size from : ℕ) (bytes : List ℕ) (k d : ℕ) → EndsInZeros size from bytes → from ≤ k → k < length bytes
    → get_or bytes k d ≡ 0
zero_byte size from bytes k d ends late below =
    let rest : length (drop from bytes) ≡ length bytes - from = length-drop from bytes in
    let place : from + (k - from) ≡ k = omega arith in
    ap (λ (i : ℕ). get_or bytes i d) (sym place) ∙ sym (get_or-drop from bytes (k - from) d)
    ∙ ap (λ (xs : List ℕ). get_or xs (k - from) d) ends.zeros
    ∙ get_or-replicate (length (drop from bytes)) (k - from) 0 d (omega (arith, rest))

zeros_stay : (size from at : ℕ) (bytes zeros : List ℕ) → EndsInZeros size from bytes → from ≤ at
    → at + length zeros ≤ length bytes → AreZeros zeros → put bytes at zeros ≡ bytes
zeros_stay size from at bytes zeros ends late within are =
    same_lists _ _ (length-put bytes at zeros) (λ k d below.
    let inside : k < length bytes = omega (arith, below, length-put bytes at zeros) in
    elim (cases_lt k at) [
      | inl low ↦ get_or-put_before bytes at zeros k d inside low
      | inr high ↦ elim (cases_lt k (at + length zeros)) [
        | inl low ↦ get_or-put_at bytes at zeros k d inside high low
            ∙ ap (λ (xs : List ℕ). get_or xs (k - at) d) are
            ∙ get_or-replicate (length zeros) (k - at) 0 d (omega arith)
            ∙ sym (zero_byte size from bytes k d ends (omega arith) inside)
        | inr past ↦ get_or-put_behind bytes at zeros k d inside past
      ]
    ])

zeros_follow : (size from next at : ℕ) (bytes ys : List ℕ) → EndsInZeros size from bytes → from ≤ next
    → at + length ys ≤ next → at + length ys ≤ length bytes → EndsInZeros size next (put bytes at ys)
zeros_follow size from next at bytes ys ends later over within =
    let rest : length (drop next (put bytes at ys)) ≡ length bytes - next
    = length-drop next (put bytes at ys) ∙ ap (λ (n : ℕ). n - next) (length-put bytes at ys) in
    record {
      long = length-put bytes at ys ∙ ends.long;
      zeros = same_lists _ _ (sym (length-replicate (length (drop next (put bytes at ys))) 0)) (λ k d below.
          get_or-drop next (put bytes at ys) k d
          ∙ get_or-put_behind bytes at ys (next + k) d (omega (arith, below, rest)) (omega arith)
          ∙ zero_byte size from bytes (next + k) d ends (omega arith) (omega (arith, below, rest))
          ∙ sym (get_or-replicate (length (drop next (put bytes at ys))) k 0 d below));
    }

-- the same of bytes that may not be known
keeps : (content : Option (List ℕ)) (size from at : ℕ) (zeros : List ℕ) → IfSome content (EndsInZeros size from)
    → from ≤ at → AreZeros zeros
    → IfSome content (λ bytes. at + length zeros ≤ length bytes → put bytes at zeros ≡ bytes)
keeps (Some bytes) size from at zeros ends late are = λ within. zeros_stay size from at bytes zeros ends late within are
keeps None size from at zeros ends late are = tt

follows : (content : Option (List ℕ)) (size from next at : ℕ) (ys : List ℕ) → IfSome content (EndsInZeros size from)
    → from ≤ next → at + length ys ≤ next → at + length ys ≤ size
    → IfSome content (λ bytes. (at + length ys ≤ length bytes) × ((left : List ℕ) → length left ≡ length ys
    → EndsInZeros size next (put bytes at left)))
follows (Some bytes) size from next at ys ends later over within =
    let inside : at + length ys ≤ length bytes = omega (arith, ends.long) in (
      inside,
      λ left same.
          zeros_follow size from next at bytes left ends later (omega (arith, over, same)) (omega (arith, inside, same)),
    )
follows None size from next at ys ends later over within = tt

pub zeros_held : (file : SparseState) (from at : ℕ) (zeros : List ℕ) → IsAsSupposed file → file.zeros_from ≡ Some from
    → from ≤ at → AreZeros zeros
    → IfSome file.content (λ bytes. at + length zeros ≤ length bytes → put bytes at zeros ≡ bytes)
zeros_held file from at zeros supposed is late are =
    keeps file.content file.length from at zeros (subst (λ (z : Option ℕ). IfSome z (λ (f : ℕ). IfSome file.content (EndsInZeros file.length f))) is supposed) late are

pub zeros_next : (file : SparseState) (from next at : ℕ) (ys : List ℕ) → IsAsSupposed file → file.zeros_from ≡ Some from
    → from ≤ next → at + length ys ≤ next → at + length ys ≤ file.length
    → IfSome file.content (λ bytes. (at + length ys ≤ length bytes) × ((left : List ℕ) → length left ≡ length ys
    → EndsInZeros file.length next (put bytes at left)))
zeros_next file from next at ys supposed is later over within =
    follows file.content file.length from next at ys (subst (λ (z : Option ℕ). IfSome z (λ (f : ℕ). IfSome file.content (EndsInZeros file.length f))) is supposed) later over within

-- a write, done or not, leaves zeros after its bytes
pub ends_after : (zeros : Option ℕ) (content content_after : Option (List ℕ)) (size at : ℕ) (from : List ℕ)
    (done : Type 0)
    → IfSome zeros (λ next. IfSome content (λ bytes. (at + length from ≤ length bytes) × ((left : List ℕ)
    → length left ≡ length from → EndsInZeros size next (put bytes at left))))
    → (content ≡ None → content_after ≡ None) → WritesAt content at from content_after done
    → IfSome zeros (λ next. IfSome content_after (EndsInZeros size next))
ends_after None content content_after size at from done follows unknown writes = tt
ends_after (Some next) None content_after size at from done follows unknown writes = rw (unknown refl) tt
ends_after (Some next) (Some bytes) content_after size at from done follows unknown writes =
    let left = writes.no_other follows.0 in rw left.1.1 (follows.1 left.0 left.1.0)

-- bytes that are there already are written without a call
pub written_already : (content : Option (List ℕ)) (at : ℕ) (from : List ℕ) (done : Type 0)
    → IfSome content (λ bytes. at + length from ≤ length bytes → put bytes at from ≡ bytes)
    → WritesAt content at from content done
written_already content at from done same = record {
  if_done = there content same;
  no_other = none_changes at (length from) content;
}
  where
    there : (c : Option (List ℕ)) → IfSome c (λ bytes. at + length from ≤ length bytes → put bytes at from ≡ bytes)
        → IfSome c (λ bytes. at + length from ≤ length bytes → done → c ≡ Some (put bytes at from))
    there None same = tt
    there (Some bytes) same = λ within did. ap Some (sym (same within))

pub ruleset zero_laws = (
  zeros_held,
  zeros_next,
  ends_after,
  written_already,
)
