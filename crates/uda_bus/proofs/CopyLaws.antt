-- The laws of copies that may reach past the end of memory.
use Rattle.std.proofs.Common.{◌≡◌, ℕ, ◌+◌, ◌-◌, ◌<◌, ◌≤◌, inl, inr, min, List, ◌++◌, length, take, replicate, refl, sym, ap, ◌∙◌, arith, length-take}
use borrow.Rule.Slice.PartMut.{put_mid}
use Rattle.std.proofs.lemmas.List.{append-nil, same_lists, get_or-take}
use Rattle.std.specs.List.{slice_range}
use Rattle.std.proofs.lemmas.Bool.{cases_lt}
use Rattle.uda_mem.specs.Put.{put}
use Rattle.uda_bus.specs.Copy.{padded}
use Rattle.uda_mem.proofs.PutLaws.{length-put, get_or-put_before, get_or-put_at, get_or-put_behind, put_mid-put}

-- a write past the end changes nothing
pub put_past : (memory : List ℕ) (at : ℕ) (bytes : List ℕ) → length memory ≤ at → put memory at bytes ≡ memory
put_past memory at bytes past =
    same_lists _ _ (length-put memory at bytes) (λ k d below.
    let within : k < length memory = omega (arith, length-put memory at bytes) in
    get_or-put_before memory at bytes k d within (omega arith))

-- bytes past the end are dropped
pub put_clipped : (memory : List ℕ) (at n : ℕ) (bytes : List ℕ) → n ≡ min (length bytes) (length memory - at)
    → put memory at (take n bytes) ≡ put memory at bytes
put_clipped memory at n bytes is =
    let size : length (take n bytes) ≡ n = length-take n bytes ∙ omega arith in
    same_lists _ _ (length-put memory at (take n bytes) ∙ sym (length-put memory at bytes)) (λ k d below.
    let within : k < length memory = omega (arith, length-put memory at (take n bytes)) in
    elim (cases_lt k at) [
      | inl low ↦ get_or-put_before memory at (take n bytes) k d within low
          ∙ sym (get_or-put_before memory at bytes k d within low)
      | inr from ↦ elim (cases_lt k (at + n)) [
        | inl to ↦ get_or-put_at memory at (take n bytes) k d within from (omega arith)
            ∙ get_or-take n bytes (k - at) d (omega arith)
            ∙ sym (get_or-put_at memory at bytes k d within from (omega arith))
        | inr high ↦ get_or-put_behind memory at (take n bytes) k d within (omega arith)
            ∙ sym (get_or-put_behind memory at bytes k d within (omega arith))
      ]
    ])

-- a part of memory that was lent, and then has the bytes for which there is room
pub put_mid_clipped : (memory : List ℕ) (at n : ℕ) (bytes new : List ℕ)
    → n ≡ min (length bytes) (length memory - at) → at < length memory → new ≡ take n bytes
    → put_mid at (at + n - at) memory new ≡ put memory at bytes
put_mid_clipped memory at n bytes new is inside copied =
    let size : length new ≡ n = ap length copied ∙ (length-take n bytes ∙ omega arith) in
    let count : at + n - at ≡ n = omega arith in
    rw count (put_mid-put memory at n new size (omega arith) ∙ ap (put memory at) copied
    ∙ put_clipped memory at n bytes is)

-- the bytes that are there, and zeros after them
pub padded_parts : (n m rest : ℕ) (there source first last : List ℕ) → m ≡ min (length source) n
    → rest + m ≡ n → source ≡ there → first ≡ take m source → last ≡ replicate rest 0
    → first ++ last ≡ padded n there
unfolding padded
padded_parts n m rest there source first last count all is copied zeros =
    let left = length-take m there in
    let front : take m there ≡ take n there =
    same_lists _ _ (left ∙ omega (arith, ap length is) ∙ sym (length-take n there)) (λ k d below.
    get_or-take m there k d (omega (arith, length-take m there))
    ∙ sym (get_or-take n there k d (omega (arith, length-take m there)))) in
    let more : rest ≡ n - length there = omega (arith, ap length is) in
    rw (copied, zeros, is, front, more) refl

-- all bytes are there
pub padded_whole : (n : ℕ) (there source copied : List ℕ) → n ≤ length source → source ≡ there
    → copied ≡ slice_range source 0 n → copied ≡ padded n there
unfolding padded
padded_whole n there source copied few is copy =
    let none : n - length there ≡ 0 = omega (arith, ap length is, few) in
    let all : n - 0 ≡ n = omega arith in
    rw none (copy ∙ ap (λ k. take k source) all ∙ ap (take n) is ∙ sym (append-nil (take n there)))
