-- The laws of `put` and `part`. Every layer above memory uses them.
use Rattle.std.proofs.Common.{◌≡◌, ℕ, ◌+◌, ◌-◌, ◌<◌, ◌≤◌, inl, inr, min, List, [], ◌++◌, length, get_or, take, drop, refl, sym, ap, ◌∙◌, arith, length-append, length-drop, length-take}
use borrow.Rule.Slice.PartMut.{put_mid}
use Rattle.std.proofs.lemmas.List.{same_lists, get_or_append_left, get_or-append_right, get_or-take, get_or-drop, drop-drop, take_all}
use Rattle.std.proofs.lemmas.Bool.{cases_lt}
use Rattle.std.proofs.Math.Seq.{take-add}
use Rattle.uda_mem.specs.Put.{part, put, Overlap}

-- an index is before a range, in it or after it
data Side (at n k : ℕ) : Type 0 where
  before : k < at → Side at n k
  inside : at ≤ k → k < at + n → Side at n k
  behind : at + n ≤ k → Side at n k

side : (at n k : ℕ) → Side at n k
side at n k = elim (cases_lt k at) [
  | inl low ↦ before low
  | inr from ↦ elim (cases_lt k (at + n)) [ inl to ↦ inside from to | inr high ↦ behind high ]
]

module _ {A : Type 0} where
  -- a write keeps the length
  pub length-put : (xs : List A) (at : ℕ) (ys : List A) → length (put xs at ys) ≡ length xs
  unfolding put
  length-put xs at ys = simp (length-take, length-append, length-drop) (omega arith)

  pub length-part : (xs : List A) (at n : ℕ) → length (part xs at n) ≡ min n (length xs - at)
  unfolding part
  length-part xs at n = simp (length-take, length-drop)

  pub length-part-le : (xs : List A) (at n : ℕ) → at + n ≤ length xs → length (part xs at n) ≡ n
  length-part-le xs at n h = length-part xs at n ∙ omega arith

  -- two neighbouring ranges are one
  pub part-next : (xs : List A) (at n m : ℕ) → part xs at (n + m) ≡ part xs at n ++ part xs (at + n) m
  unfolding part
  part-next xs at n m = take-add n m (drop at xs) ∙ ap (λ rest. take n (drop at xs) ++ take m rest) (drop-drop n at xs)

  pub get_or-part : (xs : List A) (at n k : ℕ) (d : A) → k < n → get_or (part xs at n) k d
      ≡ get_or xs (at + k) d
  unfolding part
  get_or-part xs at n k d h = get_or-take n (drop at xs) k d h ∙ get_or-drop at xs k d

  -- an item before the written range, in it and after it
  pub get_or-put_before : (xs : List A) (at : ℕ) (ys : List A) (k : ℕ) (d : A) → k < length xs → k < at
      → get_or (put xs at ys) k d ≡ get_or xs k d
  unfolding put
  get_or-put_before xs at ys k d h lower =
      get_or-take (length xs) _ k d h ∙ get_or_append_left (take at xs) _ d k (simp length-take (omega arith))
      ∙ get_or-take at xs k d lower

  pub get_or-put_at : (xs : List A) (at : ℕ) (ys : List A) (k : ℕ) (d : A) → k < length xs → at ≤ k
      → k < at + length ys → get_or (put xs at ys) k d ≡ get_or ys (k - at) d
  unfolding put
  get_or-put_at xs at ys k d h from to =
      get_or-take (length xs) _ k d h
      ∙ get_or-append_right (take at xs) _ at k d (length-take at xs ∙ omega arith) from
      ∙ get_or_append_left ys _ d (k - at) (omega arith)

  pub get_or-put_behind : (xs : List A) (at : ℕ) (ys : List A) (k : ℕ) (d : A) → k < length xs
      → at + length ys ≤ k → get_or (put xs at ys) k d ≡ get_or xs k d
  unfolding put
  get_or-put_behind xs at ys k d h higher =
      let same : at + length ys + (k - at - length ys) ≡ k = omega arith in
      get_or-take (length xs) _ k d h
      ∙ get_or-append_right (take at xs) _ at k d (length-take at xs ∙ omega arith) (omega arith)
      ∙ get_or-append_right ys _ (length ys) (k - at) d refl (omega arith)
      ∙ get_or-drop (at + length ys) xs (k - at - length ys) d ∙ ap (λ i. get_or xs i d) same

  -- the written range reads as what was written
  pub part-put_at : (xs : List A) (at n : ℕ) (ys : List A) → at + length ys ≤ length xs → n ≡ length ys
      → part (put xs at ys) at n ≡ ys
  part-put_at xs at n ys h e =
      let whole : length (part (put xs at ys) at n) ≡ n = length-part-le (put xs at ys) at n
      (rw length-put (omega arith)) in
      same_lists _ _ (whole ∙ e) (λ k d below.
      get_or-part (put xs at ys) at n k d (omega arith) ∙ get_or-put_at xs at ys (at + k) d (omega arith)
      (omega arith) (omega arith) ∙ ap (λ i. get_or ys i d) (omega arith))

  -- a range within the written one reads as that range of what was written
  pub part-put_inside : (xs : List A) (at : ℕ) (ys : List A) (a n : ℕ) → at + length ys ≤ length xs → at ≤ a
      → a + n ≤ at + length ys → part (put xs at ys) a n ≡ part ys (a - at) n
  part-put_inside xs at ys a n room from to =
      let left : length (part (put xs at ys) a n) ≡ n = length-part-le (put xs at ys) a n
      (rw length-put (omega arith)) in
      let right : length (part ys (a - at) n) ≡ n = length-part-le ys (a - at) n (omega arith) in
      same_lists _ _ (left ∙ sym right) (λ k d below.
      get_or-part (put xs at ys) a n k d (omega arith) ∙ get_or-put_at xs at ys (a + k) d (omega arith)
      (omega arith) (omega arith)
      ∙ ap (λ i. get_or ys i d) (omega arith) ∙ sym (get_or-part ys (a - at) n k d (omega arith)))

  -- a range that doesn't meet the written one reads as before
  pub part-put_apart : (xs : List A) (at : ℕ) (ys : List A) (a n : ℕ) → (Overlap at (length ys) a n → ⊥)
      → part (put xs at ys) a n ≡ part xs a n
  part-put_apart xs at ys a n apart =
      let same : length (part (put xs at ys) a n) ≡ length (part xs a n) = length-part (put xs at ys) a n
      ∙ ap (λ m. min n (m - a)) (length-put xs at ys) ∙ sym (length-part xs a n) in
      same_lists _ _ same (λ k d below.
      let inside : k < n = omega (arith, length-part (put xs at ys) a n) in
      let within : a + k < length xs = omega (arith, length-part (put xs at ys) a n, length-put xs at ys) in
      get_or-part (put xs at ys) a n k d inside ∙ elim (cases_lt (a + k) at) [
        | inl lower ↦ get_or-put_before xs at ys (a + k) d within lower
        | inr from ↦ get_or-put_behind xs at ys (a + k) d within (omega arith)
      ] ∙ sym (get_or-part xs a n k d inside))

  -- two neighbouring writes are one
  pub put-put_next : (xs : List A) (at : ℕ) (ys zs : List A) (next : ℕ) → next ≡ at + length ys
      → put (put xs at ys) next zs ≡ put xs at (ys ++ zs)
  put-put_next xs at ys zs next e =
      let total : length (ys ++ zs) ≡ length ys + length zs = length-append ys zs in
      same_lists _ _ (simp length-put) (λ k d below.
      let within : k < length xs = omega (arith, length-put (put xs at ys) next zs, length-put xs at ys) in
      let mid : k < length (put xs at ys) = omega (arith, length-put xs at ys) in
      elim (side at (length ys) k) [
        | before low ↦ get_or-put_before (put xs at ys) next zs k d mid (omega arith)
            ∙ get_or-put_before xs at ys k d within low
            ∙ sym (get_or-put_before xs at (ys ++ zs) k d within low)
        | inside from to ↦ get_or-put_before (put xs at ys) next zs k d mid (omega arith)
            ∙ get_or-put_at xs at ys k d within from to
            ∙ sym (get_or-put_at xs at (ys ++ zs) k d within from (omega arith) ∙ get_or_append_left ys zs d
            (k - at) (omega arith))
        | behind high ↦ elim (side next (length zs) k) [
          | before low ↦ absurd (omega arith)
          | inside from to ↦ get_or-put_at (put xs at ys) next zs k d mid from to
              ∙ ap (λ i. get_or zs i d) (omega arith)
              ∙ sym (get_or-put_at xs at (ys ++ zs) k d within (omega arith) (omega arith)
              ∙ get_or-append_right ys zs (length ys) (k - at) d refl (omega arith))
          | behind past ↦ get_or-put_behind (put xs at ys) next zs k d mid past
              ∙ get_or-put_behind xs at ys k d within high
              ∙ sym (get_or-put_behind xs at (ys ++ zs) k d within (omega arith))
        ]
      ])

  -- an item that a write elsewhere leaves unchanged is still unchanged after a second write
  elsewhere : (xs : List A) (a : ℕ) (ys : List A) (b : ℕ) (zs : List A) (k : ℕ) (d : A) → k < length xs
      → k < length (put xs a ys)
      → get_or (put xs a ys) k d ≡ get_or xs k d → get_or (put xs b zs) k d
      ≡ get_or (put (put xs a ys) b zs) k d
  elsewhere xs a ys b zs k d within mid same = elim (side b (length zs) k) [
    | before low ↦ get_or-put_before xs b zs k d within low
        ∙ sym (get_or-put_before (put xs a ys) b zs k d mid low ∙ same)
    | inside from to ↦ get_or-put_at xs b zs k d within from to
        ∙ sym (get_or-put_at (put xs a ys) b zs k d mid from to)
    | behind high ↦ get_or-put_behind xs b zs k d within high
        ∙ sym (get_or-put_behind (put xs a ys) b zs k d mid high ∙ same)
  ]

  -- writes to ranges that don't meet may be exchanged
  pub put-put_comm : (xs : List A) (a : ℕ) (ys : List A) (b : ℕ) (zs : List A)
      → (Overlap a (length ys) b (length zs) → ⊥) → put (put xs a ys) b zs ≡ put (put xs b zs) a ys
  put-put_comm xs a ys b zs apart =
      same_lists _ _ (simp length-put) (λ k d below.
      let within : k < length xs = omega (arith, length-put (put xs a ys) b zs, length-put xs a ys) in
      let mid : k < length (put xs a ys) = omega (arith, length-put xs a ys) in
      let mid' : k < length (put xs b zs) = omega (arith, length-put xs b zs) in
      elim (side a (length ys) k) [
        | inside from to ↦ elim (side b (length zs) k) [
          | before low ↦ get_or-put_before (put xs a ys) b zs k d mid low
              ∙ get_or-put_at xs a ys k d within from to
              ∙ sym (get_or-put_at (put xs b zs) a ys k d mid' from to)
          | inside from' to' ↦ absurd (apart (omega arith))
          | behind high ↦ get_or-put_behind (put xs a ys) b zs k d mid high
              ∙ get_or-put_at xs a ys k d within from to
              ∙ sym (get_or-put_at (put xs b zs) a ys k d mid' from to)
        ]
        | before low ↦ sym (get_or-put_before (put xs b zs) a ys k d mid' low
            ∙ elsewhere xs a ys b zs k d within mid (get_or-put_before xs a ys k d within low))
        | behind high ↦ sym (get_or-put_behind (put xs b zs) a ys k d mid' high
            ∙ elsewhere xs a ys b zs k d within mid (get_or-put_behind xs a ys k d within high))
      ])

  -- two neighbouring writes are one, the later written first
  pub put-put_before : (xs : List A) (at : ℕ) (ys zs : List A) (next : ℕ) → next ≡ at + length ys
      → put (put xs next zs) at ys ≡ put xs at (ys ++ zs)
  put-put_before xs at ys zs next e = put-put_comm xs next zs at ys (λ meet. omega arith)
      ∙ put-put_next xs at ys zs next e

  -- a write of what is there changes nothing
  pub put-part : (xs : List A) (at n : ℕ) → put xs at (part xs at n) ≡ xs
  put-part xs at n =
      same_lists _ _ (length-put xs at (part xs at n)) (λ k d below.
      let within : k < length xs = omega (arith, length-put xs at (part xs at n)) in
      let size : length (part xs at n) ≡ min n (length xs - at) = length-part xs at n in
      elim (side at (length (part xs at n)) k) [
        | before low ↦ get_or-put_before xs at _ k d within low
        | inside from to ↦ get_or-put_at xs at _ k d within from to ∙ get_or-part xs at n (k - at) d
            (omega arith) ∙ ap (λ i. get_or xs i d) (omega arith)
        | behind high ↦ get_or-put_behind xs at _ k d within high
      ])

  pub put-nil : (xs : List A) (at : ℕ) → put xs at [] ≡ xs
  put-nil xs at =
      same_lists _ _ (length-put xs at []) (λ k d below.
      let within : k < length xs = omega (arith, length-put xs at []) in
      elim (cases_lt k at) [
        | inl low ↦ get_or-put_before xs at [] k d within low
        | inr high ↦ get_or-put_behind xs at [] k d within (omega arith)
      ])

  -- a list with no changed item is unchanged
  pub put-part_none : (xs ys : List A) (at : ℕ) → ys ≡ put xs at (part ys at 0) → ys ≡ xs
  unfolding part
  put-part_none xs ys at changed = changed ∙ put-nil xs at

  -- a write over a range that was written before hides it
  pub put-put_same : (xs : List A) (at : ℕ) (ys zs : List A) → length ys ≤ length zs
      → put (put xs at ys) at zs ≡ put xs at zs
  put-put_same xs at ys zs h =
      same_lists _ _ (simp length-put) (λ k d below.
      let within : k < length xs = omega (arith, length-put (put xs at ys) at zs, length-put xs at ys) in
      let mid : k < length (put xs at ys) = omega (arith, length-put xs at ys) in
      elim (side at (length zs) k) [
        | before low ↦ get_or-put_before (put xs at ys) at zs k d mid low
            ∙ get_or-put_before xs at ys k d within low ∙ sym (get_or-put_before xs at zs k d within low)
        | inside from to ↦ get_or-put_at (put xs at ys) at zs k d mid from to
            ∙ sym (get_or-put_at xs at zs k d within from to)
        | behind high ↦ get_or-put_behind (put xs at ys) at zs k d mid high
            ∙ get_or-put_behind xs at ys k d within (omega arith)
            ∙ sym (get_or-put_behind xs at zs k d within high)
      ])

  -- a write of a whole list leaves what was written
  pub put-whole : (xs ys : List A) → length ys ≡ length xs → put xs 0 ys ≡ ys
  put-whole xs ys e =
      same_lists _ _ (length-put xs 0 ys ∙ sym e) (λ k d below.
      let within : k < length xs = omega (arith, length-put xs 0 ys) in
      get_or-put_at xs 0 ys k d within (omega arith) (omega arith) ∙ ap (λ i. get_or ys i d) (omega arith))

  -- a part of a slice that was lent, with what it holds then
  pub put_mid-put : (xs : List A) (at n : ℕ) (ys : List A) → length ys ≡ n → at + n ≤ length xs
      → put_mid at n xs ys ≡ put xs at ys
  unfolding put
  put_mid-put xs at n ys e h =
      let rest : drop n (drop at xs) ≡ drop (at + length ys) xs = drop-drop n at xs
      ∙ ap (λ m. drop m xs) (omega arith) in
      let long : length (take at xs ++ (ys ++ drop (at + length ys) xs)) ≡ length xs =
      simp (length-take, length-append, length-drop) (omega arith) in
      ap (λ l. take at xs ++ (ys ++ l)) rest ∙ sym (take_all (length xs) _ (omega (arith, long)))

pub ruleset wholes = put-whole
