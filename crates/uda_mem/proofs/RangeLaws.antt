-- Ranges that two memories share, and writes that are carried from one memory to another.
use Rattle.std.proofs.Common.{◌≡◌, ℕ, ◌+◌, ◌-◌, ◌<◌, ◌≤◌, inl, inr, min, List, [], ◌∷◌, length, get_or, refl, sym, ap, ◌∙◌, arith}
use Rattle.std.proofs.lemmas.List.{same_lists}
use Rattle.std.proofs.lemmas.Bool.{cases_lt}
use Rattle.uda_mem.specs.declared.range.ByteRange.{ByteRange}
use Rattle.uda_mem.specs.Put.{put, part}
use Rattle.uda_mem.specs.Ranges.{carried}
use Rattle.uda_mem.proofs.PutLaws.{length-put, length-part, get_or-part, get_or-put_before, get_or-put_at, get_or-put_behind, put-part}

-- ---- shared ranges

-- two lists of one length that share a range share each part of it
pub part_shared : (xs ys : List ℕ) (at n a m : ℕ) → length ys ≡ length xs → part ys at n ≡ part xs at n
    → at ≤ a → a + m ≤ at + n → part ys a m ≡ part xs a m
part_shared xs ys at n a m same h from to =
    let left = length-part ys a m in let right = length-part xs a m in
    same_lists _ _ (left ∙ ap (λ l. min m (l - a)) same ∙ sym right) (λ k d below.
    let inside : k < m = omega (arith, left) in
    let within : a - at + k < n = omega arith in
    let place : at + (a - at + k) ≡ a + k = omega arith in
    get_or-part ys a m k d inside ∙ ap (λ i. get_or ys i d) (sym place)
    ∙ sym (get_or-part ys at n (a - at + k) d within)
    ∙ ap (λ (p : List ℕ). get_or p (a - at + k) d) h ∙ get_or-part xs at n (a - at + k) d within
    ∙ ap (λ i. get_or xs i d) place ∙ sym (get_or-part xs a m k d inside))

-- the bytes of a range that lie in memory are all that it has
pub part_in : (xs ys : List ℕ) (at n : ℕ) → length ys ≡ length xs
    → part ys at (min n (length xs - at)) ≡ part xs at (min n (length xs - at))
    → part ys at n ≡ part xs at n
part_in xs ys at n same h =
    let left = length-part ys at n in let right = length-part xs at n in
    same_lists _ _ (left ∙ ap (λ l. min n (l - at)) same ∙ sym right) (λ k d below.
    let inside : k < n = omega (arith, left) in
    let within : k < min n (length xs - at) = omega (arith, left, same) in
    get_or-part ys at n k d inside ∙ sym (get_or-part ys at (min n (length xs - at)) k d within)
    ∙ ap (λ (p : List ℕ). get_or p k d) h
    ∙ get_or-part xs at (min n (length xs - at)) k d within ∙ sym (get_or-part xs at n k d inside))

pub part_clipped : (xs : List ℕ) (at n : ℕ) → part xs at (min n (length xs - at)) ≡ part xs at n
part_clipped xs at n =
    let left = length-part xs at (min n (length xs - at)) in let right = length-part xs at n in
    same_lists _ _ (left ∙ omega arith ∙ sym right) (λ k d below.
    get_or-part xs at (min n (length xs - at)) k d (omega (arith, left))
    ∙ sym (get_or-part xs at n k d (omega (arith, left))))

-- ---- what is carried

-- bytes that were written at the start of a range, and are carried with the rest of the range
pub put_carried : (xs ys : List ℕ) (at n : ℕ) (bytes : List ℕ) → length ys ≡ length xs
    → part ys at n ≡ part xs at n → length bytes ≤ n
    → put ys at (part (put xs at bytes) at n) ≡ put ys at bytes
put_carried xs ys at n bytes same h fits =
    let new = put xs at bytes in
    let size = length-part new at n in let stays = length-put xs at bytes in
    same_lists _ _ (length-put ys at (part new at n) ∙ sym (length-put ys at bytes)) (λ k d below.
    let within : k < length ys = omega (arith, length-put ys at (part new at n)) in
    let within' : k < length xs = omega arith in
    elim (cases_lt k at) [
      | inl low ↦ get_or-put_before ys at (part new at n) k d within low
          ∙ sym (get_or-put_before ys at bytes k d within low)
      | inr from ↦ elim (cases_lt k (at + length bytes)) [
        | inl to ↦ get_or-put_at ys at (part new at n) k d within from (omega arith)
            ∙ get_or-part new at n (k - at) d (omega arith) ∙ ap (λ i. get_or new i d) (omega arith)
            ∙ get_or-put_at xs at bytes k d within' from to
            ∙ sym (get_or-put_at ys at bytes k d within from to)
        | inr past ↦ elim (cases_lt k (at + n)) [
          | inl to ↦ get_or-put_at ys at (part new at n) k d within from (omega arith)
              ∙ get_or-part new at n (k - at) d (omega arith) ∙ ap (λ i. get_or new i d) (omega arith)
              ∙ get_or-put_behind xs at bytes k d within' past
              ∙ ap (λ i. get_or xs i d) (omega arith) ∙ sym (get_or-part xs at n (k - at) d (omega arith))
              ∙ sym (ap (λ (p : List ℕ). get_or p (k - at) d) h)
              ∙ get_or-part ys at n (k - at) d (omega arith) ∙ ap (λ i. get_or ys i d) (omega arith)
              ∙ sym (get_or-put_behind ys at bytes k d within past)
          | inr high ↦ get_or-put_behind ys at (part new at n) k d within (omega arith)
              ∙ sym (get_or-put_behind ys at bytes k d within past)
        ]
      ]
    ])

-- a shared range that is carried changes nothing
pub put_shared : (xs ys : List ℕ) (at n : ℕ) → part ys at n ≡ part xs at n → put ys at (part xs at n) ≡ ys
put_shared xs ys at n h = ap (put ys at) (sym h) ∙ put-part ys at n

-- ---- a list of writes

-- bytes that are written at an address
pub record Write : Type 0 where
  pub at : ℕ
  pub bytes : List ℕ

abbrev pub range_of : Write → ByteRange
range_of w = record { at = w.at; bytes = length w.bytes }

abbrev pub ranges_of : List Write → List ByteRange
ranges_of [] = []
ranges_of (w ∷ rest) = range_of w ∷ ranges_of rest

-- memory after these writes, one after the other
abbrev pub puts : List Write → List ℕ → List ℕ
puts [] memory = memory
puts (w ∷ rest) memory = puts rest (put memory w.at w.bytes)

pub length-puts : (ws : List Write) (memory : List ℕ) → length (puts ws memory) ≡ length memory
length-puts [] memory = refl
length-puts (w ∷ rest) memory =
    length-puts rest (put memory w.at w.bytes) ∙ length-put memory w.at w.bytes

pub length-carried : (rs : List ByteRange) (memory other : List ℕ)
    → length (carried rs memory other) ≡ length other
length-carried [] memory other = refl
length-carried (r ∷ rest) memory other =
    length-carried rest memory (put other r.at (part memory r.at r.bytes))
    ∙ length-put other r.at (part memory r.at r.bytes)

-- a byte is carried, and then the writes leave the same byte there in every memory; or they leave it
data Fate (ws : List Write) (memory other : List ℕ) (k d : ℕ) : Type 0 where
  is_carried : get_or (carried (ranges_of ws) memory other) k d ≡ get_or memory k d
      → ((m n : List ℕ) → length m ≡ length other → length n ≡ length other
      → get_or (puts ws m) k d ≡ get_or (puts ws n) k d) → Fate ws memory other k d
  is_left : get_or (carried (ranges_of ws) memory other) k d ≡ get_or other k d
      → ((m : List ℕ) → length m ≡ length other → get_or (puts ws m) k d ≡ get_or m k d)
      → Fate ws memory other k d

fate : (ws : List Write) (memory other : List ℕ) (k d : ℕ) → length memory ≡ length other → k < length other
    → Fate ws memory other k d
fate [] memory other k d same within = is_left refl (λ m long. refl)
fate (w ∷ rest) memory other k d same within =
    let bytes = part memory w.at (length w.bytes) in
    let next = put other w.at bytes in
    let long = length-put other w.at bytes in
    let size = length-part memory w.at (length w.bytes) in
    let fits : (m : List ℕ) → length m ≡ length other → length (put m w.at w.bytes) ≡ length next =
    λ m l. length-put m w.at w.bytes ∙ l ∙ sym long in
    elim (fate rest memory next k d (same ∙ sym long) (omega (arith, long))) [
      | is_carried is fixed ↦ is_carried is
          (λ m n l l'. fixed (put m w.at w.bytes) (put n w.at w.bytes) (fits m l) (fits n l'))
      | is_left is free ↦ elim (cases_lt k w.at) [
        | inl low ↦ is_left (is ∙ get_or-put_before other w.at bytes k d within low)
            (λ m l. free (put m w.at w.bytes) (fits m l)
            ∙ get_or-put_before m w.at w.bytes k d (omega arith) low)
        | inr from ↦ elim (cases_lt k (w.at + length w.bytes)) [
          | inl to ↦ is_carried (is ∙ get_or-put_at other w.at bytes k d within from (omega arith)
              ∙ get_or-part memory w.at (length w.bytes) (k - w.at) d (omega arith)
              ∙ ap (λ i. get_or memory i d) (omega arith))
              (λ m n l l'. free (put m w.at w.bytes) (fits m l)
              ∙ get_or-put_at m w.at w.bytes k d (omega arith) from to
              ∙ sym (free (put n w.at w.bytes) (fits n l')
              ∙ get_or-put_at n w.at w.bytes k d (omega arith) from to))
          | inr high ↦ is_left (is ∙ get_or-put_behind other w.at bytes k d within (omega arith))
              (λ m l. free (put m w.at w.bytes) (fits m l)
              ∙ get_or-put_behind m w.at w.bytes k d (omega arith) high)
        ]
      ]
    ]

-- what writes left in one memory, carried to another, is what the same writes leave there
pub carried_puts : (ws : List Write) (memory other : List ℕ) → length other ≡ length memory
    → carried (ranges_of ws) (puts ws memory) other ≡ puts ws other
carried_puts ws memory other same =
    let after = puts ws memory in
    let long = length-carried (ranges_of ws) after other in let left = length-puts ws other in
    let here = length-puts ws memory in
    same_lists _ _ (long ∙ sym left) (λ k d below.
    elim (fate ws after other k d (here ∙ sym same) (omega (arith, long))) [
      | is_carried is fixed ↦ is ∙ fixed memory other (sym same) refl
      | is_left is free ↦ is ∙ sym (free other refl)
    ])
