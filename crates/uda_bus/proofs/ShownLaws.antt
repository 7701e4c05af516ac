-- The laws of what a bus shows.
use Rattle.std.proofs.Common.{◌≡◌, ◌↔◌, ◌&&◌, IsTrue, ℕ, ◌+◌, ◌-◌, ◌<◌, ◌≤◌, zero, suc, Bool, inl, inr, List, ◌++◌, length, get_or, take, drop, Option, Some, None, IsSome, refl, sym, ap, ◌∙◌, subst, arith, length-append, length-drop, length-take}
use borrow.Rule.Slice.PartMut.{put_mid}
use Rattle.std.specs.Option.{option_map, option_and_then}
use Rattle.std.proofs.lemmas.List.{same_lists, get_or_append_left, get_or-append_right, get_or-take, get_or-drop, get_or-replicate, length-replicate, get_or_past}
use Rattle.std.proofs.lemmas.Bool.{cases_lt, and_from, and_parts}
use Rattle.std.proofs.lemmas.Grind.{get_or_default_zero}
use Rattle.uda_mem.specs.Put.{put, part}
use Rattle.uda_mem.proofs.PutLaws.{length-put, length-part, get_or-part, get_or-put_before, get_or-put_at, put_mid-put}
use Rattle.uda_bus.specs.declared.map.BusMap.{BusMap}
use Rattle.uda_bus.specs.Lookup.{index_in, byte_at}
use Rattle.uda_bus.specs.Bytes.{byte_shown, shown, AllLead}
use Rattle.uda_bus.specs.Copy.{bytes_from, padded}
use Rattle.uda_bus.proofs.PageLaws.{Leads, place_at-within, index_in-there, index_in-past, byte_at-within}

-- ---- bytes that are shown

pub length-shown : (map : BusMap) (memory : List ℕ) (at n : ℕ) → length (shown map memory at n) ≡ n
length-shown map memory at zero = refl
length-shown map memory at (suc n) = ap (λ m. suc m) (length-shown map memory (at + 1) n)

-- what the bus shows at an address
abbrev byte_of : BusMap → List ℕ → ℕ → ℕ
byte_of map memory address = byte_shown memory (byte_at map memory address)

get_or-shown : (map : BusMap) (memory : List ℕ) (at n k d : ℕ) → k < n
    → get_or (shown map memory at n) k d ≡ byte_of map memory (at + k)
get_or-shown map memory at zero k d below = absurd (omega (arith, below))
get_or-shown map memory at (suc n) zero d below = ap (byte_of map memory) (omega arith)
get_or-shown map memory at (suc n) (suc k) d below =
    get_or-shown map memory (at + 1) n k d (omega (arith, below)) ∙ ap (byte_of map memory) (omega arith)

pub shown-append : (map : BusMap) (memory : List ℕ) (at m n : ℕ)
    → shown map memory at (m + n) ≡ shown map memory at m ++ shown map memory (at + m) n
shown-append map memory at m n =
    let left = shown map memory at m in
    let right = shown map memory (at + m) n in
    let front : length left ≡ m = length-shown map memory at m in
    let whole : length (shown map memory at (m + n)) ≡ m + n = length-shown map memory at (m + n) in
    let parts : length (left ++ right) ≡ m + n =
    length-append left right ∙ omega (arith, front, length-shown map memory (at + m) n) in
    same_lists _ _ (whole ∙ sym parts) (λ k d below.
    let within : k < m + n = omega (arith, whole) in
    get_or-shown map memory at (m + n) k d within ∙ elim (cases_lt k m) [
      | inl low ↦ sym (get_or_append_left left right d k (omega (arith, front))
          ∙ get_or-shown map memory at m k d low)
      | inr high ↦ ap (byte_of map memory) (omega arith)
          ∙ sym (get_or-append_right left right m k d front high
          ∙ get_or-shown map memory (at + m) n (k - m) d (omega arith))
    ])

-- a range of what a bus shows
pub part_shown : (map : BusMap) (memory : List ℕ) (size at n : ℕ) → n ≤ size - at
    → part (shown map memory 0 size) at n ≡ shown map memory at n
part_shown map memory size at n within =
    let bus = shown map memory 0 size in
    let long : length bus ≡ size = length-shown map memory 0 size in
    let here : length (part bus at n) ≡ n = length-part bus at n ∙ omega (arith, long) in
    same_lists _ _ (here ∙ sym (length-shown map memory at n)) (λ k d below.
    get_or-part bus at n k d (omega (arith, here))
    ∙ get_or-shown map memory 0 size (at + k) d (omega (arith, here))
    ∙ ap (byte_of map memory) (omega arith) ∙ sym (get_or-shown map memory at n k d (omega (arith, here))))

-- ---- one page

length-padded : (n : ℕ) (bytes : List ℕ) → length (padded n bytes) ≡ n
unfolding padded
length-padded n bytes = simp (length-append, length-take, length-replicate) (omega arith)

get_or-padded : (n : ℕ) (bytes : List ℕ) (k d : ℕ) → k < n
    → get_or (padded n bytes) k d ≡ get_or bytes k 0
unfolding padded
get_or-padded n bytes k d below = elim (cases_lt k (length bytes)) [
  | inl low ↦ get_or_append_left (take n bytes) _ d k (simp length-take (omega arith))
      ∙ get_or-take n bytes k d below ∙ get_or_default_zero bytes k d low
  | inr high ↦
      get_or-append_right (take n bytes) _ (length bytes) k d (length-take n bytes ∙ omega arith) high
      ∙ get_or-replicate (n - length bytes) (k - length bytes) 0 d (omega arith)
      ∙ sym (get_or_past bytes k 0 high)
]

-- a byte that is shown is the one of memory at its index
byte_from : (memory : List ℕ) (start : Option ℕ) (k : ℕ)
    → byte_shown memory (option_and_then (index_in memory) (option_map (λ i. i + k) start))
    ≡ get_or (bytes_from memory start) k 0
byte_from memory None k = refl
byte_from memory (Some i) k = elim (cases_lt (i + k) (length memory)) [
  | inl low ↦ rw (index_in-there memory (i + k) low) (sym (get_or-drop i memory k 0))
  | inr high ↦ rw (index_in-past memory (i + k) high)
      (sym (get_or-drop i memory k 0 ∙ get_or_past memory (i + k) 0 high))
]

-- the bytes that are shown in one page
shown_page : (map : BusMap) (memory : List ℕ) (at n : ℕ) (start : Option ℕ) → Leads map memory at n start
    → shown map memory at n ≡ padded n (bytes_from memory start)
shown_page map memory at n start leads =
    let left = length-shown map memory at n in
    let right = length-padded n (bytes_from memory start) in
    same_lists _ _ (left ∙ sym right) (λ k d below.
    let inside : k < n = omega (arith, left) in
    get_or-shown map memory at n k d inside
    ∙ ap (λ place. byte_shown memory (option_and_then (index_in memory) place))
    (place_at-within map memory at n k start leads inside)
    ∙ byte_from memory start k ∙ sym (get_or-padded n (bytes_from memory start) k d inside))

-- ---- a page more

-- the start of a list after a write
put_front : (xs ys : List ℕ) (at : ℕ) → at + length ys ≤ length xs
    → take (at + length ys) (put xs at ys) ≡ take at xs ++ ys
put_front xs ys at room =
    let size : length (take (at + length ys) (put xs at ys)) ≡ at + length ys =
    length-take (at + length ys) (put xs at ys) ∙ omega (arith, length-put xs at ys) in
    let front : length (take at xs) ≡ at = length-take at xs ∙ omega arith in
    same_lists _ _ (size ∙ sym (length-append (take at xs) ys ∙ omega (arith, front))) (λ k d below.
    let within : k < at + length ys = omega (arith, size) in
    get_or-take (at + length ys) (put xs at ys) k d within ∙ elim (cases_lt k at) [
      | inl low ↦ get_or-put_before xs at ys k d (omega arith) low
          ∙ sym (get_or_append_left (take at xs) ys d k (omega (arith, front)) ∙ get_or-take at xs k d low)
      | inr from ↦ get_or-put_at xs at ys k d (omega arith) from within
          ∙ sym (get_or-append_right (take at xs) ys at k d front from)
    ])

-- the bytes that are shown up to the end of a piece
pub shown_more : (map : BusMap) (memory to new : List ℕ) (at done n : ℕ) (start : Option ℕ)
    → done + n ≤ length to → Leads map memory (at + done) n start
    → take done to ≡ shown map memory at done
    → new ≡ padded (length (take (done + n - done) (drop done to))) (bytes_from memory start)
    → take (done + n) (put_mid done (done + n - done) to new) ≡ shown map memory at (done + n)
shown_more map memory to new at done n start room leads before copied =
    let count : done + n - done ≡ n = omega arith in
    let size : length (take (done + n - done) (drop done to)) ≡ n =
    length-take (done + n - done) (drop done to) ∙ omega (arith, length-drop done to) in
    let bytes : new ≡ shown map memory (at + done) n =
    copied ∙ ap (λ m. padded m (bytes_from memory start)) size
    ∙ sym (shown_page map memory (at + done) n start leads) in
    let long : length new ≡ n = ap length bytes ∙ length-shown map memory (at + done) n in
    let whole : put_mid done (done + n - done) to new ≡ put to done new =
    ap (λ m. put_mid done m to new) count ∙ put_mid-put to done n new long room in
    ap (take (done + n)) whole ∙ ap (λ m. take (done + m) (put to done new)) (sym long)
    ∙ put_front to new done (omega (arith, long)) ∙ ap (λ front. front ++ new) before
    ∙ ap (λ rest. shown map memory at done ++ rest) bytes ∙ sym (shown-append map memory at done n)

-- all addresses up to the end of a piece lead to memory if those before it do, and memory has its bytes
pub leads_more : (map : BusMap) (memory : List ℕ) (at done n : ℕ) (start : Option ℕ) → 0 < n
    → Leads map memory (at + done) n start
    → AllLead map memory at (done + n)
    ↔ (AllLead map memory at done × (n ≤ length (bytes_from memory start)))
leads_more map memory at done n start some leads = (
  (λ all.
      let last : n - 1 < length (bytes_from memory start) =
      (byte_at-within map memory (at + done) n (n - 1) start leads (omega arith)).0
      (subst (λ a. IsSome (byte_at map memory a)) (omega arith) (all (done + n - 1) (omega arith))) in
      ((λ i below. all i (omega arith)), omega (arith, last))),
  (λ (before, there) i below. elim (cases_lt i done) [
    | inl low ↦ before i low
    | inr high ↦ subst (λ a. IsSome (byte_at map memory a)) (omega arith)
        ((byte_at-within map memory (at + done) n (i - done) start leads (omega arith)).1 (omega arith))
  ]),
)

-- not all addresses lead to memory if a piece doesn't
pub leads_not : (map : BusMap) (memory : List ℕ) (at done n count : ℕ) (start : Option ℕ) → 0 < n
    → done + n ≤ count → Leads map memory (at + done) n start
    → length (bytes_from memory start) < n → AllLead map memory at count → ⊥
leads_not map memory at done n count start some room leads short all =
    let up_to : AllLead map memory at (done + n) = λ i below. all i (omega arith) in
    let parts = (leads_more map memory at done n start some leads).0 up_to in
    omega (arith, parts.1)

-- the same of tests
pub both_lead : (before here : Bool) (map : BusMap) (memory to : List ℕ) (at done n : ℕ) (start : Option ℕ)
    → 0 < n → done + n ≤ length to → Leads map memory (at + done) n start
    → IsTrue before ↔ AllLead map memory at done
    → IsTrue here ↔ (length (take (done + n - done) (drop done to)) ≤ length (bytes_from memory start))
    → IsTrue (before && here) ↔ AllLead map memory at (done + n)
both_lead before here map memory to at done n start some room leads old new =
    let size : length (take (done + n - done) (drop done to)) ≡ n =
    length-take (done + n - done) (drop done to) ∙ omega (arith, length-drop done to) in
    let more = leads_more map memory at done n start some leads in (
      (λ both.
          let parts = and_parts before here both in
          more.1 (old.0 parts.0, rw size at (new.0 parts.1))),
      (λ all.
          let parts = more.0 all in
          and_from before here (old.1 parts.0) (new.1 (rw size parts.1))),
    )
