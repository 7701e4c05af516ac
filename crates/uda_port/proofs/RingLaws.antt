-- What is posted in a ring, from its next descriptor on; and that a fetch follows ring order.
use Rattle.std.proofs.lemmas.Bool.Decides.{nat_tests}
use Rattle.std.proofs.Common.{◌≡◌, ℕ, ◌^◌, mod-eq_of_lt, ◌+◌, ◌*◌, ◌%◌, ◌<◌, ◌≤◌, inl, inr, true, false, List, [], ◌∷◌, ◌++◌, length, get_or, set, take, drop, Option, Some, None, refl, sym, ◌∙◌, arith, length-set}
use Rattle.std.proofs.lemmas.List.{drop_more, append_assoc, append-nil, same_lists, get_or-set_same, get_or-set_other, drop-set-lt, take_more_set, drop_all, take_all}
use Rattle.std.proofs.lemmas.List.FromFn.{length-map-range_with_len, get_or-map-range_with_len}
use Rattle.std.proofs.Math.Nat.{mod_self}
use Rattle.std.proofs.lemmas.Bool.{cases_eq, cases_lt, le-leb}
use Rattle.uda_mem.specs.Put.{put}
use Rattle.uda_mem.specs.Words.{word_at, word_bytes}
use Rattle.uda_mem.proofs.PutLaws.{length-put}
use Rattle.uda_mem.proofs.WordLaws.{length-word_bytes, word_at-put_apart, word_at-put_at}
use Rattle.uda_port.specs.declared.descriptor.Descriptor.{Descriptor}
use Rattle.uda_port.specs.declared.packet.Fetched.{Fetched}
use Rattle.uda_port.specs.declared.packet.Fetching.{Fetching}
use Rattle.uda_port.specs.Ring.{is_owned, returned_word, descriptor_at, ring, owned_front, RingState, descriptor_address, next_descriptor, ring_advanced, memory_returned, posted_in}
use Rattle.uda_port.specs.Interrupt.{memory_with_indicator, IsBelow}
use Rattle.uda_port.specs.Fetch.{IsNext, Takes, TakesFirst, FirstStays}

length-ring : (memory : List ℕ) (base n : ℕ) → length (ring memory base n) ≡ n
length-ring memory base n = length-map-range_with_len _ 0 n

get_or-ring : (memory : List ℕ) (base n k : ℕ) (d : Option Descriptor) → k < n
    → get_or (ring memory base n) k d ≡ descriptor_at memory (base + 4 * k)
get_or-ring memory base n k d h = get_or-map-range_with_len (λ k. descriptor_at memory (base + 4 * k)) 0 n k k
    d h (omega arith)

-- the next descriptor comes first
rotated : (memory : List ℕ) (r : RingState) → r.place < r.count
    → drop r.place (ring memory r.base r.count) ++ take r.place (ring memory r.base r.count)
    ≡ descriptor_at memory (descriptor_address r)
    ∷ (drop (r.place + 1) (ring memory r.base r.count) ++ take r.place (ring memory r.base r.count))
rotated memory r within =
    let all = ring memory r.base r.count in
    rw (
      drop_more all r.place None (omega (arith, length-ring memory r.base r.count)),
      get_or-ring memory r.base r.count r.place None within,
    )

-- the rest of the ring after its next descriptor
abbrev pub behind : List ℕ → RingState → List (Option Descriptor)
behind memory r = drop (r.place + 1) (ring memory r.base r.count) ++ take r.place (ring memory r.base r.count)

pub none_posted : (memory : List ℕ) (r : RingState) → r.place < r.count
    → descriptor_at memory (descriptor_address r) ≡ None → posted_in memory r ≡ []
none_posted memory r within h = rw (rotated memory r within, h)

pub not_owned_posted : (memory : List ℕ) (r : RingState) (d : Descriptor) → r.place < r.count
    → descriptor_at memory (descriptor_address r) ≡ Some d → is_owned d ≡ false → posted_in memory r ≡ []
not_owned_posted memory r d within h owned = rw (rotated memory r within, h, owned)

pub owned_posted : (memory : List ℕ) (r : RingState) (d : Descriptor) → r.place < r.count
    → descriptor_at memory (descriptor_address r) ≡ Some d → is_owned d ≡ true
    → posted_in memory r ≡ d ∷ owned_front (behind memory r)
owned_posted memory r d within h owned = rw (rotated memory r within, h, owned)

-- a descriptor that the host owns ends a run at any index
owned_front-append : (ds : List (Option Descriptor)) (d : Descriptor) → is_owned d ≡ false
    → owned_front (ds ++ Some d ∷ []) ≡ owned_front ds
owned_front-append [] d h = rw h
owned_front-append (x ∷ rest) d h = grind (arith, owned_front-append rest d h)

pub descriptor_at-within : (memory : List ℕ) (at : ℕ) (d : Descriptor) → descriptor_at memory at ≡ Some d
    → at + 4 ≤ length memory
descriptor_at-within memory at d h = grind (arith, nat_tests)

-- and the host owns that one afterwards
descriptor_at-put_here : (memory : List ℕ) (at word : ℕ) → at + 4 ≤ length memory → word < 2 ^ 16
    → descriptor_at (put memory (at + 2) (word_bytes word)) at
    ≡ Some (record { low = word_at memory at; high = word })
descriptor_at-put_here memory at word room fits =
    let two = length-word_bytes word in
    rw (
      length-put,
      le-leb (at + 4) (length memory) room,
      word_at-put_apart memory (at + 2) (word_bytes word) at (λ meet. omega arith),
      word_at-put_at memory (at + 2) word (omega arith) fits,
    )

returned_word-fits : (high : ℕ) → returned_word high < 2 ^ 16
returned_word-fits high = omega arith

returned_word-free : (low high : ℕ) → is_owned (record { low = low; high = returned_word high }) ≡ false
returned_word-free low high = grind (arith, nat_tests)

-- the ring after the return of a descriptor: the next descriptor is changed, and the others are unchanged
ring_after : (memory : List ℕ) (r : RingState) (word : ℕ) → r.place < r.count
    → descriptor_address r + 4 ≤ length memory → word < 2 ^ 16
    → ring (put memory (descriptor_address r + 2) (word_bytes word)) r.base r.count
    ≡ set (ring memory r.base r.count) r.place
    (Some (record { low = word_at memory (descriptor_address r); high = word }))
ring_after memory r word within room fits =
    let at = descriptor_address r + 2 in
    let memory' = put memory at (word_bytes word) in
    let all = ring memory r.base r.count in
    let size = length-ring memory r.base r.count in
    let size' = length-ring memory' r.base r.count in
    let two = length-word_bytes word in
    let given : Option Descriptor =
    Some (record { low = word_at memory (descriptor_address r); high = word }) in
    same_lists _ _ (size' ∙ sym (length-set all r.place given ∙ size)) (λ k d below.
    let inside : k < r.count = omega arith in
    get_or-ring memory' r.base r.count k d inside ∙ elim (cases_eq k r.place) [
      | inl is ↦
          rw (is, get_or-set_same all r.place given d (omega arith))
          (descriptor_at-put_here memory (descriptor_address r) word room fits)
      | inr apart ↦
          rw (
            length-put,
            word_at-put_apart memory at (word_bytes word) (r.base + 4 * k) (λ meet. omega arith),
            word_at-put_apart memory at (word_bytes word) (r.base + 4 * k + 2) (λ meet. omega arith),
            get_or-set_other all r.place k given d apart,
          ) (sym (get_or-ring memory r.base r.count k d inside))
    ])

-- the ring from the next index on, around
advanced : (ds : List (Option Descriptor)) (place count : ℕ) (given : Option Descriptor) → place < count
    → length ds ≡ count
    → drop ((place + 1) % count) (set ds place given) ++ take ((place + 1) % count) (set ds place given)
    ≡ (drop (place + 1) ds ++ take place ds) ++ given ∷ []
advanced ds place count given within long = elim (cases_lt (place + 1) count) [
  | inl inside ↦
      rw (
        mod-eq_of_lt inside,
        drop-set-lt (place + 1) ds place given (omega arith),
        take_more_set ds place given (omega arith),
        append_assoc,
      )
  | inr past ↦
      let last : place + 1 ≡ count = omega arith in
      let whole = take_all (place + 1) (set ds place given) (omega (arith, length-set ds place given)) in
      rw (
        last,
        mod_self count,
        ← last,
        drop_all (place + 1) ds (omega arith),
        append-nil,
        ← whole,
        take_more_set ds place given (omega arith),
      )
]

-- the return of a descriptor leaves the rest posted
posted_after_return : (memory : List ℕ) (old : RingState) (first : Descriptor) → old.place < old.count
    → next_descriptor memory old ≡ Some first → is_owned first ≡ true
    → posted_in memory old ≡ first ∷ posted_in (memory_returned memory old first) (ring_advanced old)
posted_after_return memory old first within is_next owned =
    let room = descriptor_at-within memory (descriptor_address old) first is_next in
    let word = returned_word first.high in
    let given : Descriptor = record { low = word_at memory (descriptor_address old); high = word } in
    let after = ring_after memory old word within room (returned_word-fits first.high) in
    rw (
      owned_posted memory old first within is_next owned,
      after,
      advanced (ring memory old.base old.count) old.place old.count (Some given) within
          (length-ring memory old.base old.count),
      owned_front-append (behind memory old) given
          (returned_word-free (word_at memory (descriptor_address old)) first.high),
    )

-- a word below a ring's base isn't part of its descriptors
descriptor_told : (memory : List ℕ) (indicator : Option ℕ) (base other : ℕ) → IsBelow indicator base → base ≤ other
    → descriptor_at (memory_with_indicator memory indicator) other ≡ descriptor_at memory other
descriptor_told memory None base other below above = refl
descriptor_told memory (Some at) base other below above =
    let two = length-word_bytes 1 in let under = below.1 in
    rw (
      length-put,
      word_at-put_apart memory at (word_bytes 1) other (λ meet. omega arith),
      word_at-put_apart memory at (word_bytes 1) (other + 2) (λ meet. omega arith),
    )

ring_told : (memory : List ℕ) (indicator : Option ℕ) (base n : ℕ) → IsBelow indicator base
    → ring (memory_with_indicator memory indicator) base n ≡ ring memory base n
ring_told memory indicator base n below =
    let there = memory_with_indicator memory indicator in
    same_lists _ _ (length-ring there base n ∙ sym (length-ring memory base n)) (λ k d less.
    let inside : k < n = omega (arith, length-ring there base n) in
    rw (get_or-ring there base n k d inside, get_or-ring memory base n k d inside)
    (descriptor_told memory indicator base (base + 4 * k) below (omega arith)))

-- a fetch removes the first posted descriptor, and leaves the rest posted
pub takes_first : (f : Fetching) (old : RingState) (memory : List ℕ) (p : Fetched) (new : RingState)
    (memory_after : List ℕ) → IsBelow f.indicator old.base → old.place < old.count
    → Takes f old memory p new memory_after
    → TakesFirst old memory new memory_after
takes_first f old memory p new memory_after below within t =
    let there = memory_with_indicator memory f.indicator in
    let is_next : next_descriptor there old ≡ Some t.first = descriptor_told memory f.indicator old.base
    (descriptor_address old) below (omega arith) ∙ t.is_next in
    record {
      first = t.first;
      is_next = t.is_next;
      in_order = rw (← (ring_told memory f.indicator old.base old.count below), t.written, t.advanced)
          (posted_after_return there old t.first within is_next t.owned);
    }

-- the next descriptor stays the first that is posted
pub first_stays : (memory : List ℕ) (r : RingState) (d : Descriptor) → r.place < r.count → IsNext r memory d
    → FirstStays r memory
first_stays memory r d within next = record {
  first = d;
  rest = owned_front (behind memory r);
  is_next = next.is_next;
  is_first = owned_posted memory r d within next.is_next next.owned;
}
