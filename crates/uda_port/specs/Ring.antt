-- Rings of descriptors in host memory.
-- UDA50 Programmer's Documentation Kit: communication area, ring descriptors.
use Rattle.std.specs.Prelude.{◌≡◌, ◌≤◌, ℕ, ◌+◌, ◌*◌, ◌%◌, Bool, ◌&&◌, ◌||◌, nat_eq, nat_le, nat_lt, List, [], ◌∷◌, ◌++◌}
use Rattle.std.specs.Prelude.{length, take, drop, map, Option, Some, None, if◌then◌else◌}
use Rattle.std.specs.List.{range_with_len}
use Rattle.uda_mem.specs.Put.{put}
use Rattle.uda_mem.specs.Words.{word_at, word_bytes}
use Rattle.uda_port.specs.declared.descriptor.Descriptor.{Descriptor}
use Rattle.uda_port.specs.declared.ring.RingParts.{RingParts}

-- the owner bit is bit 15 of the second word: if it is set, the port owns the descriptor
abbrev pub is_owned : Descriptor → Bool
is_owned d = nat_le 0x8000 d.high

-- the address of the message text: the first word, with bits 13-0 of the second above it
abbrev pub address_of : Descriptor → ℕ
address_of d = d.low + 0x10000 * (d.high % 0x4000)

-- the second word of a returned descriptor: the owner bit clear, the flag bit set, the rest unchanged
abbrev pub returned_word : ℕ → ℕ
returned_word high = high % 0x4000 + 0x4000

-- the descriptor at an address, if it is wholly in memory
abbrev pub descriptor_at : List ℕ → ℕ → Option Descriptor
descriptor_at memory at =
    if nat_le (at + 4) (length memory)
    then Some (record { low = word_at memory at; high = word_at memory (at + 2) })
    else None

-- the n descriptors of a ring
abbrev pub ring : List ℕ → ℕ → ℕ → List (Option Descriptor)
ring memory base n = map (λ k. descriptor_at memory (base + 4 * k)) (range_with_len 0 n)

-- the owned descriptors at the front of a list, up to the first that the host owns or that isn't in memory
abbrev pub owned_front : List (Option Descriptor) → List Descriptor
owned_front [] = []
owned_front (None ∷ rest) = []
owned_front (Some d ∷ rest) = if is_owned d then d ∷ owned_front rest else []

-- the longest run of owned descriptors from an index on, around the ring
abbrev pub posted : List (Option Descriptor) → ℕ → List Descriptor
posted descriptors place = owned_front (drop place descriptors ++ take place descriptors)

-- a ring has 1, 2, 4, .. 128 descriptors
abbrev pub is_ring_length : ℕ → Bool
is_ring_length n =
    nat_eq n 1 || nat_eq n 2 || nat_eq n 4 || nat_eq n 8 || nat_eq n 16 || nat_eq n 32 || nat_eq n 64
    || nat_eq n 128

-- a ring begins at an even address of 18 bits
pub record IsRingBase (base : ℕ) : Type 0 where
  pub even : base % 2 ≡ 0
  pub within : base ≤ 262142

-- the state of a ring: its base, its number of descriptors, and the index of the next one
pub record RingState : Type 0 where
  pub base : ℕ
  pub count : ℕ
  pub place : ℕ

-- the numbers of a ring
abbrev pub parts_of : RingState → RingParts
parts_of r = record { base = r.base; count = r.count; place = r.place }

-- The ring with these numbers, if there can be one: the base is even and at most 2^31 + 512, there are 1, 2, 4, ..
-- 128 descriptors, and the next index is one of theirs.
abbrev pub ring_of : RingParts → Option RingState
ring_of parts =
    if nat_eq (parts.base % 2) 0 && nat_le parts.base 0x80000200 && is_ring_length parts.count
    && nat_lt parts.place parts.count
    then Some (record { base = parts.base; count = parts.count; place = parts.place })
    else None

-- the address of the next descriptor
abbrev pub descriptor_address : RingState → ℕ
descriptor_address r = r.base + 4 * r.place

-- the next descriptor
abbrev pub next_descriptor : List ℕ → RingState → Option Descriptor
next_descriptor memory r = descriptor_at memory (descriptor_address r)

-- the ring with its index advanced; the first descriptor follows the last
abbrev pub ring_advanced : RingState → RingState
ring_advanced r = record r { place = (r.place + 1) % r.count }

-- memory after the return of the next descriptor: only its second word changes
abbrev pub memory_returned : List ℕ → RingState → Descriptor → List ℕ
memory_returned memory r d = put memory (descriptor_address r + 2) (word_bytes (returned_word d.high))

-- what is posted in a ring, from its next index on
abbrev pub posted_in : List ℕ → RingState → List Descriptor
posted_in memory r = posted (ring memory r.base r.count) r.place
