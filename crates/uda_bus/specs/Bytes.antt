-- The bytes that a bus shows, and those that are written on it. PDP-11 UNIBUS map, VAX UNIBUS adapter, Q-bus
-- map: map registers.
use Rattle.std.specs.Prelude.{ℕ, ◌+◌, ◌<◌, zero, suc, List, [], ◌∷◌, slice_index, slice_set, Option, Some, None, IsSome}
use Rattle.uda_bus.specs.declared.map.BusMap.{BusMap}
use Rattle.uda_bus.specs.Lookup.{byte_at}

-- the byte of memory at an index, or 0 where an address leads nowhere
abbrev pub byte_shown : List ℕ → Option ℕ → ℕ
byte_shown memory None = 0
byte_shown memory (Some index) = slice_index memory index

-- the n bytes that the bus shows from an address on
abbrev pub shown : BusMap → List ℕ → ℕ → ℕ → List ℕ
shown map memory at zero = []
shown map memory at (suc n) = byte_shown memory (byte_at map memory at) ∷ shown map memory (at + 1) n

-- each of n addresses from this one on leads to a byte of memory
abbrev pub AllLead : BusMap → List ℕ → ℕ → ℕ → Type 0
AllLead map memory at n = (i : ℕ) → i < n → IsSome (byte_at map memory (at + i))

-- memory after a byte was written at an index, or dropped where an address leads nowhere
abbrev pub byte_stored : List ℕ → ℕ → Option ℕ → List ℕ
byte_stored memory byte None = memory
byte_stored memory byte (Some index) = slice_set memory index byte

-- memory after bytes were written on the bus from an address on, one after the other. Each address is looked
-- up in memory as it then is
abbrev pub stored : BusMap → List ℕ → ℕ → List ℕ → List ℕ
stored map memory at [] = memory
stored map memory at (byte ∷ bytes) =
    stored map (byte_stored memory byte (byte_at map memory at)) (at + 1) bytes
