-- Longwords in memory. PDP-11 UNIBUS map, VAX UNIBUS adapter, Q-bus map: map registers.
use Rattle.std.specs.Prelude.{ℕ, ◌+◌, List, length, nat_le, if◌then◌else◌, Option, Some, None}
use Rattle.byteorder.specs.Endian.{little_number}
use Rattle.uda_mem.specs.Put.{part}

-- the longword from an index on, low byte first, if memory has all four bytes
unfoldable pub long_in : List ℕ → ℕ → Option ℕ
long_in memory at =
    if nat_le (at + 4) (length memory) then Some (little_number 4 (part memory at 4)) else None
