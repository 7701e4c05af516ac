-- Ranges of bytes of host memory, and the copy of ranges from one memory to another.
use Rattle.std.specs.Prelude.{◌≡◌, ◌≤◌, ℕ, ◌-◌, min, List, [], ◌∷◌, length}
use Rattle.uda_mem.specs.declared.range.ByteRange.{ByteRange}
use Rattle.uda_mem.specs.Put.{put, part}

-- the range without bytes
abbrev pub EMPTY_RANGE : ByteRange
EMPTY_RANGE = record { at = 0; bytes = 0 }

-- n bytes from an address on, without those past the end of memory
abbrev pub range_in : List ℕ → ℕ → ℕ → ByteRange
range_in memory at n = record { at = at; bytes = min n (length memory - at) }

-- all bytes of a range are in memory
abbrev pub LiesIn : List ℕ → ByteRange → Type 0
LiesIn memory r = r.bytes ≤ length memory - r.at

-- two memories have the same bytes in a range
abbrev pub SameIn : List ℕ → List ℕ → ByteRange → Type 0
SameIn memory other r = part other r.at r.bytes ≡ part memory r.at r.bytes

-- a memory after these ranges of another were copied to it, one after the other
abbrev pub carried : List ByteRange → List ℕ → List ℕ → List ℕ
carried [] memory other = other
carried (r ∷ rest) memory other = carried rest memory (put other r.at (part memory r.at r.bytes))
