-- Memory that a caller passes as a slice.
use Rattle.std.specs.Prelude.{◌≡◌, ℕ, ◌%◌, ◌^◌, ◌≤◌, List, length}

-- these bytes can be the memory of a host: an even number of them, at most as many as 22 bits address
abbrev pub IsMemory : List ℕ → Type 0
IsMemory bytes = (length bytes % 2 ≡ 0) × (length bytes ≤ 2 ^ 22)
