-- Parts of a list, and the list after a write to one of them. They describe the bytes of a memory and the
-- blocks of a unit.
use Rattle.std.specs.Prelude.{ℕ, ◌+◌, ◌<◌, min, max, List, ◌++◌, length, take, drop}

-- the n items from index at
unfoldable pub part : {A : Type 0} → List A → ℕ → ℕ → List A
part xs at n = take n (drop at xs)

-- xs with ys written over it from index at: items past the end are dropped, so the length stays
unfoldable pub put : {A : Type 0} → List A → ℕ → List A → List A
put xs at ys = take (length xs) (take at xs ++ (ys ++ drop (at + length ys) xs))

-- some index lies in both the m indexes from a and the n indexes from b; an empty range meets nothing
abbrev pub Overlap : ℕ → ℕ → ℕ → ℕ → Type 0
Overlap a m b n = max a b < min (a + m) (b + n)
