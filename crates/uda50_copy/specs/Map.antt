-- The status of each block of a map. GNU ddrescue manual: mapfile structure.
use Rattle.std.specs.Prelude.{◌≡◌, ◌≢◌, ℕ, ◌≤◌, ◌<◌, nat_lt, nat_le, ◌&&◌, Bool, if◌then◌else◌, List, [], ◌∷◌, length, map, All, Contains}
use Rattle.std.specs.List.{AllAdjacentBelow}
use Rattle.uda50_copy.specs.declared.map.entry.BlockStatus.{BlockStatus}
use Rattle.uda50_copy.specs.declared.map.entry.BlockStatus.TheVariants.{NonTried, Finished}
use Rattle.uda50_copy.specs.declared.map.entry.MapEntry.{MapEntry}

-- whether a block is one of those from `start` on, up to `end`
abbrev pub is_within : ℕ → ℕ → ℕ → Bool
is_within start end block = nat_le start block && nat_lt block end

-- the statuses of a block: one for each entry that has it
abbrev pub statuses_at : List MapEntry → ℕ → List BlockStatus
statuses_at [] block = []
statuses_at (entry ∷ entries) block =
    if is_within entry.start entry.end block then entry.status ∷ statuses_at entries block
    else statuses_at entries block

-- a map that has each of these blocks once, not tried, and no others
abbrev pub IsUntried : ℕ → ℕ → List MapEntry → Type 0
IsUntried start end entries =
    (block : ℕ) → statuses_at entries block ≡ (if is_within start end block then NonTried ∷ [] else [])

-- a map that has each of these blocks once
abbrev pub HasBlocks : ℕ → ℕ → List MapEntry → Type 0
HasBlocks start end entries =
    (block : ℕ) → start ≤ block → block < end → length (statuses_at entries block) ≡ 1

-- this status in the place of each one
abbrev pub changed : BlockStatus → List BlockStatus → List BlockStatus
changed status statuses = map (λ _. status) statuses

-- a map in which blocks get a status: all others keep theirs, and the map has no other blocks
abbrev pub IsSet : ℕ → ℕ → BlockStatus → List MapEntry → List MapEntry → Type 0
IsSet start end status entries entries_after =
    (block : ℕ) → statuses_at entries_after block
    ≡ (if is_within start end block then changed status (statuses_at entries block) else statuses_at entries block)

-- a map whose blocks from this one on are all finished
abbrev pub IsFinishedFrom : ℕ → List MapEntry → Type 0
IsFinishedFrom from entries = (block : ℕ) → from ≤ block → All (λ status. status ≡ Finished) (statuses_at entries block)

-- a map whose blocks from one on are all finished, up to another one; and one in which they are all unfinished
abbrev pub IsFinishedBetween : ℕ → ℕ → List MapEntry → Type 0
IsFinishedBetween from to entries =
    (block : ℕ) → from ≤ block → block < to → All (λ status. status ≡ Finished) (statuses_at entries block)

abbrev pub IsUnfinishedBetween : ℕ → ℕ → List MapEntry → Type 0
IsUnfinishedBetween from to entries =
    (block : ℕ) → from ≤ block → block < to → All (λ status. status ≢ Finished) (statuses_at entries block)

-- a block that is finished
abbrev pub IsFinishedAt : ℕ → List MapEntry → Type 0
IsFinishedAt block entries = Contains (statuses_at entries block) Finished

-- a map whose blocks from this one on are all unfinished
abbrev pub IsUnfinishedFrom : ℕ → List MapEntry → Type 0
IsUnfinishedFrom from entries =
    (block : ℕ) → from ≤ block → All (λ status. status ≢ Finished) (statuses_at entries block)

-- entries of which none ends before it starts
abbrev pub AreForward : List MapEntry → Type 0
AreForward entries = All (λ entry. entry.start ≤ entry.end) entries

-- entries of which each one starts where the one before ends, and none ends before it starts
abbrev pub AreConsecutive : List MapEntry → Type 0
AreConsecutive entries =
    AreForward entries × AllAdjacentBelow (λ entry next. entry.end ≡ next.start) entries (length entries)

-- entries that follow each other, from this block up to that one
abbrev pub Spans : ℕ → ℕ → List MapEntry → Type 0
Spans start end [] = start ≡ end
Spans start end (entry ∷ entries) =
    (start ≡ entry.start) × (entry.start ≤ entry.end) × Spans entry.end end entries

-- the first block of entries that follow each other, or 0 if there are none
abbrev pub map_start : List MapEntry → ℕ
map_start [] = 0
map_start (entry ∷ entries) = entry.start

-- the block after the last of these entries, or this one if there are none
abbrev pub end_from : ℕ → List MapEntry → ℕ
end_from start [] = start
end_from start (entry ∷ entries) = end_from entry.end entries

-- the block after the last one of entries that follow each other, or 0 if there are none
abbrev pub map_end : List MapEntry → ℕ
map_end entries = end_from 0 entries
