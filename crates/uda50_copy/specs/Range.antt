-- Which blocks of a range a copy transfers, and what its map then says of them. GNU ddrescue manual: mapfile structure.
use Rattle.std.specs.Prelude.{◌≡◌, ◌≢◌, ◌⊎◌, ℕ, ◌<◌, ◌≤◌, max, ◌||◌, Bool, true, false, List, [], ◌∷◌, ◌++◌, All}
use Rattle.uda_disk.specs.Units.{Units, AllSound, AreWellFormedIfSound}
use Rattle.uda50_copy.specs.declared.map.entry.BlockStatus.TheVariants.{NonTried, Bad, Finished}
use Rattle.uda50_copy.specs.declared.map.entry.MapEntry.{MapEntry}
use Rattle.uda50_copy.specs.Copy.{CopierState, units_in, source_of, target_of}
use Rattle.uda50_copy.specs.Map.{is_within, statuses_at, changed, IsFinishedAt}
use Rattle.uda50_copy.specs.Report.{CopyReport, lost, given}
use Rattle.uda50_copy.specs.Reports.{is_told_lost, IsBlockOf}
use Rattle.uda50_copy.specs.Record.{RecordState}

-- ---- the ranges that were given to a copy

-- the block after the last range that was given, or `start` if none was
abbrev pub given_end : ℕ → List CopyReport → ℕ
given_end start [] = start
given_end start (given from to ∷ told) = to
given_end start (_ ∷ told) = given_end start told

-- ranges of the blocks from `start` up to `end`: each has blocks, and comes after the ones before. Each lost block
-- comes before the end of the last one
abbrev pub AreGiven : ℕ → ℕ → List CopyReport → Type 0
AreGiven start end [] = Unit {0}
AreGiven start end (given from to ∷ told) =
    (given_end start told ≤ from) × ((from < to) × ((to ≤ end) × AreGiven start end told))
AreGiven start end (lost block ∷ told) = (start ≤ block) × ((block < given_end start told) × AreGiven start end told)
AreGiven start end (_ ∷ told) = AreGiven start end told

-- whether a block is in one of them
abbrev pub is_given : List CopyReport → ℕ → Bool
is_given [] n = false
is_given (given from to ∷ told) n = is_within from to n || is_given told n
is_given (_ ∷ told) n = is_given told n

-- ---- what came of a block

-- the units, the map and all reports, before and after a copy
pub record CopyStates : Type 0 where
  pub units : Units
  pub units_after : Units
  pub map : List MapEntry
  pub map_after : List MapEntry
  pub reports : List CopyReport
  pub reports_after : List CopyReport

abbrev pub states_of : CopierState → CopierState → RecordState → RecordState → CopyStates
states_of copier copier_after old new = record {
  units = units_in copier;
  units_after = units_in copier_after;
  map = old.map;
  map_after = new.map;
  reports = old.reports;
  reports_after = new.reports;
}

-- unit 1 has this block of unit 0, if units are well formed, and each store is sound afterwards
abbrev pub IsCopiedIfSound : CopyStates → ℕ → Type 0
IsCopiedIfSound t n =
    AreWellFormedIfSound t.units → AllSound t.units_after → IsBlockOf n (source_of t.units) (target_of t.units_after)

-- A block was finished before, and no range has it. Or it was unfinished, and a range has it: then it is copied, and
-- finished now, or it was lost, and is bad now. Or it was unfinished, and is finished now, since both images have zeros
-- there
pub data IsDone (t : CopyStates) (told : List CopyReport) (Zeros : ℕ → Type 0) (n : ℕ) : Type 0 where
  was_finished : All (λ status. status ≡ Finished) (statuses_at t.map n) → is_given told n ≡ false
      → statuses_at t.map_after n ≡ statuses_at t.map n → IsDone t told Zeros n
  is_copied : All (λ status. status ≢ Finished) (statuses_at t.map n) → is_given told n ≡ true
      → is_told_lost told n ≡ false → IsCopiedIfSound t n
      → statuses_at t.map_after n ≡ changed Finished (statuses_at t.map n) → IsDone t told Zeros n
  was_lost : All (λ status. status ≢ Finished) (statuses_at t.map n) → is_given told n ≡ true
      → is_told_lost told n ≡ true → statuses_at t.map_after n ≡ changed Bad (statuses_at t.map n)
      → IsDone t told Zeros n
  has_zeros : All (λ status. status ≢ Finished) (statuses_at t.map n) → is_given told n ≡ false → Zeros n
      → statuses_at t.map_after n ≡ changed Finished (statuses_at t.map n) → IsDone t told Zeros n

-- a block has the status that it had, and was unfinished if a range has it
pub record IsLeft (t : CopyStates) (told : List CopyReport) (n : ℕ) : Type 0 where
  pub same : statuses_at t.map_after n ≡ statuses_at t.map n
  pub unfinished : is_given told n ≡ true → All (λ status. status ≢ Finished) (statuses_at t.map n)

-- the ranges of a copy are of these blocks. Each block before `end` is done, and the others are left
pub record IsDoneUpTo (start end : ℕ) (t : CopyStates) (told : List CopyReport) (Zeros : ℕ → Type 0) : Type 0 where
  pub done : (n : ℕ) → start ≤ n → n < end → IsDone t told Zeros n
  pub left : (n : ℕ) → is_within start end n ≡ false → IsLeft t told n

-- a copy of the unfinished blocks of a range gave ranges of it to be copied. All blocks before `end` are done
pub record CopiesUnfinished (start to : ℕ) (t : CopyStates) (Zeros : ℕ → Type 0) : Type 0 where
  pub told : List CopyReport
  pub added : t.reports_after ≡ told ++ t.reports
  pub are_given : AreGiven start to told
  pub end : ℕ
  pub begins : start ≤ end
  pub ends : end ≤ max start to
  pub up_to : IsDoneUpTo start end t told Zeros

-- all its blocks are done
abbrev pub CopiesAllUnfinished : ℕ → ℕ → CopyStates → (ℕ → Type 0) → Type 0
CopiesAllUnfinished start to t Zeros = (copies : CopiesUnfinished start to t Zeros) × (copies.end ≡ max start to)

-- a block is finished afterwards only if it was before, or if unit 1 has that of unit 0, or if both images have zeros
-- there
abbrev pub FinishedOnlyIf : CopyStates → (ℕ → Type 0) → Type 0
FinishedOnlyIf t Zeros =
    (n : ℕ) → IsFinishedAt n t.map_after → IsFinishedAt n t.map ⊎ (IsCopiedIfSound t n ⊎ Zeros n)

-- none of these blocks is untried
abbrev pub NoneUntried : ℕ → ℕ → List MapEntry → Type 0
NoneUntried start to entries =
    (n : ℕ) → start ≤ n → n < to → All (λ status. status ≢ NonTried) (statuses_at entries n)
