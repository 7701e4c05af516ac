-- What a copy or a comparison reports to its observer, and what the target of a copy then holds.
use Rattle.std.specs.Prelude.{◌≡◌, ℕ, ◌+◌, ◌<◌, ◌≤◌, ◌||◌, Bool, true, false, nat_eq, List, [], ◌∷◌, ◌++◌, length, slice_get}
use Rattle.uda_disk.specs.Units.{Units, AllSound, AreWellFormedIfSound, failures_at}
use Rattle.uda50_copy.specs.Copy.{CopierState, units_in, source_of, target_of}
pub use Rattle.uda50_copy.specs.Report.{CopyReport, reached, lost}

-- ---- the reports of some blocks, the newest first

-- the end of the last report that blocks are done, or `start` if there is none
abbrev pub reached_end : ℕ → List CopyReport → ℕ
reached_end start [] = start
reached_end start (reached end ∷ told) = end
reached_end start (_ ∷ told) = reached_end start told

-- the block after those of all reports, or `start` if there is none
abbrev pub reports_end : ℕ → List CopyReport → ℕ
reports_end start [] = start
reports_end start (reached end ∷ told) = end
reports_end start (lost block ∷ told) = block + 1
reports_end start (_ ∷ told) = reports_end start told

-- whether a block was reported lost
abbrev pub is_told_lost : List CopyReport → ℕ → Bool
is_told_lost [] n = false
is_told_lost (lost block ∷ told) n = nat_eq block n || is_told_lost told n
is_told_lost (_ ∷ told) n = is_told_lost told n

-- reports of the blocks from `start` up to `end`, in rising order: an end is past all blocks reported before, and each
-- lost block comes after the last end
abbrev pub AreReports : ℕ → ℕ → List CopyReport → Type 0
AreReports start end [] = Unit {0}
AreReports start end (reached stop ∷ told) =
    (reports_end start told ≤ stop) × ((reached_end start told < stop) × ((stop ≤ end) × AreReports start end told))
AreReports start end (lost block ∷ told) = (reports_end start told ≤ block) × ((block < end) × AreReports start end told)
AreReports start end (_ ∷ told) = ⊥

-- such reports were added. None is of a lost block, if those aren't to be skipped
pub record AddsReports (skips_lost : Bool) (from to : ℕ) (reports reports_after : List CopyReport) : Type 0 where
  pub told : List CopyReport
  pub added : reports_after ≡ told ++ reports
  pub are_reports : AreReports from to told
  pub none_lost : skips_lost ≡ false → (n : ℕ) → is_told_lost told n ≡ false

-- only reports of lost blocks were added
abbrev pub ReportsLost : Bool → ℕ → ℕ → List CopyReport → List CopyReport → Type 0
ReportsLost skips_lost from to reports reports_after =
    (tells : AddsReports skips_lost from to reports reports_after)
    × ((start : ℕ) → reached_end start tells.told ≡ start)

-- ---- what a copy reports

-- the units of a copy, and all reports so far
pub record CopyStage : Type 0 where
  pub units : Units
  pub reports : List CopyReport

abbrev pub stage_of : CopierState → List CopyReport → CopyStage
stage_of copier reports = record { units = units_in copier; reports = reports }

-- how many calls on the source have failed
abbrev pub source_failures : Units → ℕ
source_failures units = failures_at (slice_get units 0)

-- how many blocks were reported lost
abbrev pub lost_count : List CopyReport → ℕ
lost_count [] = 0
lost_count (lost block ∷ told) = lost_count told + 1
lost_count (_ ∷ told) = lost_count told

-- if each store is sound afterwards, at least as many more calls on the source have failed as blocks were reported lost
abbrev pub LosesFailed : CopyStage → CopyStage → Type 0
LosesFailed old new = AllSound new.units
    → lost_count new.reports + source_failures old.units ≤ lost_count old.reports + source_failures new.units

-- no fewer calls on the source have failed, if each store is sound afterwards
abbrev pub KeepsFailures : Units → Units → Type 0
KeepsFailures units units_after = AllSound units_after → source_failures units ≤ source_failures units_after

-- block n is on the source, and the target has the same
abbrev pub IsBlockOf : ℕ → List (List ℕ) → List (List ℕ) → Type 0
IsBlockOf n source target = (n < length source) × (slice_get target n ≡ slice_get source n)

-- unit 1 has the blocks from `from` up to `end` of unit 0, except those reported lost, which are as before
pub record IsCopiedBut (told : List CopyReport) (from end : ℕ) (units units_after : Units) : Type 0 where
  pub copied : (n : ℕ) → from ≤ n → n < end → is_told_lost told n ≡ false
      → IsBlockOf n (source_of units) (target_of units_after)
  pub lost_stay : (n : ℕ) → is_told_lost told n ≡ true
      → slice_get (target_of units_after) n ≡ slice_get (target_of units) n

-- A copy of these blocks reports what it does. If units are well formed, and each store is sound afterwards, the blocks
-- up to the last end reported are copied, except those reported lost
pub record CopiesAsTold (skips_lost : Bool) (from to : ℕ) (old new : CopyStage) : Type 0 where
  pub tells : AddsReports skips_lost from to old.reports new.reports
  pub if_sound : AreWellFormedIfSound old.units → AllSound new.units
      → IsCopiedBut tells.told from (reached_end from tells.told) old.units new.units

-- the last end that was reported is the end of these blocks
abbrev pub ReportsLastBlock : ℕ → ℕ → List CopyReport → List CopyReport → Type 0
ReportsLastBlock from to reports reports_after =
    (told : List CopyReport) → reports_after ≡ told ++ reports → from < to → reached_end from told ≡ to
