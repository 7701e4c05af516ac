-- The map of a copy that goes on, after what the copy reported.
use Rattle.std.specs.Prelude.{◌≡◌, ℕ, ◌<◌, ◌||◌, Bool, false, nat_eq, List, [], ◌∷◌, if◌then◌else◌, All}
use Rattle.std.specs.List.{list_any}
use Rattle.uda50_copy.specs.declared.map.entry.BlockStatus.{BlockStatus}
use Rattle.uda50_copy.specs.declared.map.entry.BlockStatus.TheVariants.{Bad, Finished}
use Rattle.uda50_copy.specs.declared.map.entry.MapEntry.{MapEntry}
use Rattle.uda50_copy.specs.Map.{is_within, statuses_at, changed}
use Rattle.uda50_copy.specs.Report.{CopyReport, reached, lost, begun, given, skipped}

-- the first block of the run that is copied: the last end, or the start of the range that was given since
abbrev pub run_start : List CopyReport → ℕ
run_start [] = 0
run_start (reached end ∷ told) = end
run_start (lost block ∷ told) = run_start told
run_start (begun entries ∷ told) = 0
run_start (given start end ∷ told) = start
run_start (skipped start end ∷ told) = end

-- whether a block was reported lost in that run
abbrev pub is_lost_in_run : List CopyReport → ℕ → Bool
is_lost_in_run (lost block ∷ told) n = nat_eq block n || is_lost_in_run told n
is_lost_in_run _ n = false

-- the statuses that a block has after these reports
abbrev pub noted_at : List CopyReport → ℕ → List BlockStatus
noted_at [] n = []
noted_at (reached end ∷ told) n =
    if is_lost_in_run told n then changed Bad (noted_at told n)
    else if is_within (run_start told) end n then changed Finished (noted_at told n) else noted_at told n
noted_at (lost block ∷ told) n = noted_at told n
noted_at (begun entries ∷ told) n = statuses_at entries n
noted_at (given start end ∷ told) n = noted_at told n
noted_at (skipped start end ∷ told) n =
    if is_within start end n then changed Finished (noted_at told n) else noted_at told n

-- whether a block is one of these
abbrev pub is_one_of : List ℕ → ℕ → Bool
is_one_of blocks n = list_any (λ block. nat_eq block n) blocks

-- a record of a copy: its map, the first block and the lost blocks of the run that is copied, all reports, and whether
-- memory lacked to note one
pub record RecordState : Type 0 where
  pub map : List MapEntry
  pub from : ℕ
  pub lost : List ℕ
  pub reports : List CopyReport
  pub broken : Bool

-- the map is what the reports say
pub record IsAsReported (noted : RecordState) : Type 0 where
  pub from : noted.from ≡ run_start noted.reports
  pub lost : (n : ℕ) → is_one_of noted.lost n ≡ is_lost_in_run noted.reports n
  pub few : All (λ block. block < 4294967295) noted.lost
  pub map : (n : ℕ) → statuses_at noted.map n ≡ noted_at noted.reports n

abbrev pub IsRecord : RecordState → Type 0
IsRecord r = r.broken ≡ false → IsAsReported r

-- the map after a run up to `end`: its blocks are finished, and these ones are lost
abbrev pub IsRunNoted : ℕ → ℕ → List ℕ → List MapEntry → List MapEntry → Type 0
IsRunNoted from end gone entries entries_after =
    (n : ℕ) → statuses_at entries_after n
    ≡ (if is_one_of gone n then changed Bad (statuses_at entries n)
    else if is_within from end n then changed Finished (statuses_at entries n) else statuses_at entries n)
