-- Which blocks a copy changes, whether it succeeds or fails, and the Writes that change them.
use Rattle.std.specs.Prelude.{◌≡◌, ℕ, ◌+◌, ◌&&◌, ◌≤◌, not, Bool, true, false, List, ◌++◌, length, All, slice_get}
use Rattle.std.specs.List.{concat, list_any}
use Rattle.uda_mem.specs.Put.{part}
use Rattle.uda_disk.specs.Request.{Act, Write, Request, blocks_for}
use Rattle.uda_disk.specs.Answer.{Answer}
use Rattle.uda_disk.specs.Laws.{size_at}
use Rattle.uda_disk.specs.Units.{Units, disks_of, AllSound, AreWellFormedIfSound}
use Rattle.uda50_copy.specs.Map.{is_within}
use Rattle.uda50_copy.specs.Copy.{source_of, target_of, write_of, StaysSound, ReturnsBlocks}
use Rattle.uda50_copy.specs.Report.{CopyReport}
use Rattle.uda50_copy.specs.Reports.{ReportsLost, is_told_lost, IsBlockOf, CopyStage, IsCopiedBut}

-- ---- what changes

-- all blocks of unit 0 are unchanged, and those of unit 1 for which `changes` is false
pub record HasOtherBlocks (changes : ℕ → Bool) (units units_after : Units) : Type 0 where
  pub source_stays : source_of units_after ≡ source_of units
  pub others_stay : (n : ℕ) → changes n ≡ false
      → slice_get (target_of units_after) n ≡ slice_get (target_of units) n
  pub sizes_stay : (u : ℕ) → size_at (disks_of units_after) u ≡ size_at (disks_of units) u

-- if units are well formed, and each store is sound afterwards, only these blocks of unit 1 have changed
pub record ChangesWithin (from to : ℕ) (units units_after : Units) : Type 0 where
  pub stays_sound : StaysSound units units_after
  pub if_sound : AreWellFormedIfSound units → AllSound units_after
      → HasOtherBlocks (is_within from to) units units_after

-- ---- Writes

-- a Write to unit 1
abbrev pub IsTargetWrite : Request → Type 0
IsTargetWrite r = (lbn : ℕ) × ((payload : List ℕ) × (r ≡ write_of lbn payload))

-- whether a block is one of those that a Write has bytes for
abbrev pub is_moved : Act → ℕ → Bool
is_moved (Write lbn payload) n = is_within lbn (lbn + blocks_for (length payload)) n
is_moved _ n = false

-- whether one of these Writes has bytes for a block
abbrev pub is_written : List Request → ℕ → Bool
is_written requests n = list_any (λ r. is_moved r.act n) requests

-- requests were executed: if they are Writes to unit 1, and each store is sound afterwards, only their blocks changed
pub record ChangesWritten (requests : List Request) (units units_after : Units) : Type 0 where
  pub stays_sound : StaysSound units units_after
  pub if_sound : AllSound units_after → All IsTargetWrite requests
      → HasOtherBlocks (is_written requests) units units_after

-- a Write of some of these blocks to the same block numbers of unit 1
abbrev pub IsPieceOf : List (List ℕ) → Request → Type 0
IsPieceOf blocks r = (lbn : ℕ) × ((count : ℕ)
    × ((lbn + count ≤ length blocks) × (r ≡ write_of lbn (concat (part blocks lbn count)))))

-- Writes succeeded: if they are of these blocks, and each store is sound afterwards, unit 1 has those
abbrev pub HoldsWritten : List Request → Units → Units → Type 0
HoldsWritten requests units units_after =
    AreWellFormedIfSound units → AllSound units_after → (blocks : List (List ℕ))
    → All (λ block. length block ≡ 512) blocks → All (IsPieceOf blocks) requests
    → (n : ℕ) → is_written requests n ≡ true → IsBlockOf n blocks (target_of units_after)

-- ---- a run of a copy

-- its blocks, and whether those that can't be read are skipped
pub record CopyRun : Type 0 where
  pub skips_lost : Bool
  pub from : ℕ
  pub to : ℕ

-- Writes of all blocks of a run, except those reported lost
pub record WritesAllBut (blocks : List (List ℕ)) (told : List CopyReport) (writes : List Request) (from to : ℕ)
    : Type 0 where
  pub pieces : All (IsPieceOf blocks) writes
  pub written : (n : ℕ) → is_written writes n ≡ (is_within from to n && not (is_told_lost told n))

-- the Writes that were made, and all reports so far
pub record WriteStage : Type 0 where
  pub writes : List Request
  pub reports : List CopyReport

-- whole blocks, some of which this answer returns
abbrev pub ReturnsWhole : Answer → ℕ → ℕ → List (List ℕ) → Type 0
ReturnsWhole answer lbn count blocks =
    All (λ block. length block ≡ 512) blocks × ReturnsBlocks blocks answer lbn count

-- the blocks of a source, if units are well formed, and each store is sound after they were read
abbrev pub IsSoundSource : Units → Units → List (List ℕ) → Type 0
IsSoundSource units units_after blocks =
    AreWellFormedIfSound units × (AllSound units_after × (blocks ≡ source_of units))

-- Writes were added, and blocks were reported lost: together all blocks of a run, of each source that is as `Is` says
pub record AddsAllBut (run : CopyRun) (old new : WriteStage) (Is : List (List ℕ) → Type 0) : Type 0 where
  pub tells : ReportsLost run.skips_lost run.from run.to old.reports new.reports
  pub added : List Request
  pub adds : new.writes ≡ old.writes ++ added
  pub writes : (blocks : List (List ℕ)) → Is blocks → WritesAllBut blocks tells.0.told added run.from run.to

-- a run reported its lost blocks: if units are well formed, and each store is sound afterwards, its blocks up to `end`
-- are copied except those
pub record RunsAsTold (run : CopyRun) (end : ℕ) (old new : CopyStage) : Type 0 where
  pub tells : ReportsLost run.skips_lost run.from run.to old.reports new.reports
  pub if_sound : AreWellFormedIfSound old.units → AllSound new.units
      → IsCopiedBut tells.0.told run.from end old.units new.units
