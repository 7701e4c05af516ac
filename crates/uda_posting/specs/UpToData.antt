-- A run over any stores. It matches the in-order run up to data: blocks and the bytes of Reads may differ,
-- and transfers may fail. MSCP Basic Disk Functions Manual: status and event codes, unit states, write
-- protection.
use Rattle.std.specs.Prelude.{◌≡◌, ℕ, Bool, true, false, nat_eq, ◌||◌, List, [], length, map, option_map}
use Rattle.std.specs.Prelude.{Option, Some, None, slice_get, if◌then◌else◌}
use Rattle.std.specs.Option.{option_map_or}
use Rattle.uda_disk.specs.Disk.{Disk, Disks}
use Rattle.uda_disk.specs.Status.{SUCCESS, DRIVE_ERROR}
use Rattle.uda_disk.specs.Request.{Act, Request, extent_of, blocks_named}
use Rattle.uda_disk.specs.Answer.{Answer, Moved, Data, blank_answer, status_of}
use Rattle.uda_disk.specs.Form.{SameForm}
use Rattle.uda_disk.specs.RequestEffect.{TransferOutcome, IsWithinRange, transfer_status, transfer_bytes}
use Rattle.uda_disk.specs.InOrderRun.{run_in_order}
use Rattle.uda_disk.specs.Units.{Units, disks_of}

-- a disk without its blocks: only its size and its mode
abbrev pub bare : Disk → Disk
bare disk = record disk { blocks = [] }

abbrev pub bares : Disks → Disks
bares disks = map (option_map bare) disks

-- the answer of a transfer that succeeded
abbrev pub is_done : Answer → Bool
is_done (Moved status bytes) = nat_eq status SUCCESS
is_done (Data status bytes) = nat_eq status SUCCESS
is_done _ = false

-- the number of bytes of an act's range, and the number of bytes that an answer reports or returns
abbrev pub bytes_named : Act → ℕ
bytes_named act = option_map_or (λ e. e.bytes) (extent_of act) 0

abbrev pub bytes_reported : Answer → ℕ
bytes_reported (Moved status bytes) = bytes
bytes_reported (Data status bytes) = length bytes
bytes_reported _ = 0

-- a transfer succeeded, or failed at a block of its range: its answer has its form, the status of that
-- outcome, and the number of bytes moved
pub record ReportsTransfer (act : Act) (told : Answer) : Type 0 where
  pub outcome : TransferOutcome
  pub fits : IsWithinRange (blocks_named act) outcome
  pub form : SameForm (blank_answer act 0) told
  pub status : status_of told ≡ transfer_status outcome
  pub bytes : bytes_reported told ≡ transfer_bytes outcome (bytes_named act)

-- an answer matches that of the in-order run: it is the same, or the transfer succeeded there. Such a
-- transfer succeeds or fails here, and the bytes that a Read returns may differ
pub record AnswerMatches (act : Act) (plain told : Answer) : Type 0 where
  pub same : is_done plain ≡ false → told ≡ plain
  pub ends : is_done plain ≡ true → ReportsTransfer act told

-- each of these answers matches, up to the end of the shortest list
abbrev pub AllAnswersMatch : List Request → List Answer → List Answer → Type 0
AllAnswersMatch requests plain told =
    (k : ℕ) (r : Request) (done now : Answer) → slice_get requests k ≡ Some r
    → slice_get plain k ≡ Some done → slice_get told k ≡ Some now → AnswerMatches r.act done now

-- sizes and modes are those of the in-order run, and each answer matches the one there
pub record MatchesUpToData (units : Units) (requests : List Request) (answers : List Answer)
    (units_after : Units) : Type 0 where
  pub left : bares (disks_of units_after) ≡ bares (run_in_order (disks_of units) requests).1
  pub answered : AllAnswersMatch requests (run_in_order (disks_of units) requests).0 answers

-- ---- what stays over any store

-- a transfer with this status began: it succeeded or failed
abbrev pub is_begun : ℕ → Bool
is_begun status = nat_eq status SUCCESS || nat_eq status DRIVE_ERROR

abbrev pub has_begun : Answer → Bool
has_begun (Moved status bytes) = is_begun status
has_begun (Data status bytes) = is_begun status
has_begun _ = false

-- an answer, unless it is that of a transfer that began
abbrev pub outline : Answer → Option Answer
outline answer = if has_begun answer then None else Some answer

-- answers and disks without those answers, and without blocks
abbrev pub outlines : List Answer × Disks → List (Option Answer) × Disks
outlines w = (map outline w.0, bares w.1)

-- each answer of a transfer that began reports its outcome
abbrev pub AllTell : List Request → List Answer → Type 0
AllTell requests told =
    (k : ℕ) (r : Request) (answer : Answer)
    → slice_get requests k ≡ Some r → slice_get told k ≡ Some answer
    → has_begun answer ≡ true → ReportsTransfer r.act answer
