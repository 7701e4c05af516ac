-- The copy of blocks from unit 0 to unit 1, and the requests that it consists of. MSCP Basic Disk Functions Manual:
-- logical blocks, the commands Read and Write.
use Rattle.std.specs.Prelude.{◌≡◌, ℕ, ◌+◌, ◌-◌, ◌*◌, ◌<◌, ◌≤◌, min, Bool, false, List, [], ◌∷◌, length, All, Some}
use Rattle.std.specs.Prelude.{slice_get}
use Rattle.std.specs.List.{concat}
use Rattle.uda_mem.specs.Put.{part, put}
use Rattle.uda_disk.specs.Status.{SUCCESS, DRIVE_ERROR}
use Rattle.uda_disk.specs.Request.{Read, Write, Request, is_writing}
use Rattle.uda_disk.specs.Answer.{Answer, Data, Moved, status_of}
use Rattle.uda_disk.specs.Laws.{blocks_at, size_at, HasSameBlocks}
use Rattle.uda_disk.specs.Units.{Units, disks_of, AllSound, AreSoundBefore, AreWellFormedIfSound}
use Rattle.uda_driver.specs.Run.{DriverState, units_of}
use Rattle.uda50_copy.specs.declared.error.Side.{Side}
use Rattle.uda50_copy.specs.declared.error.Side.TheVariants.{Source, Target}
use Rattle.uda50_copy.specs.declared.requests.BlockReading.{BlockReading}
use Rattle.uda50_copy.specs.declared.requests.BlockReading.TheVariants.{Bytes, Failed}

-- a driver over both drives, and whether blocks that can't be read are skipped
pub record CopierState : Type 0 where
  pub driver : DriverState
  pub skips_lost : Bool

abbrev pub units_in : CopierState → Units
units_in copier = units_of copier.driver

-- the blocks of unit 0, and those of unit 1
abbrev pub source_of : Units → List (List ℕ)
source_of units = blocks_at (disks_of units) 0

abbrev pub target_of : Units → List (List ℕ)
target_of units = blocks_at (disks_of units) 1

-- ---- what a copy does

-- the blocks from `from` up to `to` of unit 1 are those of unit 0; all other blocks of both are unchanged
pub record IsCopied (from to : ℕ) (units units_after : Units) : Type 0 where
  pub on_source : from < to → to ≤ length (source_of units)
  pub on_target : from < to → to ≤ length (target_of units)
  pub source_stays : source_of units_after ≡ source_of units
  pub copied : target_of units_after ≡ put (target_of units) from (part (source_of units) from (to - from))

-- stores that are sound afterwards were sound before, and well-formed units stay well formed
pub record StaysSound (units units_after : Units) : Type 0 where
  pub sound_before : AreSoundBefore units units_after
  pub well_formed : AreWellFormedIfSound units → AreWellFormedIfSound units_after

-- a copy of these blocks: if lost blocks aren't to be skipped, units are well formed, and each store is sound
-- afterwards, they are copied
pub record CopiesIfSound (skips_lost : Bool) (from to : ℕ) (units units_after : Units) : Type 0 where
  pub stays_sound : StaysSound units units_after
  pub if_sound : skips_lost ≡ false → AreWellFormedIfSound units → AllSound units_after
      → IsCopied from to units units_after

-- requests were executed that write nothing: if each store is sound afterwards, all blocks are unchanged
pub record ChangesNoBlock (units units_after : Units) : Type 0 where
  pub stays_sound : StaysSound units units_after
  pub if_sound : AllSound units_after → HasSameBlocks (disks_of units) (disks_of units_after)

-- ---- what a comparison tells

-- both units have the blocks from `from` up to `to`, and those of one are those of the other
pub record AreEqual (from to : ℕ) (source target : List (List ℕ)) : Type 0 where
  pub on_source : from < to → to ≤ length source
  pub on_target : from < to → to ≤ length target
  pub equal : part target from (to - from) ≡ part source from (to - from)

-- a comparison of these blocks: if lost blocks aren't to be skipped, units are well formed, and each store is sound
-- afterwards, they are equal
abbrev pub EqualIfSound : Bool → ℕ → ℕ → Units → Units → Type 0
EqualIfSound skips_lost from to units units_after =
    skips_lost ≡ false → AreWellFormedIfSound units → AllSound units_after
    → AreEqual from to (source_of units) (target_of units)

-- ---- their requests

abbrev pub unit_of : Side → ℕ
unit_of Source = 0
unit_of Target = 1

abbrev pub read_from : ℕ → ℕ → ℕ → Request
read_from u lbn count = record { unit = u; act = Read lbn (512 * count) }

-- a Read of blocks of the source
abbrev pub read_of : ℕ → ℕ → Request
read_of lbn count = read_from 0 lbn count

abbrev pub write_of : ℕ → List ℕ → Request
write_of lbn payload = record { unit = 1; act = Write lbn payload }

abbrev pub WritesNothing : Request → Type 0
WritesNothing r = is_writing r.act ≡ false

-- Reads of the blocks from `from` up to `to`, of `piece` blocks each, the last perhaps of fewer
pub record AreReads (from to piece : ℕ) (requests : List Request) : Type 0 where
  pub covers : to ≤ from + piece * length requests
  pub begins : (k : ℕ) → k < length requests → from + piece * k < to
  pub each : (k : ℕ) → k < length requests
      → slice_get requests k ≡ Some (read_of (from + piece * k) (min piece (to - (from + piece * k))))
  pub writes_nothing : All WritesNothing requests

-- Reads of the blocks from `from` up to `to` of both units, of `piece` blocks each, the last two perhaps of fewer: for
-- each piece one of unit 0, and one of unit 1
abbrev pub ArePairedReads : ℕ → List Request → ℕ → ℕ → Type 0
ArePairedReads piece [] from to = to ≤ from
ArePairedReads piece (r ∷ []) from to = ⊥
ArePairedReads piece (r ∷ s ∷ rest) from to = (from < to) × ((r ≡ read_from 0 from (min piece (to - from)))
    × ((s ≡ read_from 1 from (min piece (to - from))) × ArePairedReads piece rest (from + min piece (to - from)) to))

-- if this is the answer of a Read that succeeded, it returns these blocks, and they are on the unit
abbrev pub ReturnsBlocks : List (List ℕ) → Answer → ℕ → ℕ → Type 0
ReturnsBlocks blocks answer lbn count =
    (bytes : List ℕ) → answer ≡ Data SUCCESS bytes
    → (lbn + count ≤ length blocks) × (bytes ≡ concat (part blocks lbn count))

-- each answer does, of the unit that was read
abbrev pub EachReturnsBlocks : Units → List Request → List Answer → Type 0
EachReturnsBlocks units requests answers =
    (u k lbn count : ℕ) (answer : Answer) → slice_get requests k ≡ Some (read_from u lbn count)
    → slice_get answers k ≡ Some answer → ReturnsBlocks (blocks_at (disks_of units) u) answer lbn count

-- what was read of a block
abbrev pub IsBlockRead : List (List ℕ) → ℕ → BlockReading → Type 0
IsBlockRead blocks lbn (Bytes payload) = ReturnsBlocks blocks (Data SUCCESS payload.items) lbn 1
IsBlockRead blocks lbn Failed = Unit {0}

-- a block was read from both units, and the bytes are the same
abbrev pub AreSameBytes : BlockReading → BlockReading → Type 0
AreSameBytes (Bytes a) (Bytes b) = a.items ≡ b.items
AreSameBytes (Bytes a) Failed = ⊥
AreSameBytes Failed target = ⊥

-- two answers of Reads that succeeded and returned the same bytes
abbrev pub AreEqualReads : List Answer → Type 0
AreEqualReads answers = (bytes : List ℕ) × (answers ≡ Data SUCCESS bytes ∷ Data SUCCESS bytes ∷ [])

-- Writes of consecutive pieces of these blocks, from `from` up to `to`
abbrev pub WritesPieces : List (List ℕ) → List Request → ℕ → ℕ → Type 0
WritesPieces blocks [] from to = to ≡ from
WritesPieces blocks (r ∷ rest) from to = (count : ℕ) × ((from + count ≤ length blocks)
    × ((r ≡ write_of from (concat (part blocks from count))) × WritesPieces blocks rest (from + count) to))

-- if the earlier Writes are pieces that end before `from`, the later ones are pieces that end before `to`
abbrev pub AddsPieces : List (List ℕ) → List Request → List Request → ℕ → ℕ → Type 0
AddsPieces blocks old new from to =
    (start : ℕ) → WritesPieces blocks old start from → WritesPieces blocks new start to

-- the later Writes have one piece more, of the blocks that this answer returns
abbrev pub AddsPiece : Answer → List Request → List Request → ℕ → ℕ → Type 0
AddsPiece answer old new lbn count =
    (blocks : List (List ℕ)) → ReturnsBlocks blocks answer lbn count → AddsPieces blocks old new lbn (lbn + count)

-- Writes before and after pieces were added, and the range of blocks of those pieces
pub record Pieces : Type 0 where
  pub old : List Request
  pub new : List Request
  pub from : ℕ
  pub to : ℕ

-- Reads were executed, and Writes were made of what they returned: of all blocks, if lost ones aren't to be skipped and
-- each store is sound afterwards
pub record PreparesWrites (skips_lost : Bool) (pieces : Pieces) (units units_after : Units) : Type 0 where
  pub changes_no_block : ChangesNoBlock units units_after
  pub adds : skips_lost ≡ false → AreWellFormedIfSound units → AllSound units_after
      → AddsPieces (source_of units) pieces.old pieces.new pieces.from pieces.to

-- the answer of a Write that succeeded
abbrev pub IsSuccess : Answer → Type 0
IsSuccess answer = (bytes : ℕ) × (answer ≡ Moved SUCCESS bytes)

-- each Write has such an answer
abbrev pub AreWritten : List Request → List Answer → Type 0
AreWritten requests answers =
    (k lbn : ℕ) (payload : List ℕ) → slice_get requests k ≡ Some (write_of lbn payload)
    → (answer : Answer) × ((slice_get answers k ≡ Some answer) × IsSuccess answer)

-- what a Read's answer tells
abbrev pub IsReading : Answer → BlockReading → Type 0
IsReading answer (Bytes payload) = answer ≡ Data SUCCESS payload.items
IsReading answer Failed = status_of answer ≡ DRIVE_ERROR

-- unit 1 has these pieces of these blocks, which are within its size, and unit 0 is unchanged
pub record HasPieces (blocks : List (List ℕ)) (from to : ℕ) (units units_after : Units) : Type 0 where
  pub within : from < to → to ≤ size_at (disks_of units) 1
  pub source_stays : source_of units_after ≡ source_of units
  pub written : target_of units_after ≡ put (target_of units) from (part blocks from (to - from))

-- Writes were executed: if they are of these pieces, and each store is sound afterwards, unit 1 has them
pub record ExecutesWrites (requests : List Request) (units units_after : Units) : Type 0 where
  pub stays_sound : StaysSound units units_after
  pub if_sound : AllSound units_after → (blocks : List (List ℕ)) (from to : ℕ) → WritesPieces blocks requests from to
      → All (λ block. length block ≡ 512) blocks → HasPieces blocks from to units units_after
