-- Laws of in-order runs, for callers who reason about their own lists of requests. MSCP Basic Disk
-- Functions Manual: transfer commands, write protection.
use Rattle.std.specs.Prelude.{◌≡◌, ◌≢◌, ℕ, ◌+◌, ◌-◌, ◌*◌, ◌%◌, ◌<◌, ◌≤◌, true, false, List, [], ◌∷◌, ◌++◌, length, All}
use Rattle.std.specs.Prelude.{Option, Some, None}
use Rattle.std.specs.Prelude.{slice_get, slice_set}
use Rattle.std.specs.List.{concat}
use Rattle.uda_mem.specs.Put.{part, put}
use Rattle.uda_image.specs.Store.{HasWholeBlocks}
use Rattle.uda_disk.specs.Status.{SUCCESS}
use Rattle.uda_disk.specs.Disk.{Disk, Disks}
use Rattle.uda_disk.specs.Units.{Units, disks_of, is_sound_at, AreWellFormedIfSound}
use Rattle.uda_disk.specs.Request.{Act, Read, Write, Request, Extent, extent_of, is_writing, blocks_for}
use Rattle.uda_disk.specs.Request.{in_blocks}
use Rattle.uda_disk.specs.Answer.{Answer, Data, Moved}
use Rattle.uda_disk.specs.RequestEffect.{TransferOutcome, Done, answer_on, disk_after}
use Rattle.uda_disk.specs.InOrderRun.{FixedRequest, InOrderWithFailures, requests_of, too_long, step_as, step, run_in_order, run_in_order_as}

-- no check rejects a transfer: the unit is online, the byte count even, the range on the unit, and the
-- blocks that it would change aren't protected
pub record IsAllowed (e : Extent) (disk : Disk) : Type 0 where
  pub online : disk.mode.online ≡ true
  pub even : e.bytes % 2 ≡ 0
  pub begins : e.lbn < disk.size
  pub ends : e.lbn + blocks_for e.bytes ≤ disk.size
  pub not_hard : e.writes ≡ true → disk.mode.hard ≡ false
  pub not_soft : e.writes ≡ true → disk.mode.soft ≡ false

-- a transfer that no check rejects, and that isn't too long, succeeds
abbrev pub AllowedIsDone : Type 0
AllowedIsDone =
    (r : Request) (e : Extent) (disk : Disk) (disks : Disks)
    → extent_of r.act ≡ Some e → IsAllowed e disk → too_long r ≡ false
    → slice_get disks r.unit ≡ Some (Some disk)
    → step r disks ≡ (answer_on Done r.act disk, slice_set disks r.unit (Some (disk_after Done r.act disk)))

-- the bytes of n whole blocks take n blocks, and blocks that are joined and divided again are the same
abbrev pub WholeCount : Type 0
WholeCount = (n : ℕ) → blocks_for (512 * n) ≡ n

abbrev pub JoinedAndCut : Type 0
JoinedAndCut =
    (blocks : List (List ℕ)) → All (λ block. length block ≡ 512) blocks
    → in_blocks (concat blocks) ≡ blocks

-- an act that isn't a Write or an Erase leaves the blocks unchanged
abbrev pub UnwrittenStays : Type 0
UnwrittenStays =
    (o : TransferOutcome) (act : Act) (disk : Disk)
    → is_writing act ≡ false → (disk_after o act disk).blocks ≡ disk.blocks

-- a Read of a whole unit returns all its bytes
abbrev pub WholeRead : Type 0
WholeRead =
    (disk : Disk) → HasWholeBlocks disk.size disk.blocks
    → answer_on Done (Read 0 (512 * disk.size)) disk ≡ Data SUCCESS (concat disk.blocks)

-- after a Write of as many blocks as a unit has, its blocks are those
abbrev pub WholeWrite : Type 0
WholeWrite =
    (disk : Disk) (blocks : List (List ℕ)) → HasWholeBlocks disk.size disk.blocks → HasWholeBlocks disk.size blocks
    → (disk_after Done (Write 0 (concat blocks)) disk).blocks ≡ blocks

-- a request that is no transfer is executed if its unit has a drive
abbrev pub UnitRequestIsDone : Type 0
UnitRequestIsDone =
    (r : Request) (disk : Disk) (disks : Disks)
    → extent_of r.act ≡ None → slice_get disks r.unit ≡ Some (Some disk)
    → step r disks ≡ (answer_on Done r.act disk, slice_set disks r.unit (Some (disk_after Done r.act disk)))

-- a list is run by its first request and then by the others
abbrev pub FirstThenOthers : Type 0
FirstThenOthers =
    (r : Request) (rest : List Request) (disks next : Disks) (answer : Answer)
    → step r disks ≡ (answer, next)
    → run_in_order disks (r ∷ rest) ≡ (answer ∷ (run_in_order next rest).0, (run_in_order next rest).1)

-- a unit whose drive is write-protected, with these blocks
pub record HasProtected (blocks : List (List ℕ)) (slot : Option (Option Disk)) : Type 0 where
  pub disk : Disk
  pub here : slot ≡ Some (Some disk)
  pub hard : disk.mode.hard ≡ true
  pub blocks_are : disk.blocks ≡ blocks

-- no list of requests changes the blocks of a unit whose drive is write-protected
abbrev pub ProtectedStays : Type 0
ProtectedStays =
    (requests : List Request) (u : ℕ) (blocks : List (List ℕ)) (disks : Disks)
    → HasProtected blocks (slice_get disks u) → HasProtected blocks (slice_get (run_in_order disks requests).1 u)

-- nor does a list of requests of which transfers may fail
abbrev pub ProtectedStaysWithFailures : Type 0
ProtectedStaysWithFailures =
    (xs : List FixedRequest) (u : ℕ) (blocks : List (List ℕ)) (disks : Disks)
    → HasProtected blocks (slice_get disks u) → HasProtected blocks (slice_get (run_in_order_as disks xs).1 u)

-- the last answer of some has the last index
abbrev pub LastHasLastPlace : Type 0
LastHasLastPlace =
    (answers front : List Answer) (last : Answer)
    → answers ≡ front ++ last ∷ [] → slice_get answers (length answers - 1) ≡ Some last

-- the blocks of a unit; none if it has no drive
abbrev pub blocks_in : Option (Option Disk) → List (List ℕ)
blocks_in (Some (Some disk)) = disk.blocks
blocks_in _ = []

abbrev pub blocks_at : Disks → ℕ → List (List ℕ)
blocks_at disks u = blocks_in (slice_get disks u)

-- the size of a unit; 0 if it has no drive
abbrev pub size_in : Option (Option Disk) → ℕ
size_in (Some (Some disk)) = disk.size
size_in _ = 0

abbrev pub size_at : Disks → ℕ → ℕ
size_at disks u = size_in (slice_get disks u)

-- the disk of a unit, if it has a drive, has as many blocks as its size says, each of 512 bytes
abbrev pub HasWholeDisk : Option (Option Disk) → Type 0
HasWholeDisk (Some (Some disk)) = HasWholeBlocks disk.size disk.blocks
HasWholeDisk _ = Unit {0}

-- the blocks of each unit are the same, and whole disks are still whole
pub record HasSameBlocks (disks left : Disks) : Type 0 where
  pub same : (u : ℕ) → blocks_at left u ≡ blocks_at disks u
  pub whole : (u : ℕ) → HasWholeDisk (slice_get disks u) → HasWholeDisk (slice_get left u)
  pub sizes_stay : (u : ℕ) → size_at left u ≡ size_at disks u

-- a request that isn't a Write or an Erase leaves all blocks unchanged
abbrev pub BlocksStay : Type 0
BlocksStay =
    (o : TransferOutcome) (r : Request) (disks : Disks) → is_writing r.act ≡ false
    → HasSameBlocks disks (step_as o r disks).1

-- in a run of such requests, in which transfers may fail, each answer is that of its request on those blocks
abbrev pub AnsweredOnSameBlocks : Type 0
AnsweredOnSameBlocks =
    (xs : List FixedRequest) (disks : Disks) (k : ℕ) (r : Request) (answer : Answer)
    → All (λ q. is_writing q.act ≡ false) (requests_of xs) → slice_get (requests_of xs) k ≡ Some r
    → slice_get (run_in_order_as disks xs).0 k ≡ Some answer
    → (o : TransferOutcome) × ((now : Disks) × (HasSameBlocks disks now × ((step_as o r now).0 ≡ answer)))

-- a run of requests that are no Writes or Erases leaves all blocks unchanged
abbrev pub RunBlocksStay : Type 0
RunBlocksStay =
    (xs : List FixedRequest) (disks : Disks) → All (λ q. is_writing q.act ≡ false) (requests_of xs)
    → HasSameBlocks disks (run_in_order_as disks xs).1

-- a Read of whole blocks that succeeds returns their bytes; the blocks are on the unit
abbrev pub SuccessfulRead : Type 0
SuccessfulRead =
    (o : TransferOutcome) (u lbn count : ℕ) (disks : Disks) (bytes : List ℕ)
    → (step_as o (record { unit = u; act = Read lbn (512 * count) }) disks).0 ≡ Data SUCCESS bytes
    → HasWholeDisk (slice_get disks u)
    → (lbn + count ≤ length (blocks_at disks u)) × (bytes ≡ concat (part (blocks_at disks u) lbn count))

-- the blocks of a unit after these bytes were written from this block on: they are within its size, and no other unit
-- changed
pub record IsWritten (u lbn : ℕ) (payload : List ℕ) (disks left : Disks) : Type 0 where
  pub within : lbn + blocks_for (length payload) ≤ size_at disks u
  pub written : blocks_at left u ≡ put (blocks_at disks u) lbn (in_blocks payload)
  pub size_stays : size_at left u ≡ size_at disks u
  pub others_stay : (v : ℕ) → v ≢ u → slice_get left v ≡ slice_get disks v

-- a Write that succeeds replaces the blocks of its range, and no others
abbrev pub SuccessfulWrite : Type 0
SuccessfulWrite =
    (o : TransferOutcome) (u lbn : ℕ) (payload : List ℕ) (disks : Disks) (n : ℕ)
    → (step_as o (record { unit = u; act = Write lbn payload }) disks).0 ≡ Moved SUCCESS n
    → IsWritten u lbn payload disks (step_as o (record { unit = u; act = Write lbn payload }) disks).1

-- a Write of whole blocks, and a Read of the same blocks right after it
abbrev pub write_and_read : ℕ → ℕ → List ℕ → List Request
write_and_read u lbn payload =
    record { unit = u; act = Write lbn payload } ∷ record { unit = u; act = Read lbn (length payload) } ∷ []

-- what was written is read: if both succeed, the bytes are the payload
abbrev pub WrittenIsRead : Type 0
WrittenIsRead =
    (u lbn n : ℕ) (payload bytes : List ℕ) (units : Units) (left : Disks)
    → AreWellFormedIfSound units → is_sound_at (slice_get units u) ≡ true → length payload % 512 ≡ 0
    → InOrderWithFailures (disks_of units) (write_and_read u lbn payload)
    (Moved SUCCESS n ∷ Data SUCCESS bytes ∷ []) left
    → bytes ≡ payload
