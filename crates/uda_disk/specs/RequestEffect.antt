-- One array of blocks for each unit, and the effect of one request on it. MSCP Basic Disk Functions Manual:
-- the commands, unit states, write protection.
use Rattle.std.specs.Prelude.{◌≡◌, ℕ, suc, ◌+◌, ◌*◌, ◌%◌, ◌<◌, Bool, true, false, ◌&&◌, not, nat_lt, nat_le}
use Rattle.std.specs.Prelude.{nat_eq, List, [], length, take, replicate, Option, Some, None, slice_get}
use Rattle.std.specs.Prelude.{slice_set, if◌then◌else◌}
use Rattle.std.specs.List.{concat}
use Rattle.uda_mem.specs.Put.{part, put}
use Rattle.uda_disk.specs.declared.mode.Mode.{Mode}
use Rattle.uda_disk.specs.declared.refusal.Refusal.{Refusal}
use Rattle.uda_disk.specs.declared.refusal.Refusal.TheVariants.{UnitUnknown, NoVolume, NotOnline, OddAddress}
use Rattle.uda_disk.specs.declared.refusal.Refusal.TheVariants.{OddCount, BlockPastEnd, RangePastEnd}
use Rattle.uda_disk.specs.declared.refusal.Refusal.TheVariants.{HardwareProtected, SoftwareProtected}
use Rattle.uda_disk.specs.declared.refusal.Refusal.TheVariants.{NoSuchMemory}
use Rattle.uda_disk.specs.Status as status
use Rattle.uda_disk.specs.Status.{SUCCESS, ALREADY_ONLINE, AVAILABLE, DRIVE_ERROR}
use Rattle.uda_disk.specs.Disk.{Disk, Disks, flags_of}
use Rattle.uda_disk.specs.Request as ask
use Rattle.uda_disk.specs.Request.{Act, Request, Extent, extent_of, blocks_for, in_blocks, lbn_of}
use Rattle.uda_disk.specs.Answer.{Answer, Plain, Online, Status, Moved, Data, blank_answer}

-- ---- the checks of a request

-- the status that reports it
abbrev pub refusal_status : Refusal → ℕ
refusal_status UnitUnknown = status.UNIT_UNKNOWN
refusal_status NoVolume = status.NO_VOLUME
refusal_status NotOnline = AVAILABLE
refusal_status OddAddress = status.ODD_ADDRESS
refusal_status OddCount = status.ODD_COUNT
refusal_status BlockPastEnd = status.INVALID_BLOCK
refusal_status RangePastEnd = status.INVALID_COUNT
refusal_status HardwareProtected = status.HARDWARE_PROTECTED
refusal_status SoftwareProtected = status.SOFTWARE_PROTECTED
refusal_status NoSuchMemory = status.NO_SUCH_MEMORY

-- the checks of a transfer on a disk, in this order: the first that fails gives the status
abbrev pub first_failed_check : Extent → ℕ → Mode → Option Refusal
first_failed_check e size mode =
    if not mode.online then Some NotOnline else
    if not (nat_eq (e.bytes % 2) 0) then Some OddCount else
    if nat_le size e.lbn then Some BlockPastEnd else
    if nat_lt size (e.lbn + blocks_for e.bytes) then Some RangePastEnd else
    if e.writes && mode.hard then Some HardwareProtected else
    if e.writes && mode.soft then Some SoftwareProtected else None

abbrev pub refusal_on : Option Extent → ℕ → Mode → Option Refusal
refusal_on None size mode = None
refusal_on (Some e) size mode = first_failed_check e size mode

-- the checks reject a request, or it acts on the disk of its unit
pub data CheckResult : Type 0 where
  Rejected : Refusal → CheckResult
  Accepted : Disk → CheckResult

abbrev pub check_by : Option Refusal → Disk → CheckResult
check_by None disk = Accepted disk
check_by (Some refusal) disk = Rejected refusal

abbrev pub check_at : Act → Option (Option Disk) → CheckResult
check_at act None = Rejected UnitUnknown
check_at act (Some None) = Rejected NoVolume
check_at act (Some (Some disk)) = check_by (refusal_on (extent_of act) disk.size disk.mode) disk

abbrev pub check_result : Disks → Request → CheckResult
check_result disks r = check_at r.act (slice_get disks r.unit)

abbrev pub is_accepted : CheckResult → Bool
is_accepted (Rejected refusal) = false
is_accepted (Accepted disk) = true

-- ---- the outcome of a transfer

-- it succeeds, or it fails at block k of its range, counted from 0: the store failed there, and the block
-- now holds these 512 bytes
pub data TransferOutcome : Type 0 where
  Done : TransferOutcome
  Lost : ℕ → List ℕ → TransferOutcome

abbrev pub is_lost : TransferOutcome → Bool
is_lost Done = false
is_lost (Lost k left) = true

-- a failure lies in the range, and leaves a whole block there
abbrev pub IsWithinRange : ℕ → TransferOutcome → Type 0
IsWithinRange count Done = Unit {0}
IsWithinRange count (Lost k left) = (k < count) × (length left ≡ 512)

abbrev pub transfer_status : TransferOutcome → ℕ
transfer_status Done = SUCCESS
transfer_status (Lost k left) = DRIVE_ERROR

-- the byte count of a transfer: all, or the bytes of the blocks before the one that failed
abbrev pub transfer_bytes : TransferOutcome → ℕ → ℕ
transfer_bytes Done count = count
transfer_bytes (Lost k left) count = 512 * k

-- the blocks that an act has to move: those of its range, those of its payload, or zeros
abbrev pub due : Act → List (List ℕ) → List (List ℕ)
due (ask.Read lbn bytes) blocks = part blocks lbn (blocks_for bytes)
due (ask.Access lbn bytes) blocks = part blocks lbn (blocks_for bytes)
due (ask.Write lbn payload) blocks = in_blocks payload
due (ask.Erase lbn bytes) blocks = replicate (blocks_for bytes) (replicate 512 0)
due _ blocks = []

-- the blocks that were moved: all, or the first k and the content left at block k
abbrev pub blocks_moved : TransferOutcome → List (List ℕ) → List (List ℕ)
blocks_moved Done blocks = blocks
blocks_moved (Lost k left) blocks = slice_set (take (suc k) blocks) k left

-- ---- one request

-- the blocks of those moved that the unit then holds, and the bytes of those moved that the answer returns
abbrev pub blocks_written : Act → List (List ℕ) → List (List ℕ)
blocks_written (ask.Write lbn payload) blocks = blocks
blocks_written (ask.Erase lbn bytes) blocks = blocks
blocks_written _ blocks = []

abbrev pub data_read : Act → List (List ℕ) → List ℕ
data_read (ask.Read lbn bytes) blocks = take bytes (concat blocks)
data_read _ blocks = []

-- the mode after an act
abbrev pub mode_after : Act → Mode → Mode
mode_after ask.Available mode = record mode { online = false; soft = false }
mode_after (ask.Online protect) mode =
    if mode.online then mode else record mode { online = true; soft = protect }
mode_after _ mode = mode

abbrev pub disk_after : TransferOutcome → Act → Disk → Disk
disk_after outcome act disk = record {
  blocks = put disk.blocks (lbn_of act) (blocks_written act (blocks_moved outcome (due act disk.blocks)));
  size = disk.size;
  mode = mode_after act disk.mode;
}

-- the bytes that a Read puts in its buffer; if it fails, the content left at block k follows those that
-- count
abbrev pub bytes_on : TransferOutcome → Act → Disk → List ℕ
bytes_on outcome act disk = data_read act (blocks_moved outcome (due act disk.blocks))

-- the answer of an act on a disk
abbrev pub answer_on : TransferOutcome → Act → Disk → Answer
answer_on outcome (ask.Online protect) disk =
    Online (if disk.mode.online then ALREADY_ONLINE else SUCCESS)
    (flags_of (mode_after (ask.Online protect) disk.mode)) disk.size
answer_on outcome ask.Available disk = Plain SUCCESS
answer_on outcome ask.Status disk =
    Status (if disk.mode.online then SUCCESS else AVAILABLE) (flags_of disk.mode)
answer_on outcome (ask.Read lbn bytes) disk =
    Data (transfer_status outcome)
    (take (transfer_bytes outcome bytes) (bytes_on outcome (ask.Read lbn bytes) disk))
answer_on outcome (ask.Access lbn bytes) disk = Moved (transfer_status outcome) (transfer_bytes outcome bytes)
answer_on outcome (ask.Write lbn payload) disk =
    Moved (transfer_status outcome) (transfer_bytes outcome (length payload))
answer_on outcome (ask.Erase lbn bytes) disk = Moved (transfer_status outcome) (transfer_bytes outcome bytes)

abbrev pub answer_by : TransferOutcome → Act → CheckResult → Answer
answer_by outcome act (Rejected refusal) = blank_answer act (refusal_status refusal)
answer_by outcome act (Accepted disk) = answer_on outcome act disk

-- the disk of the unit after an act with this result of its checks
abbrev pub disk_by : TransferOutcome → Act → CheckResult → Disk → Disk
disk_by outcome act (Rejected refusal) old = old
disk_by outcome act (Accepted disk) old = disk_after outcome act disk

abbrev pub disks_by : TransferOutcome → Request → CheckResult → Disks → Disks
disks_by outcome r (Rejected refusal) disks = disks
disks_by outcome r (Accepted disk) disks = slice_set disks r.unit (Some (disk_after outcome r.act disk))

-- one request with a given outcome: its answer, and the disks afterwards
abbrev pub serve_by : TransferOutcome → Request → CheckResult → Disks → Answer × Disks
serve_by outcome r check_result disks = (answer_by outcome r.act check_result, disks_by outcome r check_result disks)

abbrev pub serve_as : TransferOutcome → Request → Disks → Answer × Disks
serve_as outcome r disks = serve_by outcome r (check_result disks r) disks
