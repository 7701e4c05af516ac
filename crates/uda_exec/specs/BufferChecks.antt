-- The order of the buffer checks among the checks of a transfer.
-- MSCP Basic Disk Functions Manual: transfer commands, status and event codes.
use Rattle.std.specs.Prelude.{ℕ, ◌+◌, ◌%◌, Bool, true, false, nat_eq, nat_lt, not, Option, Some, None}
use Rattle.std.specs.Prelude.{if◌then◌else◌}
use Rattle.uda_packet.specs.declared.transfer.Transfer.{Transfer}
use Rattle.uda_packet.specs.Transfer.{changes_blocks}
use Rattle.uda_disk.specs.declared.mode.Mode.{Mode}
use Rattle.uda_disk.specs.declared.refusal.Refusal.{Refusal}
use Rattle.uda_disk.specs.declared.refusal.Refusal.TheVariants.{UnitUnknown, NoVolume, NotOnline, OddAddress}
use Rattle.uda_disk.specs.declared.refusal.Refusal.TheVariants.{NoSuchMemory}
use Rattle.uda_disk.specs.Request.{Extent}
use Rattle.uda_disk.specs.RequestEffect.{first_failed_check, CheckResult, Rejected, Accepted, check_by}
use Rattle.uda_exec.specs.Commands.{transfer_buffer_length}

-- the checks before that of the buffer's address
abbrev pub precedes_address : Refusal → Bool
precedes_address UnitUnknown = true
precedes_address NoVolume = true
precedes_address NotOnline = true
precedes_address _ = false

-- an odd address is reported before every other failed check of the request, except these
abbrev pub odd_address_first : Bool → Refusal → Refusal
odd_address_first odd refusal = if precedes_address refusal then refusal else if odd then OddAddress else refusal

-- if no check of the request fails, an odd address is reported, or a buffer that isn't wholly in memory
abbrev pub with_buffer_checks : Bool → Bool → Option Refusal → Option Refusal
with_buffer_checks odd missing (Some refusal) = Some (odd_address_first odd refusal)
with_buffer_checks odd missing None = if odd then Some OddAddress else if missing then Some NoSuchMemory else None

abbrev pub check_with : Bool → Bool → CheckResult → CheckResult
check_with odd missing (Rejected refusal) = Rejected (odd_address_first odd refusal)
check_with odd missing (Accepted disk) = check_by (with_buffer_checks odd missing None) disk

-- a buffer at an odd address, and a buffer of this many bytes that isn't wholly in memory
abbrev pub is_odd : ℕ → Bool
is_odd address = not (nat_eq (address % 2) 0)

abbrev pub is_missing : ℕ → ℕ → ℕ → Bool
is_missing address bytes memory = nat_lt memory (address + bytes)

-- the range of a transfer
abbrev pub extent_in : Transfer → Extent
extent_in t = record { lbn = t.lbn; bytes = t.bytes; writes = changes_blocks t.kind }

-- all checks of a transfer on a unit with a drive: the result of the first that fails
abbrev pub transfer_refusal : Transfer → ℕ → ℕ → Mode → Option Refusal
transfer_refusal t memory size mode =
    with_buffer_checks (is_odd t.buffer) (is_missing t.buffer (transfer_buffer_length t) memory)
    (first_failed_check (extent_in t) size mode)
