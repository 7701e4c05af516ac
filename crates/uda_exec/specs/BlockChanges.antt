-- What a command changes of the blocks of each unit: only those that it uses.
-- MSCP Basic Disk Functions Manual: transfer commands, drive error.
use Rattle.std.specs.Prelude.{◌≡◌, ◌≤◌, ℕ, ◌+◌, ◌*◌, ◌==◌, Bool, true, false, List, length}
use Rattle.std.specs.Prelude.{Option, Some, None, slice_get, if◌then◌else◌}
use Rattle.uda_mem.specs.Put.{put}
use Rattle.uda_disk.specs.Laws.{blocks_at, size_at}
use Rattle.uda_disk.specs.Request.{in_blocks}
use Rattle.uda_disk.specs.RequestEffect.{TransferOutcome, IsWithinRange, blocks_moved, is_lost}
use Rattle.uda_disk.specs.Units.{Units, disks_of, failures_at, is_sound_at}
use Rattle.uda_exec.specs.declared.block_use.BlockAccess.{BlockAccess}
use Rattle.uda_exec.specs.declared.block_use.BlockAccess.TheVariants.{Writes}
use Rattle.uda_exec.specs.declared.block_use.BlockUse.{BlockUse}

-- the blocks that a command uses, if they are of this unit
abbrev pub use_on : ℕ → Option BlockUse → Option BlockUse
use_on u None = None
use_on u (Some used) = if u == used.unit then Some used else None

abbrev pub are_written : BlockAccess → Bool
are_written Writes = true
are_written _ = false

-- no block of a unit changes, and its store doesn't fail
pub record LeavesUnit (u : ℕ) (old new : Units) : Type 0 where
  pub blocks_stay : blocks_at (disks_of new) u ≡ blocks_at (disks_of old) u
  pub failures_stay : failures_at (slice_get new u) ≡ failures_at (slice_get old u)

-- A command uses blocks of a unit. If it writes them, it has 512 bytes for each, and otherwise none. These bytes are
-- written: all of them, or those before a block at which the store fails. That block then has any 512 bytes.
-- No other block changes. The store fails once more exactly if it fails at a block.
pub record UsesUnit (used : BlockUse) (bytes : List ℕ) (u : ℕ) (old new : Units) : Type 0 where
  pub on_unit : used.first + used.count ≤ size_at (disks_of old) u
  pub size : length bytes ≡ (if are_written used.access then 512 * used.count else 0)
  pub outcome : TransferOutcome
  pub within : IsWithinRange used.count outcome
  pub written : blocks_at (disks_of new) u
      ≡ put (blocks_at (disks_of old) u) used.first (blocks_moved outcome (in_blocks bytes))
  pub failures_are : failures_at (slice_get new u)
      ≡ failures_at (slice_get old u) + (if is_lost outcome then 1 else 0)

abbrev pub ChangesUnit : Option BlockUse → List ℕ → ℕ → Units → Units → Type 0
ChangesUnit None bytes u old new = LeavesUnit u old new
ChangesUnit (Some used) bytes u old new = UsesUnit used bytes u old new

-- the same of each unit whose store is sound afterwards
abbrev pub ChangesOnly : Option BlockUse → List ℕ → Units → Units → Type 0
ChangesOnly used bytes old new =
    (u : ℕ) → is_sound_at (slice_get new u) ≡ true → ChangesUnit (use_on u used) bytes u old new
