-- Parts of files that are read ahead.
use Rattle.std.specs.Prelude.{◌≡◌, ◌⊎◌, ℕ, ◌+◌, ◌*◌, ◌≤◌, ◌<◌, Some, slice_get}
use Rattle.uda50_files.specs.declared.ahead.Part.{Part}
use Rattle.uda50_files.specs.declared.ahead.BlockRead.TheVariants.{Done}

-- a block of a part was read: at once with those before it, or by itself
abbrev pub IsRead : Part → ℕ → Type 0
IsRead part block = (512 * (block + 1) ≤ part.read) ⊎ (slice_get part.singly.items block ≡ Some Done)

-- so were all blocks that have some of these bytes
abbrev pub AreRead : Part → ℕ → ℕ → Type 0
AreRead part start end = (block : ℕ) → start < 512 * (block + 1) → 512 * block < end → IsRead part block
