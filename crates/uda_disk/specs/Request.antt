-- The requests to a unit. MSCP Basic Disk Functions Manual: the commands, logical blocks.
use Rattle.std.specs.Prelude.{ℕ, ◌+◌, ◌/◌, ◌%◌, min, Bool, true, false, List, ◌++◌, length, take, replicate}
use Rattle.std.specs.Prelude.{Option, Some, None, is_some}
use Rattle.std.specs.Option.{option_map_or}
use Rattle.std.specs.Simd.{first_chunks}

-- the last four are transfers: of a number of bytes from the start of block lbn, or of these bytes
pub data Act : Type 0 where
  Online : (protect : Bool) → Act
  Available : Act
  Status : Act
  Read : (lbn bytes : ℕ) → Act
  Access : (lbn bytes : ℕ) → Act
  Write : (lbn : ℕ) (payload : List ℕ) → Act
  Erase : (lbn bytes : ℕ) → Act

pub record Request : Type 0 where
  pub unit : ℕ
  pub act : Act

-- the number of blocks that this many bytes take: the last may be a partial block
abbrev pub blocks_for : ℕ → ℕ
blocks_for bytes = bytes / 512 + min 1 (bytes % 512)

-- these bytes divided into blocks; the last one is filled with zeros
abbrev pub in_blocks : List ℕ → List (List ℕ)
in_blocks bytes = first_chunks 512 (blocks_for (length bytes)) (bytes ++ replicate 512 0)

-- the first block of these bytes, filled with zeros if there are fewer than 512
abbrev pub first_block : List ℕ → List ℕ
first_block bytes = take 512 (bytes ++ replicate 512 0)

-- the range of a transfer: its first block, its number of bytes, and whether it changes its blocks
pub record Extent : Type 0 where
  pub lbn : ℕ
  pub bytes : ℕ
  pub writes : Bool

abbrev pub extent_of : Act → Option Extent
extent_of (Read lbn bytes) = Some (record { lbn = lbn; bytes = bytes; writes = false })
extent_of (Access lbn bytes) = Some (record { lbn = lbn; bytes = bytes; writes = false })
extent_of (Write lbn payload) = Some (record { lbn = lbn; bytes = length payload; writes = true })
extent_of (Erase lbn bytes) = Some (record { lbn = lbn; bytes = bytes; writes = true })
extent_of _ = None

-- the same for any act: one that isn't a transfer has no blocks
abbrev pub is_moving : Act → Bool
is_moving act = is_some (extent_of act)

abbrev pub is_writing : Act → Bool
is_writing act = option_map_or (λ e. e.writes) (extent_of act) false

abbrev pub lbn_of : Act → ℕ
lbn_of act = option_map_or (λ e. e.lbn) (extent_of act) 0

abbrev pub blocks_named : Act → ℕ
blocks_named act = option_map_or (λ e. blocks_for e.bytes) (extent_of act) 0
