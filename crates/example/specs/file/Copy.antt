-- The copy of 64 blocks from unit 0 to unit 1.
use Rattle.std.specs.Prelude.{◌≡◌, ℕ, ◌≤◌, List, [], ◌∷◌, length}
use Rattle.uda_mem.specs.Put.{part, put}
use Rattle.uda_disk.specs.Answer.{Answer, Moved}
use Rattle.uda_disk.specs.Status.{SUCCESS}
use Rattle.uda_disk.specs.Units.{Units, disks_of}
use Rattle.uda_disk.specs.Laws.{blocks_at}

-- the first 64 blocks of unit 1 are those of unit 0, and both units have them; all other blocks are unchanged
pub record IsCopied (units units_after : Units) : Type 0 where
  pub on_source : 64 ≤ length (blocks_at (disks_of units) 0)
  pub on_target : 64 ≤ length (blocks_at (disks_of units) 1)
  pub source_stays : blocks_at (disks_of units_after) 0 ≡ blocks_at (disks_of units) 0
  pub copied : blocks_at (disks_of units_after) 1
      ≡ put (blocks_at (disks_of units) 1) 0 (part (blocks_at (disks_of units) 0) 0 64)

-- the answers of two Writes that succeeded
pub record AreBothWritten (told : List Answer) : Type 0 where
  pub first : ℕ
  pub second : ℕ
  pub are : told ≡ Moved SUCCESS first ∷ Moved SUCCESS second ∷ []
