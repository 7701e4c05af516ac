-- The comparison of one block.
-- MSCP Basic Disk Functions Manual: Compare Host Data.
use Rattle.std.specs.Prelude.{◌≡◌, ℕ, ◌+◌, ◌-◌, ◌*◌, ◌<◌, min, List, Option, Some, None}
use Rattle.uda_packet.specs.declared.transfer.Transfer.{Transfer}
use Rattle.uda_image.specs.Store.{StoreState}
use Rattle.uda_exec.specs.Compare.{AreSame, DiffersAt, byte_stored, byte_held}

-- the first of n bytes that differs, if any
abbrev pub FindsIn : ℕ → Option ℕ → (ℕ → ℕ) → (ℕ → ℕ) → Type 0
FindsIn n None f g = AreSame n f g
FindsIn n (Some at) f g = (at < n) × DiffersAt at f g

-- the number of bytes of block k of a range that are compared
abbrev pub count_at : Transfer → ℕ → ℕ
count_at t k = min (t.bytes - 512 * k) 512

abbrev pub FitsBlock : Transfer → ℕ → Option ℕ → Type 0
FitsBlock t k None = Unit {0}
FitsBlock t k (Some at) = at < count_at t k

-- block k of a range was read and compared, and the store is unchanged except for its calls
pub record ComparesBlock (t : Transfer) (k : ℕ) (found : Option ℕ) (old : StoreState) (memory : List ℕ)
    (new : StoreState) : Type 0 where
  pub finds : FindsIn (count_at t k) found (λ i. byte_stored t old.blocks (512 * k + i))
      (λ i. byte_held t memory (512 * k + i))
  pub blocks_stay : new.blocks ≡ old.blocks
  pub failures_stay : new.failures ≡ old.failures

-- the read of a block failed
pub record FailsAtRead (old new : StoreState) : Type 0 where
  pub blocks_stay : new.blocks ≡ old.blocks
  pub counted : new.failures ≡ old.failures + 1
