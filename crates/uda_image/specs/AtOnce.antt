-- The effect on a store of reading, checking or writing several blocks at once. MSCP Basic Disk Functions Manual:
-- logical blocks.
use Rattle.std.specs.Prelude.{◌≡◌, ℕ, Bool, true, false, List}
use Rattle.std.specs.List.{concat}
use Rattle.std.specs.Simd.{first_chunks}
use Rattle.uda_mem.specs.Put.{put, part}
use Rattle.uda_image.specs.Store.{StoreState, CallsSucceed}

-- count blocks from block n were read; the store has not changed, except that count calls were made, and perhaps
-- which blocks are ready
pub record ReadsBlocks (old : StoreState) (n count : ℕ) (new : StoreState) (to : List ℕ) : Type 0 where
  pub value : to ≡ concat (part old.blocks n count)
  pub state_stays : new ≡ record old { failing_call = new.failing_call; ready = new.ready }
  pub calls : CallsSucceed count old.failing_call new.failing_call

-- nothing was read, and nothing changed
pub record ReadsNone (old new : StoreState) (to to_after : List ℕ) : Type 0 where
  pub bytes_stay : to_after ≡ to
  pub state_stays : new ≡ old

-- the effect of a read of several blocks at once, by its result
abbrev pub TriesToRead : StoreState → ℕ → ℕ → StoreState → List ℕ → List ℕ → Bool → Type 0
TriesToRead old n count new to to_after true = ReadsBlocks old n count new to_after
TriesToRead old n count new to to_after false = ReadsNone old new to to_after

-- count blocks from block n now hold those bytes, and no other block changed
pub record WritesBlocks (old : StoreState) (n count : ℕ) (new : StoreState) (from : List ℕ) : Type 0 where
  pub written : new ≡ record old {
    blocks = put old.blocks n (first_chunks 512 count from);
    failing_call = new.failing_call;
    ready = new.ready;
  }
  pub calls : CallsSucceed count old.failing_call new.failing_call

-- the effect of a write of several blocks at once, by its result
abbrev pub TriesToWrite : StoreState → ℕ → ℕ → StoreState → List ℕ → Bool → Type 0
TriesToWrite old n count new from true = WritesBlocks old n count new from
TriesToWrite old n count new from false = new ≡ old

-- count blocks were read, and their bytes were dropped; the store has not changed, except that count calls were made,
-- and perhaps which blocks are ready
pub record ChecksBlocks (old : StoreState) (count : ℕ) (new : StoreState) : Type 0 where
  pub state_stays : new ≡ record old { failing_call = new.failing_call; ready = new.ready }
  pub calls : CallsSucceed count old.failing_call new.failing_call
