-- The calls on stores that are sure to read or to write. MSCP Basic Disk Functions Manual: logical blocks, status codes,
-- drive error.
use Rattle.std.specs.Prelude.{◌≡◌, ℕ, true, List, Result, IsOk}
use Rattle.uda_image.specs.declared.store.StoreError.{StoreError}
use Rattle.uda_image.specs.Store.{StoreState, KeepsAttributes, ReadsBlock, WritesBlock, Reads, Writes, is_sound, is_sure_to_read, is_sure_to_write}

-- a store is sound and has not failed in a call, and a store that was sure to read or to write still is
pub record StaysSure (old new : StoreState) : Type 0 where
  pub sound : is_sound new ≡ true
  pub none_failed : new.failures ≡ old.failures
  pub sure_to_read : is_sure_to_read new ≡ is_sure_to_read old
  pub sure_to_write : is_sure_to_write new ≡ is_sure_to_write old

-- if a store is sure to read, a read that keeps the contract of stores returns the block
abbrev pub SureReads : Type 0
SureReads =
    (old new : StoreState) (n : ℕ) (to : List ℕ) (result : Result Unit StoreError)
    → is_sure_to_read old ≡ true → KeepsAttributes old new → (old.never_fails.reads ≡ true → IsOk result)
    → (old.faithful ≡ true → Reads old n new to result)
    → IsOk result × (ReadsBlock old n new to × StaysSure old new)

-- if a store is sure to write, a write that keeps the contract of stores replaces the block
abbrev pub SureWrites : Type 0
SureWrites =
    (old new : StoreState) (n : ℕ) (from : List ℕ) (result : Result Unit StoreError)
    → is_sure_to_write old ≡ true → KeepsAttributes old new → (old.never_fails.writes ≡ true → IsOk result)
    → (old.faithful ≡ true → Writes old n new from result)
    → IsOk result × (WritesBlock old n new from × StaysSure old new)
