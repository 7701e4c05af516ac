-- The blocks that a transfer moves, and its progress before block k of its range, counted from 0.
-- MSCP Basic Disk Functions Manual: transfer commands, logical blocks.
use Rattle.std.specs.Prelude.{◌≡◌, ℕ, Bool, true, Result, ◌+◌, ◌-◌, ◌*◌, List, [], ◌∷◌, ◌++◌, length, take}
use Rattle.std.specs.Prelude.{slice_index_or, replicate, if◌then◌else◌}
use Rattle.std.specs.List.{concat}
use Rattle.uda_mem.specs.Put.{put, part}
use Rattle.uda_image.specs.declared.store.StoreError.{StoreError}
use Rattle.uda_image.specs.Store.{StoreState, CallsSucceed, FailsAtCall, Reads, is_sound}
use Rattle.uda_packet.specs.declared.end.Kind.{Kind}
use Rattle.uda_packet.specs.declared.transfer.Transfer.{Transfer}
use Rattle.uda_packet.specs.Transfer.{changes_blocks}
use Rattle.uda_disk.specs.RequestEffect.{due}
use Rattle.uda_exec.specs.Commands.{changes_memory, asks_by}

-- the blocks that a transfer must move
abbrev pub due_by : Kind → Transfer → List (List ℕ) → List ℕ → List (List ℕ)
due_by kind t blocks memory = due (asks_by kind t memory) blocks

abbrev pub blocks_due : Transfer → List (List ℕ) → List ℕ → List (List ℕ)
blocks_due t blocks memory = due_by t.kind t blocks memory

-- of the moved blocks, the bytes that are in memory then, no more than the byte count, and the blocks that
-- are on the unit
abbrev pub bytes_landing : Transfer → List (List ℕ) → List ℕ
bytes_landing t blocks = if changes_memory t.kind then take t.bytes (concat blocks) else []

abbrev pub blocks_stored : Transfer → List (List ℕ) → List (List ℕ)
blocks_stored t blocks = if changes_blocks t.kind then blocks else []

-- the same of block k only: of a partial block as many bytes as the byte count includes
abbrev pub bytes_landing_of : Transfer → ℕ → List ℕ → List ℕ
bytes_landing_of t k block = if changes_memory t.kind then take (t.bytes - 512 * k) block else []

-- whether no call of a transfer of this kind fails: those of a Write or an Erase are writes, all others are reads
abbrev pub never_fails_in : Kind → StoreState → Bool
never_fails_in kind store = if changes_blocks kind then store.never_fails.writes else store.never_fails.reads

-- memory changed at most in n bytes from the given address on
abbrev pub ChangesAt : List ℕ → ℕ → ℕ → List ℕ → Type 0
ChangesAt old at n new = new ≡ put old at (part new at n)

-- a read of block n by its result, of which the first bytes are in memory from an address on
pub record ReadsInto (n at bytes : ℕ) (old : StoreState) (memory : List ℕ) (new : StoreState)
    (memory_after : List ℕ) (result : Result Unit StoreError) : Type 0 where
  pub to : List ℕ
  pub whole : length to ≡ 512
  pub landed : memory_after ≡ put memory at (take bytes to)
  pub reads : old.faithful ≡ true → Reads old n new to result
  pub reads_if_sound : is_sound new ≡ true → Reads old n new to result

-- this block is now at index k of the transfer, in memory or on the unit as the kind requires
pub record Stands (t : Transfer) (k : ℕ) (block : List ℕ) (old : StoreState) (memory : List ℕ)
    (new : StoreState) (memory_after : List ℕ) : Type 0 where
  pub in_memory : memory_after ≡ put memory (t.buffer + 512 * k) (bytes_landing_of t k block)
  pub in_store : new.blocks ≡ put old.blocks (t.lbn + k) (blocks_stored t (block ∷ []))

-- block k was moved
pub record MovesBlock (t : Transfer) (k : ℕ) (old : StoreState) (memory : List ℕ) (new : StoreState)
    (memory_after : List ℕ) : Type 0 where
  pub stands : Stands t k (slice_index_or (blocks_due t old.blocks memory) k []) old memory new memory_after
  pub failures_stay : new.failures ≡ old.failures
  pub calls : CallsSucceed 1 old.failing_call new.failing_call

-- the store failed at block k, which now has any 512 bytes
pub record FailsAtBlock (t : Transfer) (k : ℕ) (old : StoreState) (memory : List ℕ) (new : StoreState)
    (memory_after : List ℕ) : Type 0 where
  pub left : List ℕ
  pub whole : length left ≡ 512
  pub stands : Stands t k left old memory new memory_after
  pub counted : new.failures ≡ old.failures + 1
  pub calls : FailsAtCall 0 old.failing_call new.failing_call

-- these blocks are now at the start of the transfer
pub record Stand (t : Transfer) (blocks : List (List ℕ)) (old : StoreState) (memory : List ℕ)
    (new : StoreState) (memory_after : List ℕ) : Type 0 where
  pub in_memory : memory_after ≡ put memory t.buffer (bytes_landing t blocks)
  pub in_store : new.blocks ≡ put old.blocks t.lbn (blocks_stored t blocks)

-- the first k blocks were moved, and the store never failed
pub record Progress (t : Transfer) (k : ℕ) (old : StoreState) (memory : List ℕ) (new : StoreState)
    (memory_after : List ℕ) : Type 0 where
  pub stand : Stand t (take k (blocks_due t old.blocks memory)) old memory new memory_after
  pub failures_stay : new.failures ≡ old.failures
  pub calls : CallsSucceed k old.failing_call new.failing_call

-- the first k blocks were moved, and then the store failed at block k, which now has any 512 bytes
pub record StopsAt (t : Transfer) (k : ℕ) (old : StoreState) (memory : List ℕ) (new : StoreState)
    (memory_after : List ℕ) : Type 0 where
  pub left : List ℕ
  pub whole : length left ≡ 512
  pub stand : Stand t (take k (blocks_due t old.blocks memory) ++ left ∷ []) old memory new memory_after
  pub counted : new.failures ≡ old.failures + 1
  pub calls : FailsAtCall k old.failing_call new.failing_call

-- From block k of the range on, `count` more blocks are moved. Whatever blocks a transfer had moved before,
-- it has moved these too, and memory is unchanged.
abbrev pub MovesOn : Transfer → ℕ → ℕ → StoreState → StoreState → Type 0
MovesOn t k count now new = (old : StoreState) (memory memory_now : List ℕ)
    → Progress t k old memory now memory_now → Progress t (k + count) old memory new memory_now

-- `count` blocks from block n on are zeros, and nothing else changed
pub record Erased (old : StoreState) (n count : ℕ) (new : StoreState) : Type 0 where
  pub written : new ≡ record old {
    blocks = put old.blocks n (replicate count (replicate 512 0));
    failing_call = new.failing_call;
    ready = new.ready;
  }
  pub calls : CallsSucceed count old.failing_call new.failing_call
