-- One block of a transfer, for each kind of transfer.
use Rattle.std.proofs.Common.{◌≡◌, ℕ, zero, suc, ◌+◌, ◌-◌, ◌*◌, ◌<◌, ◌≤◌, List, [], ◌∷◌, length, get_or, refl, sym, ap, ◌∙◌, arith, add-one, Result, Ok, Err}
use Rattle.std.specs.Prelude.{MatchResult, true, false, slice_set}
use Rattle.std.proofs.lemmas.List.{take_all}
use Rattle.std.proofs.lemmas.Option.{get_or_from_slice_get}
use Rattle.uda_mem.proofs.PutLaws.{put-nil, length-part-le}
use Rattle.uda_exec.proofs.Words.{put, part, changes_blocks, Transfer, StoreError, StoreState, Reads, Writes, block_count, changes_memory, in_blocks, bytes_at, first_block, blocks_due, bytes_landing_of, MovesBlock, FailsAtBlock}
use Rattle.uda_disk.proofs.InBlocks.{get_or-in_blocks}
use Rattle.uda_exec.proofs.Blocks.{bytes_at-within, part-part}

-- the possible results of one block's move
abbrev pub EndsBlock : Transfer → ℕ → StoreState → List ℕ → StoreState → List ℕ → Result Unit StoreError
    → Type 0
EndsBlock t k old memory new memory_after result =
    MatchResult result (λ _. MovesBlock t k old memory new memory_after)
    (λ _. FailsAtBlock t k old memory new memory_after)

set-put : (xs : List (List ℕ)) (n : ℕ) (x : List ℕ) → slice_set xs n x ≡ put xs n (x ∷ [])
unfolding put
set-put [] n x = refl
set-put (y ∷ ys) zero x = ap (λ (zs : List (List ℕ)). x ∷ zs) (sym (take_all (length ys) ys (omega arith)))
set-put (y ∷ ys) (suc n) x =
    let rest = set-put ys n x in rw add-one (ap (λ (zs : List (List ℕ)). y ∷ zs) (rw add-one at rest))

module _ (t : Transfer) (k : ℕ) (old : StoreState) (memory : List ℕ) (new : StoreState) where
  -- the store reads into memory itself, whether it fails or not
  pub reads_block : changes_blocks t.kind ≡ false
      → (to memory_after : List ℕ) (result : Result Unit StoreError) → length to ≡ 512
      → get_or (blocks_due t old.blocks memory) k [] ≡ get_or old.blocks (t.lbn + k) []
      → memory_after ≡ put memory (t.buffer + 512 * k) (bytes_landing_of t k to)
      → Reads old (t.lbn + k) new to result → EndsBlock t k old memory new memory_after result
  reads_block keeps to memory_after (Ok u) whole due e h = record {
    stands = record {
      in_memory = rw (due ∙ get_or_from_slice_get old.blocks (t.lbn + k) to [] h.value) e;
      in_store = rw (keeps, h.state_stays, put-nil) refl;
    };
    failures_stay = rw h.state_stays refl;
    calls = h.calls;
  }
  reads_block keeps to memory_after (Err f) whole due e h = record {
    left = to;
    whole = whole;
    stands = record {
      in_memory = e;
      in_store = rw (keeps, h.counted, put-nil) refl;
    };
    counted = rw h.counted refl;
    calls = h.calls;
  }

  pub writes_block : changes_blocks t.kind ≡ true → changes_memory t.kind ≡ false
      → (from : List ℕ) (result : Result Unit StoreError)
      → get_or (blocks_due t old.blocks memory) k [] ≡ from → Writes old (t.lbn + k) new from result
      → EndsBlock t k old memory new memory result
  writes_block changes keeps from (Ok u) due h = record {
    stands = record {
      in_memory = rw (keeps, put-nil) refl;
      in_store = rw (due, changes, h.written) (set-put old.blocks (t.lbn + k) from);
    };
    failures_stay = rw h.written refl;
    calls = h.calls;
  }
  writes_block changes keeps from (Err e) due h = record {
    left = h.left;
    whole = h.whole;
    stands = record {
      in_memory = rw (keeps, put-nil) refl;
      in_store = rw (changes, h.written) (set-put old.blocks (t.lbn + k) h.left);
    };
    counted = rw h.written refl;
    calls = h.calls;
  }

-- the block that a Write's buffer has at index k
pub due-Write : (t : Transfer) (k : ℕ) (memory : List ℕ) → k < block_count t
    → t.buffer + t.bytes ≤ length memory
    → get_or (in_blocks (bytes_at memory t.buffer t.bytes)) k []
    ≡ first_block (part memory (t.buffer + 512 * k) (t.bytes - 512 * k))
due-Write t k memory inside room =
    let rest : ℕ = t.bytes - 512 * k in
    let size = length-part-le memory t.buffer t.bytes room in
    rw (bytes_at-within memory t.buffer t.bytes room)
    (get_or-in_blocks k rest (part memory t.buffer t.bytes) (rw size inside) (omega (arith, size)) (omega (arith, size))
    ∙ ap first_block (part-part memory t.buffer t.bytes (512 * k) rest (omega arith)))
