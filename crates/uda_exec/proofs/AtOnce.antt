-- Several blocks of a transfer moved in one call, for each kind of transfer.
use Rattle.std.proofs.Common.{drop, zero, suc, ◌∷◌, ◌≡◌, ℕ, ◌+◌, ◌*◌, ◌≤◌, List, ◌++◌, length, take, replicate, refl, sym, ap, ◌∙◌, arith}
use Rattle.std.specs.Prelude.{true}
use Rattle.std.specs.List.{concat}
use Rattle.std.specs.Simd.{first_chunks}
use Rattle.std.proofs.lemmas.List.{take-take, drop-take, take_all, take-append-le, take-replicate, length-replicate, replicate-append-replicate}
use Rattle.uda_mem.proofs.PutLaws.{put-nil, put-part, put-put_next, length-part-le}
use Rattle.uda_packet.specs.declared.end.Kind.TheVariants.{Erase, Read, Write}
use Rattle.uda_image.specs.AtOnce.{ReadsBlocks, WritesBlocks, ChecksBlocks}
use Rattle.uda_image.proofs.AtOnceLaws.{take-chunks}
use Rattle.uda_image.proofs.Chunk.{first_chunks-replicate}
use Rattle.uda_exec.specs.Transfers.{Erased}
use Rattle.uda_exec.proofs.Words.{put, part, Transfer, StoreState, KeepsAttributes, HasWholeBlocks, blocks_for, block_count, in_blocks, bytes_at, ChangesAt, Progress}
use Rattle.uda_exec.proofs.Calls.{go_none, go_more}
use Rattle.uda_exec.proofs.Changes.{changes_by_put}
use Rattle.uda_exec.proofs.Steps.{progress_none}
use Rattle.uda_exec.proofs.Blocks.{take-part, AreBlocks-part, length-concat_blocks, bytes_at-within}
use Rattle.uda_image.specs.Store.{is_sound}

-- no byte past the chunks counts
chunks-front : (count : ℕ) (bytes : List ℕ) → first_chunks 512 count (take (512 * count) bytes)
    ≡ first_chunks 512 count bytes
chunks-front zero bytes = refl
chunks-front (suc count) bytes =
    let size : 512 * suc count ≡ 512 + 512 * count = omega arith in
    rw (size, take-take 512 (512 + 512 * count) bytes (omega arith), drop-take 512 (512 * count) bytes)
    (ap (λ (bs : List (List ℕ)). take 512 bytes ∷ bs) (chunks-front count (drop 512 bytes)))

-- nothing was moved, and nothing changed
pub none_ahead : (t : Transfer) (old new : StoreState) (memory memory_after : List ℕ) → new ≡ old
    → memory_after ≡ memory → Progress t 0 old memory new memory_after
none_ahead t old new memory memory_after same kept = rw (same, kept) (progress_none t old memory)

-- bytes at the front of a range changed no more than the range
pub changes_front : (old : List ℕ) (at n : ℕ) (to new : List ℕ) → new ≡ put old at to → length to ≤ n
    → ChangesAt old at n new
changes_front old at n to new landed size =
    rw landed (changes_by_put old at n at to (omega arith) (omega arith))

-- bytes equal to those in memory change nothing
pub same_put_back : (memory : List ℕ) (at n : ℕ) (to new : List ℕ) → new ≡ put memory at to
    → to ≡ part memory at n → new ≡ memory
same_put_back memory at n to new landed same = rw (landed, same) (put-part memory at n)

module _ (t : Transfer) (count : ℕ) (old : StoreState) (memory : List ℕ) (whole : 512 * count ≤ t.bytes) where
  pub reads_ahead : HasWholeBlocks old.size old.blocks → t.lbn + block_count t ≤ old.size → t.kind ≡ Read
      → (new : StoreState) (to after : List ℕ) → ReadsBlocks old t.lbn count new to
      → after ≡ put memory t.buffer to → Progress t count old memory new after
  reads_ahead image on_unit is new to after r stands =
      let here : List (List ℕ) = part old.blocks t.lbn count in
      let due : take count (part old.blocks t.lbn (block_count t)) ≡ here = take-part old.blocks t.lbn
      (block_count t) count (omega arith) in
      let many : length here ≡ count = length-part-le old.blocks t.lbn count (omega (arith, image.counted)) in
      let size : length (concat here) ≡ 512 * count = length-concat_blocks here
      (AreBlocks-part old.blocks t.lbn count (λ some. image.whole)) ∙ ap (λ i. 512 * i) many in
      let landed : to ≡ take t.bytes (concat (take count (part old.blocks t.lbn (block_count t)))) =
      rw (due, take_all t.bytes (concat here) (omega (arith, size))) r.value in
      record {
        stand = record {
          in_memory = rw (is, ← landed) stands;
          in_store = rw (is, r.state_stays, put-nil) refl;
        };
        failures_stay = rw r.state_stays refl;
        calls = r.calls;
      }

  pub writes_ahead : t.buffer + t.bytes ≤ length memory → t.kind ≡ Write → (new : StoreState)
      → WritesBlocks old t.lbn count new (part memory t.buffer (512 * count))
      → Progress t count old memory new memory
  writes_ahead room is new w =
      let bytes : List ℕ = part memory t.buffer t.bytes in
      let zeros : List ℕ = replicate 512 0 in
      let size : length bytes ≡ t.bytes = length-part-le memory t.buffer t.bytes room in
      let front : take (512 * count) (bytes ++ zeros) ≡ part memory t.buffer (512 * count) =
      take-append-le (512 * count) bytes zeros (omega (arith, size)) ∙ take-part memory t.buffer t.bytes
      (512 * count) whole in
      let due : take count (in_blocks (bytes_at memory t.buffer t.bytes)) ≡ first_chunks 512 count
      (part memory t.buffer (512 * count)) =
      rw (bytes_at-within memory t.buffer t.bytes room)
      (take-chunks count (blocks_for (length bytes)) (bytes ++ zeros) (omega (arith, size))
      ∙ sym (chunks-front count (bytes ++ zeros)) ∙ ap (first_chunks 512 count) front) in
      record {
        stand = record {
          in_memory = rw (is, put-nil) refl;
          in_store = rw (is, due, w.written) refl;
        };
        failures_stay = rw w.written refl;
        calls = w.calls;
      }

module _ (t : Transfer) (k count : ℕ) (old : StoreState) (memory : List ℕ) (now : StoreState)
    (memory_now : List ℕ)
    (h : Progress t k old memory now memory_now) (new : StoreState) where
  -- the zeros of `count` blocks follow those of the first k
  erased_on : k + count ≤ block_count t
      → put (put old.blocks t.lbn (take k (replicate (block_count t) (replicate 512 0)))) (t.lbn + k)
      (replicate count (replicate 512 0))
      ≡ put old.blocks t.lbn (take (k + count) (replicate (block_count t) (replicate 512 0)))
  erased_on within =
      let block : List ℕ = replicate 512 0 in
      rw (
        take-replicate k (block_count t) block (omega arith),
        take-replicate (k + count) (block_count t) block
            (omega arith),
      )
      (put-put_next old.blocks t.lbn (replicate k block) (replicate count block) (t.lbn + k) (rw length-replicate refl)
      ∙ ap (put old.blocks t.lbn) (replicate-append-replicate k count block))

  pub erases_on : t.kind ≡ Erase → k + count ≤ block_count t → Erased now (t.lbn + k) count new
      → Progress t (k + count) old memory new memory_now
  erases_on is within e =
      let before : now.blocks ≡ put old.blocks t.lbn (take k (replicate (block_count t) (replicate 512 0))) =
      rw is at h.stand.in_store in
      record {
        stand = record {
          in_memory = h.stand.in_memory ∙ rw is refl;
          in_store = rw (is, e.written, before) (erased_on within);
        };
        failures_stay = rw e.written h.failures_stay;
        calls = go_more k count old.failing_call now.failing_call new.failing_call h.calls e.calls;
      }

-- the invariant of blocks that are read in pieces and dropped
pub record Accessing (count done : ℕ) (old now : StoreState) : Type 0 where
  pub attributes : KeepsAttributes old now
  pub within : done ≤ count
  pub accessed : is_sound now ≡ true → ChecksBlocks old done now

-- the same of blocks that are erased
pub record Erasing (n count done : ℕ) (old now : StoreState) : Type 0 where
  pub attributes : KeepsAttributes old now
  pub within : done ≤ count
  pub erased : is_sound now ≡ true → Erased old n done now

pub erased_none : (old : StoreState) (n : ℕ) → Erased old n 0 old
erased_none old n = record {
  written = ap (λ (b : List (List ℕ)). record old { blocks = b }) (sym (put-nil old.blocks n));
  calls = go_none old.failing_call;
}

pub erased_more : (old now new : StoreState) (n done piece : ℕ) (from : List ℕ)
    → from ≡ replicate (512 * piece) 0 → Erased old n done now → WritesBlocks now (n + done) piece new from
    → Erased old n (done + piece) new
erased_more old now new n done piece from zeros before w =
    let block : List ℕ = replicate 512 0 in
    let both : put (put old.blocks n (replicate done block)) (n + done) (first_chunks 512 piece from)
    ≡ put old.blocks n (replicate (done + piece) block) =
    rw (zeros, first_chunks-replicate {A = ℕ} 512 piece 0) (put-put_next old.blocks n (replicate done block)
    (replicate piece block)
    (n + done) (rw length-replicate refl) ∙ ap (put old.blocks n) (replicate-append-replicate done piece block)) in
    record {
      written = w.written ∙ rw (before.written, both) refl;
      calls = go_more done piece old.failing_call now.failing_call new.failing_call before.calls w.calls;
    }
