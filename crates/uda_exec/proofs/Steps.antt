-- A transfer block by block: the effect of the first k blocks, one block more, and the end message.
use Rattle.std.proofs.Common.{zero-le, ◌≡◌, ℕ, suc, ◌+◌, ◌-◌, ◌*◌, ◌<◌, ◌≤◌, Bool, true, false, List, [], ◌∷◌, ◌++◌, length, get_or, take, replicate, refl, sym, ap, ◌∙◌, arith, add-one}
use Rattle.std.specs.Prelude.{if◌then◌else◌}
use Rattle.std.specs.List.{concat}
use Rattle.std.proofs.lemmas.List.{take_more, take_all, length-take-le, length-replicate}
use Rattle.std.proofs.lemmas.List.Elements.{All-replicate}
use Rattle.uda_mem.proofs.PutLaws.{put-nil, put-put_next, length-part}
use Rattle.uda_packet.specs.declared.end.Kind.TheVariants.{Erase, Write}
use Rattle.uda_image.specs.StoreLaws.{length-first_chunks}
use Rattle.uda_exec.proofs.Words.{put, part, Kind, Transfer, changes_blocks, StoreState, KeepsAttributes, HasWholeBlocks, blocks_for, bytes_at, block_count, transfer_buffer_length, changes_memory, ChangesAt, due_by, blocks_due, Stands, MovesBlock, FailsAtBlock, Progress, StopsAt, MovesOn}
use Rattle.uda_exec.proofs.Changes.{changes_again}
use Rattle.uda_exec.proofs.Calls.{go_none, go_next, fails_then}
use Rattle.uda_exec.specs.Transfers.{Stand}
use Rattle.uda_exec.proofs.Blocks.{length-concat_take, concat_push, take_behind, AreBlocks, AreBlocks-part, AreBlocks-in_blocks, length-bytes_at}
use Rattle.uda_image.specs.Store.{is_sound}
use Rattle.uda_image.proofs.SoundLaws.{sound_before}

length-part_there : (blocks : List (List ℕ)) (at n : ℕ) → (0 < n → at + n ≤ length blocks)
    → length (part blocks at n) ≡ n
length-part_there blocks at n there = grind (arith, length-part blocks at n)

module _ (t : Transfer) (blocks : List (List ℕ)) (memory : List ℕ) where
  -- as many blocks as the count needs; if there are any, those of a Read or an Access are on the unit
  pub length-due_by : (kind : Kind)
      → (changes_blocks kind ≡ false → 0 < block_count t → t.lbn + block_count t ≤ length blocks)
      → length (due_by kind t blocks memory) ≡ block_count t
  length-due_by Erase on_unit = length-replicate (block_count t) (replicate 512 0)
  length-due_by Write on_unit =
      let bytes = bytes_at memory t.buffer t.bytes in
      length-first_chunks (blocks_for (length bytes)) (bytes ++ replicate 512 0)
      ∙ ap blocks_for (length-bytes_at memory t.buffer t.bytes)
  length-due_by _ on_unit = length-part_there blocks t.lbn (block_count t) (on_unit refl)

  -- if the unit's blocks are whole, or there are none to move
  pub AreBlocks-due_by : (0 < block_count t → AreBlocks blocks) → (kind : Kind)
      → AreBlocks (due_by kind t blocks memory)
  AreBlocks-due_by are Erase = All-replicate (λ b. length b ≡ 512) (block_count t) (replicate 512 0) refl
  AreBlocks-due_by are Write = AreBlocks-in_blocks (bytes_at memory t.buffer t.bytes)
  AreBlocks-due_by are _ = AreBlocks-part blocks t.lbn (block_count t) are

  pub AreBlocks-due : (0 < block_count t → AreBlocks blocks) → AreBlocks (blocks_due t blocks memory)
  AreBlocks-due are = AreBlocks-due_by are t.kind

-- the blocks to move don't change during the transfer: a Read leaves the blocks unchanged, a Write memory
due_by-stays : (kind : Kind) (t : Transfer) (blocks : List (List ℕ)) (memory bytes : List ℕ)
    (blocks_written : List (List ℕ)) (at place : ℕ)
    → due_by kind t (put blocks place (if changes_blocks kind then blocks_written else []))
    (put memory at (if changes_memory kind then bytes else [])) ≡ due_by kind t blocks memory
due_by-stays Erase t blocks memory bytes blocks_written at place = refl
due_by-stays Write t blocks memory bytes blocks_written at place = rw put-nil refl
due_by-stays _ t blocks memory bytes blocks_written at place =
    rw put-nil refl

-- more after what is there, if there is any
more_behind : {A : Type 0} (b : Bool) (xs : List A) (at n : ℕ) (front more : List A) → length front ≡ n
    → put (put xs at (if b then front else [])) (at + n) (if b then more else [])
    ≡ put xs at (if b then front ++ more else [])
more_behind true xs at n front more size = put-put_next xs at front more (at + n) (omega arith)
more_behind false xs at n front more size = put-nil _ _

-- and the same with bytes of which no more than the count are written
landing_behind : (b : Bool) (memory : List ℕ) (at count n : ℕ) (front more : List ℕ) → length front ≡ n
    → n ≤ count
    → put (put memory at (if b then take count front else [])) (at + n)
    (if b then take (count - n) more else []) ≡ put memory at (if b then take count (front ++ more) else [])
landing_behind true memory at count n front more size fits =
    rw (take_all count front (omega arith), take_behind count n front more size fits)
    (put-put_next memory at front (take (count - n) more) (at + n) (omega arith))
landing_behind false memory at count n front more size fits = put-nil _ _

module _ (t : Transfer) (k : ℕ) (old : StoreState) (memory : List ℕ) (now : StoreState) (memory_now : List ℕ)
    (image : HasWholeBlocks old.size old.blocks) (on_unit : t.lbn + block_count t ≤ old.size)
    (in_memory : t.buffer + transfer_buffer_length t ≤ length memory) (inside : k < block_count t)
    (h : Progress t k old memory now memory_now) where
  abbrev front : List (List ℕ)
  front = take k (blocks_due t old.blocks memory)

  all_due : length (blocks_due t old.blocks memory) ≡ block_count t
  all_due = length-due_by t old.blocks memory t.kind (λ reads some. rw image.counted on_unit)

  -- the next block of any content follows the first k
  joins : (x : List ℕ) (new : StoreState) (memory_after : List ℕ)
      → Stands t k x now memory_now new memory_after
      → Stand t (front ++ x ∷ []) old memory new memory_after
  joins x new memory_after s =
      let due = blocks_due t old.blocks memory in
      let bytes = length-concat_take due k (AreBlocks-due t old.blocks memory (λ some. image.whole))
      (omega (arith, all_due)) in
      record {
        in_memory = rw (s.in_memory, h.stand.in_memory, concat_push)
            (landing_behind (changes_memory t.kind) memory t.buffer
            t.bytes (512 * k) (concat front) x bytes (omega arith));
        in_store = rw (s.in_store, h.stand.in_store) (more_behind (changes_blocks t.kind) old.blocks t.lbn k front
            (x ∷ [])
            (length-take-le k due (omega (arith, all_due))));
      }

  pub progress_next : (new : StoreState) (memory_after : List ℕ)
      → MovesBlock t k now memory_now new memory_after → Progress t (suc k) old memory new memory_after
  progress_next new memory_after m =
      let piece = get_or (blocks_due t old.blocks memory) k [] in
      let same : blocks_due t now.blocks memory_now ≡ blocks_due t old.blocks memory =
      rw (h.stand.in_store, h.stand.in_memory)
      (due_by-stays t.kind t old.blocks memory (take t.bytes (concat front)) front t.buffer t.lbn) in
      let stands : Stands t k piece now memory_now new memory_after = rw same at m.stands in
      let below : k < length (blocks_due t old.blocks memory) = omega (arith, all_due) in
      let more : take (suc k) (blocks_due t old.blocks memory) ≡ front ++ piece ∷ [] =
      rw (← add-one) (take_more (blocks_due t old.blocks memory) k [] below) in
      record {
        stand = rw more (joins piece new memory_after stands);
        failures_stay = m.failures_stay ∙ h.failures_stay;
        calls = go_next k _ _ _ h.calls m.calls;
      }

  pub progress_stops : (new : StoreState) (memory_after : List ℕ)
      → FailsAtBlock t k now memory_now new memory_after → StopsAt t k old memory new memory_after
  progress_stops new memory_after m = record {
    left = m.left;
    whole = m.whole;
    stand = joins m.left new memory_after m.stands;
    counted = rw h.failures_stay at m.counted;
    calls = fails_then k _ _ _ h.calls m.calls;
  }

pub nothing_if : {A : Type 0} (b : Bool) (xs : List A) → xs ≡ [] → (if b then xs else []) ≡ []
nothing_if true xs none = none
nothing_if false xs none = refl

pub progress_none : (t : Transfer) (old : StoreState) (memory : List ℕ) → Progress t 0 old memory old memory
progress_none t old memory = record {
  stand = record {
    in_memory = sym (ap (put memory t.buffer) (nothing_if (changes_memory t.kind) _
        (take_all {A = ℕ} t.bytes [] zero-le))
        ∙ put-nil memory t.buffer);
    in_store = sym (ap (put old.blocks t.lbn) (nothing_if (changes_blocks t.kind) [] refl) ∙ put-nil old.blocks t.lbn);
  };
  failures_stay = refl;
  calls = go_none old.failing_call;
}

-- the blocks from the start on are all that is moved
pub from_start : (t : Transfer) (count : ℕ) (old : StoreState) (memory : List ℕ) (new : StoreState)
    → MovesOn t 0 count old new → Progress t count old memory new memory
from_start t count old memory new moves =
    let same : 0 + count ≡ count = omega arith in rw same at (moves old memory memory (progress_none t old memory))

-- the invariant before block k
pub record OnTheWay (t : Transfer) (k : ℕ) (old now : StoreState) (memory memory_now : List ℕ) : Type 0 where
  pub within : k ≤ block_count t
  pub attributes : KeepsAttributes old now
  pub changes : ChangesAt memory t.buffer (if changes_memory t.kind then t.bytes else 0) memory_now
  pub moves : (0 < block_count t → is_sound now ≡ true) → Progress t k old memory now memory_now

pub both_natures : {old now new : StoreState} → KeepsAttributes old now → KeepsAttributes now new
    → KeepsAttributes old new
both_natures was is = record {
  size_stays = is.size_stays ∙ was.size_stays;
  faithful_stays = is.faithful_stays ∙ was.faithful_stays;
  honest_before = λ honest. was.honest_before (is.honest_before honest);
  never_fails_stays = is.never_fails_stays ∙ was.never_fails_stays;
  lent_stays = is.lent_stays ∙ was.lent_stays;
}

module _ {t : Transfer} {k : ℕ} {old now : StoreState} {memory memory_now : List ℕ}
    (way : OnTheWay t k old now memory memory_now) {new : StoreState} (is : KeepsAttributes now new) where
  -- one block more
  pub way_next : (image : is_sound old ≡ true → HasWholeBlocks old.size old.blocks)
      → t.lbn + block_count t ≤ old.size → t.buffer + transfer_buffer_length t ≤ length memory → k < block_count t
      → (memory_after : List ℕ) → ChangesAt memory_now t.buffer (if changes_memory t.kind then t.bytes else 0)
      memory_after
      → (is_sound new ≡ true → MovesBlock t k now memory_now new memory_after)
      → OnTheWay t (k + 1) old new memory memory_after
  way_next image on_unit in_memory inside memory_after changes moves = record {
    within = omega (arith, inside);
    attributes = both_natures way.attributes is;
    changes = changes_again _ _ _ _ _ way.changes changes;
    moves = λ called.
        let sound = called (omega (arith, inside)) in
        let before = sound_before is sound in
        rw add-one (progress_next t k old memory now memory_now (image (sound_before way.attributes before)) on_unit
        in_memory inside (way.moves (λ some. before)) new memory_after (moves sound));
  }

  -- `count` blocks more, which leave memory unchanged
  pub way_on : (count : ℕ) → k + count ≤ block_count t → 0 < block_count t
      → (is_sound new ≡ true → MovesOn t k count now new) → OnTheWay t (k + count) old new memory memory_now
  way_on count within some moves = record {
    within = within;
    attributes = both_natures way.attributes is;
    changes = way.changes;
    moves = λ called. moves (called some) old memory memory_now
        (way.moves (λ some. sound_before is (called some)));
  }
