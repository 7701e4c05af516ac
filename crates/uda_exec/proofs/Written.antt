-- The bytes of the blocks that a Write or an Erase writes.
use Rattle.std.proofs.Common.{◌≡◌, ℕ, ◌+◌, ◌-◌, ◌*◌, ◌≤◌, min, inl, inr, List, [], ◌++◌, length, Option, Some, None, IfSome, Bool, true, false, ◌&&◌, nat_lt, is_none, slice_get, if◌then◌else◌, take, drop, replicate, refl, sym, ap, ◌∙◌, arith}
use Rattle.std.specs.List.{concat}
use Rattle.std.proofs.lemmas.Bool.{cases_lt}
use Rattle.std.proofs.lemmas.List.{nil_from_length, take_all, take-take, drop-take, drop-append-le, take-append-le, take-replicate, drop-replicate, length-drop, length-replicate}
use Rattle.uda_mem.proofs.PutLaws.{length-part-le}
use Rattle.uda_image.proofs.AtOnceLaws.{concat-chunks}
use Rattle.uda_image.proofs.Chunk.{concat-first_chunks, first_chunks-replicate}
use Rattle.uda_packet.specs.declared.end.Kind.TheVariants.{Erase, Write}
use Rattle.uda_packet.specs.declared.guest_command.GuestCommand.{GuestCommand}
use Rattle.uda_disk.specs.declared.refusal.Refusal.{Refusal}
use Rattle.uda_exec.specs.declared.drive_unit.UnitInfo.{UnitInfo}
use Rattle.uda_exec.specs.BlockUse.{bytes_written, size_written, transfer_by, used_by, transfer_used}
use Rattle.uda_exec.specs.Disks.{ExecState}
use Rattle.uda_exec.specs.Drives.{info_at}
use Rattle.uda_exec.proofs.Transferred.{passes_if}
use Rattle.uda_exec.proofs.Words.{blocks_due, part, Transfer, changes_blocks, transfer_buffer_length, transfer_refusal, blocks_for, block_count, in_blocks}
use Rattle.std.proofs.lemmas.List.Elements.{All-nil}
use Rattle.uda_exec.proofs.Steps.{length-due_by, AreBlocks-due}
use Rattle.uda_exec.proofs.Blocks.{take_behind, length-concat_blocks, part-part, bytes_at-within}

-- the first n of bytes with zeros after them, however many zeros there are, if they suffice
padded : (bytes : List ℕ) (n m : ℕ) → n ≤ length bytes + m → take n (bytes ++ replicate n 0)
    ≡ take n (bytes ++ replicate m 0)
padded bytes n m room = elim (cases_lt n (length bytes)) [
  | inl fewer ↦ rw (
    take-append-le n bytes (replicate n 0) (omega arith),
    take-append-le n bytes (replicate m 0) (omega arith),
  ) refl
  | inr more ↦ rw (
    take_behind n (length bytes) bytes (replicate n 0) refl more,
    take_behind n (length bytes) bytes (replicate m 0) refl more,
    take-replicate {X = ℕ} (n - length bytes) n 0 (omega arith),
    take-replicate {X = ℕ} (n - length bytes) m 0 (omega arith),
  ) refl
]

-- a part of some first items
part-take : (xs : List ℕ) (at n m : ℕ) → at + n ≤ m → part (take m xs) at n ≡ part xs at n
unfolding part
part-take xs at n m within =
    let more : m ≡ at + (m - at) = omega arith in
    rw (more, drop-take at (m - at) xs) (take-take n (m - at) (drop at xs) (omega arith))

-- bytes of the blocks into which a buffer is divided, from byte `at` on
rest_of : (buffer : List ℕ) (at n : ℕ) → at ≤ length buffer → at + n ≤ 512 * blocks_for (length buffer)
    → take n (drop at buffer ++ replicate n 0) ≡ part (concat (in_blocks buffer)) at n
unfolding part
rest_of buffer at n there within =
    let k = blocks_for (length buffer) in
    rw (
      padded (drop at buffer) n 512 (omega (arith, length-drop at buffer)),
      ← drop-append-le at buffer (replicate 512 0) there,
      concat-chunks k (buffer ++ replicate 512 0),
      part-take (buffer ++ replicate 512 0) at n (512 * k) within,
    ) refl

-- blocks of zeros, joined
zeros_joined : (k : ℕ) → concat (replicate k (replicate 512 0)) ≡ replicate (512 * k) 0
zeros_joined k =
    let zeros : List ℕ = replicate (512 * k) 0 in
    let size : length zeros ≡ k * 512 = omega (arith, length-replicate {A = ℕ} (512 * k) 0) in
    sym (ap concat (first_chunks-replicate 512 k 0)) ∙ concat-first_chunks 512 k zeros size

module _ (t : Transfer) (memory : List ℕ) (skip n : ℕ) (within : 512 * skip + n ≤ size_written (Some t)) where
  pub write_written : t.kind ≡ Write → t.buffer + t.bytes ≤ length memory → (at : ℕ) → at ≡ min (512 * skip) t.bytes
      → take n (part memory (t.buffer + at) (t.bytes - at) ++ replicate n 0) ≡ part (bytes_written (Some t) memory)
      (512 * skip) n
  unfolding part
  write_written is room at least =
      let below : 512 * skip + n ≤ 512 * block_count t = rw is at within in
      let buffer : List ℕ = part memory t.buffer t.bytes in
      let size : length buffer ≡ t.bytes = length-part-le memory t.buffer t.bytes room in
      let rest : part memory (t.buffer + at) (t.bytes - at) ≡ drop at buffer =
      sym (part-part memory t.buffer t.bytes at (t.bytes - at) (omega arith))
      ∙ take_all (t.bytes - at) (drop at buffer) (omega (arith, size, length-drop at buffer)) in
      let due : concat (in_blocks buffer) ≡ bytes_written (Some t) memory =
      rw (is, bytes_at-within memory t.buffer t.bytes room) refl in
      rw rest (elim (cases_lt t.bytes (512 * skip)) [
        | inl past ↦ let none : n ≡ 0 = omega arith in rw none refl
        | inr there ↦
            let same : at ≡ 512 * skip = omega arith in
            rw (same, ← due) (rest_of buffer (512 * skip) n (omega (arith, size)) (rw size below))
      ])

  pub erase_written : t.kind ≡ Erase → take n ([] ++ replicate n 0) ≡ part (bytes_written (Some t) memory)
      (512 * skip) n
  unfolding part
  erase_written is =
      let below : 512 * skip + n ≤ 512 * block_count t = rw is at within in
      rw (
        is,
        zeros_joined,
        drop-replicate {X = ℕ} (512 * skip) (512 * block_count t) 0,
        take-replicate {X = ℕ} n n 0 (omega arith),
        take-replicate {X = ℕ} n (512 * block_count t - 512 * skip) 0 (omega arith),
      ) refl

  -- a transfer that writes no blocks has no bytes
  pub none_written : changes_blocks t.kind ≡ false → take n ([] ++ replicate n 0) ≡ part
      (bytes_written (Some t) memory) (512 * skip) n
  unfolding part
  none_written is = let none : n ≡ 0 = omega (arith, (rw is at within)) in rw none refl

-- the number of bytes of the blocks that a transfer writes
pub length-written : (used : Option Transfer) (memory : List ℕ) → length (bytes_written used memory) ≡ size_written used
length-written None memory = refl
length-written (Some t) memory = by_writes (changes_blocks t.kind) refl where
  by_writes : (writes : Bool) → changes_blocks t.kind ≡ writes
      → length (concat (if writes then blocks_due t [] memory else [])) ≡ (if writes then 512 * block_count t else 0)
  by_writes false is = refl
  by_writes true is =
      length-concat_blocks (blocks_due t [] memory)
      (AreBlocks-due t [] memory (λ some. All-nil (λ block. length block ≡ 512)))
      ∙ ap (λ n. 512 * n) (length-due_by t [] memory t.kind (λ reads. absurd (cc)))

-- a transfer that moves blocks has its buffer in memory
pub used_in_memory : (g : Option GuestCommand) (exec : ExecState) (memory : ℕ)
    → IfSome (transfer_used g exec memory) (λ t. t.buffer + transfer_buffer_length t ≤ memory)
used_in_memory None exec memory = tt
used_in_memory (Some g) exec memory = by_parts (transfer_by g.op g.command.op)
    (info_at (slice_get exec.units g.command.unit)) where
      by_parts : (t : Option Transfer) (info : Option UnitInfo)
          → IfSome (used_by t memory info) (λ t. t.buffer + transfer_buffer_length t ≤ memory)
      by_parts (Some t) (Some info) = by_check (transfer_refusal t memory info.size info.mode)
          (nat_lt 0 (block_count t)) refl where
            by_check : (r : Option Refusal) (some : Bool) → transfer_refusal t memory info.size info.mode ≡ r
                → IfSome (if is_none r && some then Some t else None)
                (λ t. t.buffer + transfer_buffer_length t ≤ memory)
            by_check None true is = (passes_if t memory info.size info.mode is).in_memory
            by_check _ some is = tt
      by_parts _ _ = tt

-- no bytes are a part of any
pub none_part : (to xs : List ℕ) (at : ℕ) → length to ≡ 0 → to ≡ part xs at (length to)
unfolding part
none_part to xs at none = rw (nil_from_length to none) refl
