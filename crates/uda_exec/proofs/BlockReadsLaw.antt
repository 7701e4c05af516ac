-- What a command reads of the blocks of its unit.
use Rattle.std.proofs.Common.{ap₂, ◌≡◌, ◌∙◌, ℕ, Bool, false, List, Option, Some, None, refl, sym, ap}
use Rattle.std.specs.Prelude.{length, slice_get}
use Rattle.uda_packet.specs.declared.command.Command.{Command}
use Rattle.uda_packet.specs.declared.end.End.{End}
use Rattle.uda_disk.specs.declared.mode.Mode.{Mode}
use Rattle.uda_disk.specs.declared.refusal.Refusal.{Refusal}
use Rattle.uda_disk.specs.Disk.{Disk, Disks}
use Rattle.uda_disk.specs.Request.{Act, Access, Read, extent_of}
use Rattle.uda_disk.specs.RequestEffect.{CheckResult, check_by, refusal_on, check_at, TransferOutcome, due, answer_on, answer_by}
use Rattle.uda_disk.specs.Units.{disks_of}
use Rattle.uda_exec.specs.Commands.{act_of, buffer_start, buffer_length}
use Rattle.uda_exec.specs.BufferChecks.{is_odd, is_missing, check_with}
use Rattle.uda_exec.specs.Effect.{World, effect_by, memory_by, end_for}
use Rattle.uda_exec.specs.BlockReads.{HaveSameRange, LookSame, LookSameTo, OnlyUsedBlocksAreRead}

-- a disk with other blocks
abbrev with_blocks : List (List ℕ) → Disk → Disk
with_blocks blocks disk = record { blocks = blocks; size = disk.size; mode = disk.mode }

same_due : (act : Act) (blocks other : List (List ℕ)) → HaveSameRange (extent_of act) blocks other
    → due act other ≡ due act blocks
same_due (Read lbn bytes) blocks other same = same
same_due (Access lbn bytes) blocks other same = same
same_due _ blocks other same = refl

same_answer : (o : TransferOutcome) (act : Act) (disk : Disk) (other : List (List ℕ))
    → due act other ≡ due act disk.blocks → answer_on o act (with_blocks other disk) ≡ answer_on o act disk
same_answer o (Read lbn bytes) disk other same = rw same refl
same_answer o _ disk other same = refl

module _ (o : TransferOutcome) (c : Command) (act : Act) (memory : List ℕ) where
  -- the end message and memory, by the result of the checks
  abbrev seen : CheckResult → End × List ℕ
  seen b = (end_for c (answer_by o act b), memory_by o c.op act b memory)

  accepted : (found : Option Refusal) (odd missing : Bool) (disk : Disk) (other : List (List ℕ))
      → due act other ≡ due act disk.blocks
      → seen (check_with odd missing (check_by found (with_blocks other disk)))
      ≡ seen (check_with odd missing (check_by found disk))
  accepted None false false disk other same = rw (same_answer o act disk other same, same) refl
  accepted _ odd missing disk other same = refl

  looked : (odd missing : Bool) (slot other : Option (Option Disk)) → LookSame act slot other
      → seen (check_with odd missing (check_at act other)) ≡ seen (check_with odd missing (check_at act slot))
  looked odd missing (Some (Some disk)) (Some (Some other)) same =
      let is : other ≡ with_blocks other.blocks disk =
      ap₂ (λ (n : ℕ) (m : Mode). record { blocks = other.blocks; size = n; mode = m }) same.0 same.1.0 in
      rw is (accepted (refusal_on (extent_of act) disk.size disk.mode) odd missing disk other.blocks
      (same_due act disk.blocks other.blocks same.1.1))
  looked odd missing slot other same =
      ap (λ (s : Option (Option Disk)). seen (check_with odd missing (check_at act s))) same

by_act : (o : TransferOutcome) (c : Command) (memory : List ℕ) (act : Option Act) (disks other : Disks)
    → LookSameTo act (slice_get disks c.unit) (slice_get other c.unit)
    → ((effect_by o c act (record { memory = memory; disks = other })).0
    ≡ (effect_by o c act (record { memory = memory; disks = disks })).0)
    × ((effect_by o c act (record { memory = memory; disks = other })).1.memory
    ≡ (effect_by o c act (record { memory = memory; disks = disks })).1.memory)
by_act o c memory None disks other same = (refl, refl)
by_act o c memory (Some act) disks other same =
    let is = looked o c act memory (is_odd (buffer_start c.op))
    (is_missing (buffer_start c.op) (buffer_length c.op) (length memory)) (slice_get disks c.unit)
    (slice_get other c.unit) same in
    (ap (λ (s : End × List ℕ). s.0) is, ap (λ (s : End × List ℕ). s.1) is)

pub only_used_blocks_are_read : OnlyUsedBlocksAreRead
only_used_blocks_are_read c units units_after memory memory_left e other it same =
    let is = by_act it.outcome c memory (act_of c.op memory) (disks_of units) other same in (
      is.0 ∙ sym (ap (λ (x : End × World). x.0) it.effect_is),
      is.1 ∙ sym (ap (λ (x : End × World). x.1.memory) it.effect_is),
    )
