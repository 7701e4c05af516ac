-- The order law on small units: each of its premises is needed, and three commands have the same effect in
-- any order.
use Rattle.std.proofs.lemmas.Bool.{eq-eqb, both_ways}
use Rattle.std.specs.Prelude.{nat_eq}
use Rattle.std.proofs.Common.{◌≡◌, ℕ, Bool, true, false, List, [], ◌∷◌, ◌++◌, get_or, replicate, Some, None, refl, ap}
use Rattle.uda_packet.specs.declared.command.Op.TheVariants.{Online, Access, Read, Write}
use Rattle.uda_packet.specs.declared.end.EndBody.TheVariants.{Invalid, Moved}
use Rattle.uda_packet.specs.declared.end.Kind.TheVariants.{Read as ReadKind}
use Rattle.uda_exec.proofs.Words.{put, part, Command, Op, End, Disks, World, TransferOutcome, Done, Lost, effect, FixedCommand, effects, effects_first}

-- numbers that a computation finds different
differ : (m n : ℕ) → nat_eq m n ≡ false → m ≡ n → ⊥
differ m n apart same = both_ways (nat_eq m n) apart (eq-eqb m n same)

-- unit 0 has three blocks of bytes 1, 2 and 3, and the other units have no drive
abbrev unit_in : Bool → Disks
unit_in online = Some (record {
  blocks = replicate 512 1 ∷ replicate 512 2 ∷ replicate 512 3 ∷ [];
  size = 3;
  mode = record { online = online; hard = false; soft = false };
}) ∷ None ∷ None ∷ None ∷ []

-- and memory is bytes 9
abbrev world : Bool → World
world online = record { memory = replicate 1536 9; disks = unit_in online }

abbrev fixed : ℕ → Op → TransferOutcome → FixedCommand
fixed reference op outcome = record {
  command = record { reference = reference; unit = 0; op = op };
  outcome = outcome;
}

abbrev byte_at : ℕ → List End × World → ℕ
byte_at at r = get_or r.1.memory at 0

abbrev none : End
none = record { reference = 0; unit = 0; status = 0; body = Invalid }

abbrev status_at : ℕ → List End × World → ℕ
status_at k r = (get_or r.0 k none).status

-- a Read of blocks 0 and 1, and a Write of block 1 from bytes 9: their ranges share the Read's last block
abbrev clashing : List FixedCommand
clashing = fixed 1 (Read 1024 0 0) Done ∷ fixed 2 (Write 512 1024 1) Done ∷ []

-- the Write executed first is not the list in order
pub clash_matters : effects_first 1 (fixed 2 (Write 512 1024 1) Done) clashing (world true) ≡ effects clashing
    (world true) → ⊥
unfolding put part
clash_matters same = differ 9 2 refl (ap (byte_at 512) same)

-- two Reads whose buffers share two bytes: those of the later one are there
abbrev meeting : List FixedCommand
meeting = fixed 1 (Read 512 0 0) Done ∷ fixed 2 (Read 512 510 1) Done ∷ []

pub meeting_buffers_matter : effects_first 1 (fixed 2 (Read 512 510 1) Done) meeting (world true)
    ≡ effects meeting (world true) → ⊥
unfolding put part
meeting_buffers_matter same = differ 1 2 refl (ap (byte_at 510) same)

-- a Read that follows an Online of its available unit: the Read isn't eligible, since it would be rejected if
-- it came first
abbrev behind_online : List FixedCommand
behind_online = fixed 1 (Online None) Done ∷ fixed 2 (Read 512 0 0) Done ∷ []

pub older_online_matters : effects_first 1 (fixed 2 (Read 512 0 0) Done) behind_online (world false)
    ≡ effects behind_online (world false) → ⊥
unfolding put part
older_online_matters same = differ 4 0 refl (ap (status_at 1) same)

-- a Read of block 0, a Write of block 1 that fails there and leaves bytes 7, and an Access of block 2: each
-- of them first gives the same
abbrev three : List FixedCommand
three = fixed 1 (Read 512 0 0) Done ∷ fixed 2 (Write 512 1024 1) (Lost 0 (replicate 512 7)) ∷ fixed 3
    (Access 512 2) Done ∷ []

pub record OfThree : Type 0 where
  first : effects_first 0 (fixed 1 (Read 512 0 0) Done) three (world true) ≡ effects three (world true)
  second : effects_first 1 (fixed 2 (Write 512 1024 1) (Lost 0 (replicate 512 7))) three (world true)
      ≡ effects three (world true)
  third : effects_first 2 (fixed 3 (Access 512 2) Done) three (world true) ≡ effects three (world true)
  -- the Write's end message reports the drive error
  second_is_lost : status_at 1 (effects three (world true)) ≡ 0x000B

pub of_three : OfThree
unfolding put part
of_three = record { first = refl; second = refl; third = refl; second_is_lost = refl }

-- memory of 135,168 bytes, and a unit of eight blocks of which block 5 is bytes 55 and block 6 bytes 66
abbrev large : World
large = record {
  memory = replicate 135168 0;
  disks = Some (record {
    blocks = replicate 5 (replicate 512 0) ++ replicate 512 55 ∷ replicate 512 66
        ∷ replicate 512 0 ∷ [];
    size = 8;
    mode = record { online = true; hard = false; soft = false };
  }) ∷ None
      ∷ None ∷ None ∷ [];
}

abbrev reads : ℕ → ℕ → Command
reads count address = record { reference = 1; unit = 0; op = Read count address 5 }

abbrev moved : ℕ → ℕ → End
moved status bytes = record { reference = 1; unit = 0; status = status; body = Moved ReadKind bytes }

-- Reads of block 5
pub record OfLarge : Type 0 where
  -- to address 0x1000: it succeeds, and the block is there
  success : (effect Done (reads 512 0x1000) large).0 ≡ moved 0 512
  bytes : part (effect Done (reads 512 0x1000) large).1.memory 0x1000 512 ≡ replicate 512 55
  -- the partial block after it: only its first two bytes are there too
  part_block : (effect Done (reads 514 0x1000) large).0 ≡ moved 0 514
  part_bytes : part (effect Done (reads 514 0x1000) large).1.memory 0x1000 516
      ≡ replicate 512 55 ++ 66 ∷ 66 ∷ 0 ∷ 0 ∷ []
  -- rejected for an odd address, an odd count, a buffer past the end of memory: nothing changes
  address : effect Done (reads 512 0x1001) large ≡ (moved 0x0029 0, large)
  odd_count : effect Done (reads 513 0x1000) large ≡ (moved 0x0049 0, large)
  memory : effect Done (reads 512 0x21000) large ≡ (moved 0x0069 0, large)

pub of_large : OfLarge
unfolding put part
of_large = record {
  success = refl;
  bytes = refl;
  part_block = refl;
  part_bytes = refl;
  address = refl;
  odd_count = refl;
  memory = refl;
}
