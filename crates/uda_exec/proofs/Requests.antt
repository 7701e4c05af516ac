-- The request of a command.
use Rattle.std.proofs.Common.{rules, ◌≡◌, ℕ, ◌≤◌, zero-le, false, List, length, Some, refl, sym, ap, arith, length-take}
use Rattle.std.specs.Prelude.{IfSome}
use Rattle.std.specs.List.{concat}
use Rattle.uda_mem.proofs.PutLaws.{part-put_apart}
use Rattle.uda_packet.specs.declared.command.Op.TheVariants as op
use Rattle.uda_exec.specs.Commands.{memory_read_length}
use Rattle.uda_exec.proofs.Words.{put, part, memory_write_length, Overlap, Op, Act, blank_answer, blocks_for, blocks_named, is_moving, data_read, buffer_start, buffer_length, blocks_asked, is_controller, is_transfer, act_of, plain_body, body_for}
use Rattle.uda_exec.proofs.Blocks.{length-bytes_at}

-- what an operation and its action have in common
pub record Asks (o : Op) (act : Act) : Type 0 where
  pub speaks : is_controller o ≡ false
  pub moving : is_transfer o ≡ is_moving act
  pub count : blocks_asked o ≡ blocks_named act
  pub blank : (status : ℕ) → body_for o (blank_answer act status) ≡ plain_body o 0
  pub brings : (blocks : List (List ℕ)) → length (data_read act blocks) ≤ memory_write_length o

asks_if : (o : Op) (memory : List ℕ) → IfSome (act_of o memory) (Asks o)
asks_if op.Controller memory = tt
asks_if (op.Read bytes address lbn) memory = record {
  speaks = refl;
  moving = refl;
  count = refl;
  blank = λ status. refl;
  brings = λ blocks. omega (arith, length-take bytes (concat blocks));
}
asks_if (op.Write bytes address lbn) memory = record {
  speaks = refl;
  moving = refl;
  count = ap blocks_for (sym (length-bytes_at memory address bytes));
  blank = λ status. refl;
  brings = λ blocks. zero-le;
}
asks_if _ memory = search rules

pub asks : (o : Op) (memory : List ℕ) (act : Act) → act_of o memory ≡ Some act → Asks o act
asks o memory act is = rw is at (asks_if o memory)

-- any command but Set Controller Characteristics has an action on a unit
pub asks_some : (o : Op) (memory : List ℕ) → is_controller o ≡ false → (act : Act) × (act_of o memory ≡ Some act)
asks_some op.Controller memory speaks = absurd (cc)
asks_some _ memory speaks = (_, refl)

-- the action depends only on the bytes that the command reads
pub act_shared : (o : Op) (memory other : List ℕ)
    → part other (buffer_start o) (memory_read_length o) ≡ part memory (buffer_start o) (memory_read_length o)
    → act_of o other ≡ act_of o memory
act_shared (op.Write bytes address lbn) memory other h = rw h refl
act_shared _ memory other h = refl

-- it is unchanged by a write outside the buffer
pub act_of-put : (o : Op) (memory : List ℕ) (at : ℕ) (bytes : List ℕ)
    → (Overlap at (length bytes) (buffer_start o) (buffer_length o) → ⊥)
    → act_of o (put memory at bytes) ≡ act_of o memory
act_of-put (op.Write n address lbn) memory at bytes h = rw (part-put_apart memory at bytes address n h) refl
act_of-put _ memory at bytes h = refl
