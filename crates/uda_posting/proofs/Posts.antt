-- The command of a request: its buffer, what it asks, and which may pass which.
use Rattle.std.proofs.Common.{◌≡◌, ℕ, ◌+◌, ◌%◌, ◌<◌, ◌≤◌, zero-le, false, true, List, length, Some, refl, ap, ◌∙◌, arith}
use Rattle.std.proofs.lemmas.Bool.Decides.{nat_tests}
use Rattle.uda_mem.specs.Put.{put}
use Rattle.uda_mem.proofs.PutLaws.{length-put, part-put_at}
use Rattle.uda_disk.specs.Request.{Act, Online, Read, Write, is_moving, blocks_named}
use Rattle.uda_disk.specs.Order as disk
use Rattle.uda_disk.specs.InOrderRun.{transfer_limit, too_long}
use Rattle.uda_exec.specs.Commands.{is_controller, is_transfer, buffer_start, buffer_length, blocks_asked, act_of}
use Rattle.uda_exec.specs.Order.{command_may_overtake}
use Rattle.uda_exec.proofs.Blocks.{bytes_at-within}
use Rattle.uda_posting.specs.Posting.{op_of, write_payload, Posted, posted_command, Ready}

-- what an act names, its command names
pub record NamesSame (act : Act) (address : ℕ) : Type 0 where
  pub speaks : is_controller (op_of act address) ≡ false
  pub moving : is_transfer (op_of act address) ≡ is_moving act
  pub count : blocks_asked (op_of act address) ≡ blocks_named act

pub names_same : (act : Act) (address : ℕ) → NamesSame act address
names_same (Online protect) address = record { speaks = refl; moving = refl; count = refl }
names_same _ address = record { speaks = refl; moving = refl; count = refl }

-- ---- buffers

-- if a command has a buffer, it begins at the address given, and it is small
pub record BufferAt (act : Act) (address : ℕ) : Type 0 where
  pub small : buffer_length (op_of act address) ≤ transfer_limit
  pub here : 0 < buffer_length (op_of act address) → buffer_start (op_of act address) ≡ address
  pub low : buffer_start (op_of act address) ≤ address
  pub even : address % 2 ≡ 0 → buffer_start (op_of act address) % 2 ≡ 0

pub buffer-at : (unit : ℕ) (act : Act) (address : ℕ) → too_long (record { unit = unit; act = act }) ≡ false
    → BufferAt act address
buffer-at unit (Read first bytes) address short =
    record { small = grind (arith, nat_tests); here = λ _. refl; low = omega arith; even = λ even. even }
buffer-at unit (Write first payload) address short =
    record { small = grind (arith, nat_tests); here = λ _. refl; low = omega arith; even = λ even. even }
buffer-at unit _ address short = record {
  small = omega arith;
  here = λ some. absurd (omega arith);
  low = zero-le;
  even = λ _. refl;
}

-- what a request brings fits its buffer, and once it was put there the command asks the request's act
pub record BytesFit (act : Act) (address : ℕ) : Type 0 where
  pub fits : length (write_payload act) ≤ buffer_length (op_of act address)
  pub asks : (memory : List ℕ) → buffer_start (op_of act address) + buffer_length
      (op_of act address) ≤ length memory → act_of (op_of act address)
      (put memory address (write_payload act)) ≡ Some act

pub bytes_fit : (act : Act) (address : ℕ) → BytesFit act address
bytes_fit (Write first payload) address = record {
  fits = omega arith;
  asks = λ memory within.
      let there = bytes_at-within (put memory address payload) address (length payload)
      (omega (arith, length-put memory address payload)) in
      ap (λ (bytes : List ℕ). Some (Write first bytes))
      (there ∙ part-put_at memory address (length payload) payload within refl);
}
bytes_fit (Online protect) address = record { fits = omega arith; asks = λ _ _. refl }
bytes_fit _ address = record { fits = omega arith; asks = λ _ _. refl }

pub ready-put : (p : Posted) (memory : List ℕ) → too_long p.request ≡ false → p.address % 2 ≡ 0
    → p.address + transfer_limit ≤ length memory
    → Ready p (put memory p.address (write_payload p.request.act))
ready-put p memory short even room =
    let buffer = buffer-at p.request.unit p.request.act p.address short in
    let size = length-put memory p.address (write_payload p.request.act) in
    record {
      short = short;
      even = buffer.even even;
      within = omega (arith, buffer.small, buffer.low);
      asks = (bytes_fit p.request.act p.address).asks memory (omega (arith, buffer.small, buffer.low));
    }

-- ---- passing

-- if a command may overtake another, its request may overtake the other's
pub may_overtake : (older p : Posted) → command_may_overtake (posted_command older) (posted_command p) ≡ true
    → disk.may_overtake older.request p.request ≡ true
may_overtake older p may =
    let one = names_same older.request.act older.address in let other = names_same p.request.act p.address in
    rw (one.speaks, other.speaks, one.moving, other.moving) at may
