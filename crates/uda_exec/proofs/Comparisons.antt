-- The comparison of blocks with memory from block to block; and the list of additional operations.
use Rattle.std.proofs.Common.{◌≡◌, ℕ, ◌+◌, ◌-◌, ◌*◌, ◌/◌, ◌%◌, ◌<◌, ◌≤◌, true, List, [], ◌∷◌, ◌++◌, length, get_or, replicate, Option, Some, None, refl, sym, ap, ◌∙◌, arith, append_assoc, length-append}
use Rattle.std.specs.Prelude.{slice_index}
use Rattle.std.proofs.lemmas.List.{get_or_push, length-replicate}
use Rattle.std.proofs.lemmas.Option.{get_or_from_slice_get, unwrap_or-slice_get, slice_get_past}
use Rattle.uda_mem.proofs.PutLaws.{get_or-part}
use Rattle.uda_image.specs.Store.{ReadsBlock}
use Rattle.uda_packet.specs.declared.guest_command.GuestOp.{GuestOp}
use Rattle.uda_packet.specs.declared.guest_command.GuestOp.TheVariants as guest
use Rattle.uda_exec.specs.GuestOps.{op_at, with_op}
use Rattle.uda_exec.specs.Compare.{byte_stored, byte_held}
use Rattle.uda_exec.specs.Comparing.{FindsIn, count_at, ComparesBlock}
use Rattle.uda_exec.proofs.Words.{part, Transfer, StoreState, KeepsAttributes, block_count}
use Rattle.uda_image.specs.Store.{is_sound}

-- ---- one block

-- the same difference is found in equal numbers
finds_same : (n : ℕ) (found : Option ℕ) (f g h k : ℕ → ℕ) → ((i : ℕ) → i < n → f i ≡ h i)
    → ((i : ℕ) → i < n → g i ≡ k i) → FindsIn n found f g → FindsIn n found h k
finds_same n None f g h k left right all = λ i below. sym (left i below) ∙ all i below ∙ right i below
finds_same n (Some at) f g h k left right found = (
  found.0,
  record {
    same = λ i below.
        let within : i < n = omega (arith, found.0) in
        sym (left i within) ∙ found.1.same i below ∙ right i within;
    other = λ same. found.1.other (left at found.0 ∙ same ∙ sym (right at found.0));
  },
)

pub compares_block : (t : Transfer) (k : ℕ) (found : Option ℕ) (old new : StoreState)
    (memory block window : List ℕ)
    → ReadsBlock old (t.lbn + k) new block → window ≡ part memory (t.buffer + 512 * k) (count_at t k)
    → FindsIn (count_at t k) found (λ i. slice_index block i) (λ i. slice_index window i)
    → ComparesBlock t k found old memory new
compares_block t k found old new memory block window reads is finds = record {
  finds =
      finds_same (count_at t k) found _ _ _ _
      (λ i below.
      let within : i < 512 = omega arith in
      let div : (512 * k + i) / 512 ≡ k = omega arith in
      let rest : (512 * k + i) % 512 ≡ i = omega arith in
      let here = get_or_from_slice_get old.blocks (t.lbn + k) block [] reads.value in
      rw (div, rest, here) refl)
      (λ i below.
      rw (is, get_or-part memory (t.buffer + 512 * k) (count_at t k) i 0 below)
      (ap (λ j. get_or memory j 0) (omega arith)))
      finds;
  blocks_stay = rw reads.state_stays refl;
  failures_stay = rw reads.state_stays refl;
}

-- ---- a range of blocks

-- the blocks before this one are equal to the buffer
pub record SameSoFar (t : Transfer) (done : ℕ) (old : StoreState) (memory : List ℕ) (now : StoreState)
    : Type 0 where
  pub same : (i : ℕ) → i < 512 * done → i < t.bytes → byte_stored t old.blocks i ≡ byte_held t memory i
  pub blocks_stay : now.blocks ≡ old.blocks
  pub failures_stay : now.failures ≡ old.failures

pub record Comparing (t : Transfer) (done : ℕ) (old : StoreState) (memory : List ℕ) (now : StoreState)
    : Type 0 where
  pub attributes : KeepsAttributes old now
  pub within : done ≤ block_count t
  pub so_far : is_sound now ≡ true → SameSoFar t done old memory now

-- ---- the additional operation of each command

-- the list, filled up to this length
pub record Padded (old : List GuestOp) (place : ℕ) (now : List GuestOp) : Type 0 where
  pub within : length now ≤ place
  pub further : length old ≤ length now
  pub is : now ≡ old ++ replicate (length now - length old) guest.Basic

-- the additional operation of the last command is found at its index
op_last : (place : ℕ) (ops : List GuestOp) (op : GuestOp) → length ops ≤ place
    → op_at (ops ++ (replicate (place - length ops) guest.Basic ++ op ∷ [])) place ≡ op
op_last place ops op past =
    let more = replicate (place - length ops) guest.Basic in
    let front : length (ops ++ more) ≡ place =
    omega (arith, length-append ops more, length-replicate (place - length ops) guest.Basic, past) in
    rw (unwrap_or-slice_get, ← append_assoc ops more (op ∷ [])) (get_or_push (ops ++ more) op guest.Basic place front)

pub op_noted : (op : GuestOp) (place : ℕ) (ops : List GuestOp) → length ops ≤ place
    → op_at (with_op op place ops) place ≡ op
op_noted guest.Basic place ops past = rw (slice_get_past ops place past) refl
op_noted op place ops past = op_last place ops op past
