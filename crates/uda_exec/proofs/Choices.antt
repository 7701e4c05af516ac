-- Eligibility, one older command after the other.
use Rattle.std.proofs.Common.{◌≡◌, ℕ, ◌+◌, ◌<◌, ◌≤◌, true, List, Some, length, get_or, take, arith, length-take}
use Rattle.std.specs.Prelude.{slice_get}
use Rattle.std.proofs.lemmas.List.{get_or-take}
use Rattle.std.proofs.lemmas.Option.{get_or_from_slice_get}
use Rattle.uda_exec.specs.Commands.{is_transfer}
use Rattle.uda_exec.proofs.Words.{Command, command_may_overtake, IsEligible}

-- a command may overtake each of the first n
abbrev pub PassesFirst : List Command → ℕ → Command → Type 0
PassesFirst pending n command = (i : ℕ) (older : Command) → i < n → slice_get pending i ≡ Some older
    → command_may_overtake older command ≡ true

-- and one more, which is before this index
pub passes_next : (pending : List Command) (place n : ℕ) (command d : Command)
    → n < length (take place pending) → command_may_overtake (get_or (take place pending) n d) command ≡ true
    → PassesFirst pending n command → PassesFirst pending (n + 1) command
passes_next pending place n command d inside may before i older below at =
    grind (
      arith,
      before i older,
      get_or-take place pending n d,
      get_or_from_slice_get pending i older d,
      length-take place pending,
    )

-- a command that may overtake all before its index is eligible
pub goes_if : (pending : List Command) (place n : ℕ) (d : Command) → place < length pending
    → length (take place pending) ≤ n → PassesFirst pending n (get_or pending place d) → IsEligible pending place
goes_if pending place n d within whole may_overtake = record {
  stands = within;
  may_overtake = λ i older younger below at_i at_place.
      let one : get_or pending place d ≡ younger = get_or_from_slice_get pending place younger d at_place in
      rw (← one) (may_overtake i older (omega (arith, length-take place pending)) at_i);
}

-- the first n commands are transfers
abbrev pub TransfersFirst : List Command → ℕ → Type 0
TransfersFirst pending n = (i : ℕ) (c : Command) → i < n → slice_get pending i ≡ Some c → is_transfer c.op ≡ true
