-- The first command that passes a test, by its index.
use Rattle.std.proofs.Common.{◌≡◌, ℕ, ◌+◌, ◌≤◌, Bool, true, false, List, ◌++◌, length, Option, Some, None, refl, ◌∙◌, arith, add-one}
use Rattle.std.specs.Prelude.{find, position, slice_get, remove, nat_lt, cond, option_map, unwrap_or}
use Rattle.std.specs.List.{before_first, after_first, position_or_len}
use Rattle.std.proofs.lemmas.List.{take_all, drop_all, append-nil}
use Rattle.std.proofs.lemmas.List.Folds.{find_at}
use Rattle.std.proofs.lemmas.Option.{slice_get_past}
use Rattle.std.proofs.lemmas.Bool.Decides.{nat_tests}
use Rattle.uda_packet.specs.declared.guest_command.GuestOp.{GuestOp}
use Rattle.uda_packet.specs.declared.reply.Reply.{Reply}
use Rattle.uda_exec.specs.GuestOps.{op_at}
use Rattle.uda_exec.specs.Named.{aborted}
use Rattle.uda_exec.proofs.Words.{Command}

module _ (p : Command → Bool) (xs : List Command) where
  -- the list without the first command that passes
  abbrev pub others : List Command
  others = before_first p xs ++ after_first p xs

  -- it is at this index, or there is none
  abbrev pub IsAt : Option ℕ → Type 0
  IsAt (Some i) = (find p xs ≡ slice_get xs i) × (others ≡ remove xs i)
  IsAt None = (find p xs ≡ None) × (others ≡ xs)

  at_place : (n : ℕ) → position_or_len p xs ≡ n → (found : Bool) → nat_lt n (length xs) ≡ found
      → IsAt (cond found (Some n) None)
  at_place n is true below = (find_at p xs ∙ rw is refl, rw (is, add-one) refl)
  at_place n is false past =
      let beyond : length xs ≤ n = grind (arith, nat_tests) in (
        find_at p xs ∙ rw (is, slice_get_past xs n beyond) refl,
        rw (is, take_all n xs beyond, drop_all (n + 1) xs (omega arith), append-nil) refl,
      )

  pub is_at : (r : Option ℕ) → r ≡ position p xs → IsAt r
  is_at r is =
      let n = position_or_len p xs in rw is (at_place n refl (nat_lt n (length xs)) refl)

-- the end message of the command at its index, by its additional operation
pub aborted_at : (p : Command → Bool) (xs : List Command) (ops : List GuestOp) (place : ℕ) (c : Command)
    (r : Reply)
    → Some place ≡ position p xs → find p xs ≡ Some c → r ≡ aborted (op_at ops place) c
    → Some r ≡ option_map (aborted (op_at ops (unwrap_or (position p xs) 0))) (find p xs)
aborted_at p xs ops place c r at found is =
    rw (is, found, ← at) refl
