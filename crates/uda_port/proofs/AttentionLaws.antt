-- How soon an attention message that is due is delivered: what the effect of a turn says of it.
use Rattle.std.proofs.lemmas.Bool.Decides.{nat_tests}
use Rattle.std.proofs.Common.{◌≡◌, ◌≤◌, ◌<◌, ℕ, zero, suc, ◌+◌, Bool, true, false, List, [], ◌∷◌, ◌++◌, length, Some, arith, ap}
use Rattle.std.proofs.lemmas.List.{length-append, length-take, length-drop}
use Rattle.std.specs.Prelude.{set, take, drop, remove, slice_get, Result}
use Rattle.std.specs.List.{position_or_len, before_first, after_first}
use Rattle.uda_packet.specs.declared.guest_command.GuestCommand.{GuestCommand}
use Rattle.uda_packet.specs.declared.reply.Reply.{Reply}
use Rattle.uda_exec.specs.Disks.{ExecState}
use Rattle.uda_port.specs.declared.guest.Guest.{Guest}
use Rattle.uda_port.specs.declared.packet.Fetched.{Fetched as Packet}
use Rattle.uda_port.specs.declared.profile.Profile.{Profile}
use Rattle.uda_port.specs.declared.turn.Turn.{Turn}
use Rattle.uda_port.specs.declared.turn.Turn.TheVariants.{Fetched, Executed, Notified, Dead}
use Rattle.uda_port.specs.Attention.{MayNotify, goes_before_ends, one_if, due_count, turns_to_notify, ComesNearer}
use Rattle.uda_port.specs.Attention.{UndeliveredTurn, AttentionArrives}
use Rattle.uda_port.specs.Guest.{is_due, first_due, guest_after}
use Rattle.uda_port.specs.Message.{message_in, flags_kept}
use Rattle.uda_port.specs.Port.{PortState}
use Rattle.uda_port.specs.Turn.{TurnEffect, RunningTurn, ExecutesFor, port_with_message, port_turn_on}

-- ---- due attention messages

cleared : (xs : List Bool) (n k : ℕ) → one_if (is_due (set xs n false) k) ≤ one_if (is_due xs k)
cleared (x ∷ xs) zero zero = omega arith
cleared (x ∷ xs) (suc n) (suc k) = cleared xs n k
cleared _ _ _ = omega arith

no_longer : (xs : List Bool) (k : ℕ) → is_due xs k ≡ true → one_if (is_due (set xs k false) k) < one_if (is_due xs k)
no_longer (x ∷ xs) (suc k) is = no_longer xs k is
no_longer _ _ is = grind arith

fewer_or_same : (xs : List Bool) (n : ℕ) → due_count (set xs n false) ≤ due_count xs
fewer_or_same xs n = omega (arith, cleared xs n)

fewer : (xs : List Bool) (drive : ℕ) → first_due xs ≡ Some drive → due_count (set xs drive false) < due_count xs
fewer xs drive first = grind (arith, cleared xs, no_longer xs)

flags_attentions : (profile : Profile) (p : Packet) (message : Result GuestCommand Reply) (g : Guest)
    → (flags_kept profile p message g).attentions ≡ g.attentions
flags_attentions profile p message g = grind (arith, nat_tests)

after_end : (e : Reply) (g : Guest) → due_count (guest_after e g).attentions ≤ due_count g.attentions
after_end e g = grind (arith, fewer_or_same)

-- ---- pending commands

removed : {A : Type 0} (xs : List A) (j : ℕ) (x : A) → slice_get xs j ≡ Some x → length (remove xs j) < length xs
removed [] j x is = absurd (cc)
removed (y ∷ xs) zero x is = omega arith
removed (y ∷ xs) (suc j) x is = omega (arith, removed xs j x is)

executed : (profile : Profile) (j : ℕ) (old : ExecState) (memory : List ℕ) (r : Reply) (new : ExecState)
    (memory_after : List ℕ) → ExecutesFor profile j old memory r new memory_after
    → length new.pending < length old.pending
executed profile j old memory r new memory_after it = grind (arith, removed)

others_left : {A : Type 0} (p : A → Bool) (xs : List A) → length (before_first p xs ++ after_first p xs) ≤ length xs
others_left p xs =
    let n = position_or_len p xs in
    omega (arith, length-append (take n xs) (drop (n + 1) xs), length-take n xs, length-drop (n + 1) xs)

with_message : (old : PortState) (message : Result GuestCommand Reply)
    → length (port_with_message old message).exec.pending ≤ length old.exec.pending + 1
with_message old message = grind (arith, length-append, others_left)

-- ---- a turn

module _ (old : PortState) (memory : List ℕ) (new : PortState) (memory_after : List ℕ)
    (may : MayNotify old memory) where
  running_first : (turn : Turn) → RunningTurn old memory turn new memory_after → goes_before_ends turn ≡ true
  running_first turn goes = grind (arith, nat_tests)

  running_nearer : (turn : Turn) → RunningTurn old memory turn new memory_after → ComesNearer old turn new
  running_nearer Fetched goes =
      let message = message_in old.profile goes.packet in
      rw goes.others (omega (
        arith,
        goes.credit,
        with_message (port_turn_on old) message,
        ap due_count (flags_attentions old.profile goes.packet message old.guest),
      ))
  running_nearer Executed goes =
      let one = goes.rest.1 in
      let fewer_left = executed old.profile goes.rest.0 old.exec memory one.end new.exec memory_after one.executes in
      rw one.others (omega (arith, fewer_left, after_end one.end old.guest))
  running_nearer Notified goes =
      let one = goes.rest.1 in rw one.others (omega (arith, fewer old.guest.attentions one.drive one.due))
  running_nearer Dead goes = tt
  running_nearer turn goes = absurd (cc (running_first turn goes))

  runs : (turn : Turn) → TurnEffect old.phase old memory turn new memory_after
      → RunningTurn old memory turn new memory_after
  runs turn goes = grind (arith, nat_tests)

  pub first : (turn : Turn) → TurnEffect old.phase old memory turn new memory_after → goes_before_ends turn ≡ true
  first turn goes = grind (arith, nat_tests)

  pub nearer : (turn : Turn) → TurnEffect old.phase old memory turn new memory_after → ComesNearer old turn new
  nearer turn goes = running_nearer turn (runs turn goes)

-- ---- turns one after another

lives_nearer : (old : PortState) (turn : Turn) (new : PortState) → (turn ≡ Dead → ⊥) → ComesNearer old turn new
    → turns_to_notify new < turns_to_notify old
lives_nearer old turn new lives it = grind (arith, nat_tests)

one_nearer : (old new : PortState) → UndeliveredTurn old new → turns_to_notify new < turns_to_notify old
one_nearer old new t =
    let on = record old { polling = t.polling; interrupts = t.interrupts } in
    lives_nearer on t.turn new t.lives (nearer on t.memory new t.memory_after (search t.may) t.turn t.goes)

pub attention_arrives : AttentionArrives
attention_arrives zero first last same = omega (arith, ap turns_to_notify same)
attention_arrives (suc n) first last turns =
    omega (arith, one_nearer first turns.0 turns.1, attention_arrives n turns.0 last turns.2)
