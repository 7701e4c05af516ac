-- The effect of a turn from the effects of its rules.
use Rattle.std.proofs.lemmas.Bool.Decides.{nat_tests}
use Rattle.std.proofs.Common.{arith}
use Rattle.std.proofs.Common.{◌≡◌, ℕ, Bool, true, List, [], ◌∷◌, Some, None, refl}
use Rattle.std.specs.Prelude.{slice_get, remove, Result, Ok, ◌&&◌, not}
use Rattle.uda_packet.specs.declared.guest_command.GuestCommand.{GuestCommand}
use Rattle.uda_packet.specs.declared.guest_command.GuestOp.{GuestOp}
use Rattle.uda_packet.specs.declared.guest_command.GuestOp.TheVariants.{Basic}
use Rattle.uda_packet.specs.declared.reply.Reply.{Reply}
use Rattle.uda_exec.specs.Disks.{ExecState}
use Rattle.uda_exec.specs.GuestExecution.{ExecutesGuestAt}
use Rattle.uda_exec.specs.GuestOps.{with_accepted}
use Rattle.uda_port.specs.declared.packet.Fetched.{Fetched as Packet}
use Rattle.uda_port.specs.declared.profile.Profile.{Profile}
use Rattle.uda_port.specs.declared.profile.Profile.TheVariants.{Strict}
use Rattle.uda_port.specs.Message.{message_in}
use Rattle.uda_port.specs.declared.phase.Fatal.{Fatal}
use Rattle.uda_port.specs.declared.turn.Turn.{Turn}
use Rattle.uda_port.specs.Port.{PortState, lacks_credit}
use Rattle.uda_port.specs.Report.{attention_text, end_text, next_text}
use Rattle.uda_port.specs.Turn.{port_turn_on, GoesOn, FirstRuleEffect, RunningTurn, ExecutesFor}

pub running_turn : (old : PortState) (memory : List ℕ) (turn : Turn) (new : PortState) (memory_after : List ℕ)
    → FirstRuleEffect (port_turn_on old) memory (Ok turn) new memory_after
    → RunningTurn old memory turn new memory_after
running_turn old memory turn new memory_after goes = grind (arith, nat_tests)

pub goes_on : (old : PortState) (memory : List ℕ) (result : Result Turn Fatal) (new : PortState)
    (memory_after : List ℕ)
    → GoesOn old memory result new memory_after → FirstRuleEffect old memory result new memory_after
goes_on old memory result new memory_after goes = grind (arith, nat_tests)

-- the next text is that of an attention message that is due, or else of the first queued end message
pub attention_first : (port : PortState) (text : List ℕ) → attention_text port ≡ Some text
    → next_text port ≡ Some text
attention_first port text due = grind (arith, nat_tests)

pub first_text : (port : PortState) (e : Reply) → attention_text port ≡ None → slice_get port.waiting 0 ≡ Some e
    → next_text port ≡ Some (end_text port e)
first_text port e none is = grind (arith, nat_tests)

-- a list without a first member is empty
pub none_first : {A : Type 0} (xs : List A) → slice_get xs 0 ≡ None → xs ≡ []
none_first [] none = refl
none_first (x ∷ xs) none = absurd (cc)

-- a port that may fetch although its host has no credit is strict
pub only_strict : (polling : Bool) (profile : Profile) (credits : ℕ)
    → (polling && not (lacks_credit profile credits)) ≡ true → credits ≡ 0 → profile ≡ Strict
only_strict polling profile credits may none = grind (arith, nat_tests)

-- ---- the strict profile has no additional operations

pub executes_for : (profile : Profile) (j : ℕ) (old : ExecState) (memory : List ℕ) (r : Reply)
    (new : ExecState) (memory_after : List ℕ) → (profile ≡ Strict → old.guest_ops ≡ [])
    → ExecutesGuestAt j old memory r new memory_after
    → ExecutesFor profile j old memory r new memory_after
executes_for profile j old memory r new memory_after none it = grind (arith, nat_tests)

pub strict_basic : (profile : Profile) (p : Packet) (g : GuestCommand) → profile ≡ Strict
    → message_in profile p ≡ Ok g → g.op ≡ Basic
strict_basic profile p g strict is = grind (arith, nat_tests)

-- so the list of additional operations stays empty
pub strict_accepts : (exec : ExecState) (g : GuestCommand) → g.op ≡ Basic → exec.guest_ops ≡ []
    → (with_accepted exec g).guest_ops ≡ []
strict_accepts exec g basic none = grind (arith, nat_tests)

pub remove_none : (j : ℕ) → remove {X = GuestOp} [] j ≡ []
remove_none j = grind (arith, nat_tests)
