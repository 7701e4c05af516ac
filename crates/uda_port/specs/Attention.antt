-- How soon an attention message that is due is delivered.
-- MSCP Basic Disk Functions Manual: attention messages. UDA50 Programmer's Documentation Kit: credits.
use Rattle.std.specs.Prelude.{◌≡◌, ℕ, zero, suc, ◌+◌, ◌*◌, ◌<◌, ◌≤◌, Bool, true, false, List, length, IsSome, ⊤}
use Rattle.uda_port.specs.declared.descriptor.Descriptor.{Descriptor}
use Rattle.uda_port.specs.declared.interrupt.Interrupts.{Interrupts}
use Rattle.uda_port.specs.declared.phase.Phase.TheVariants.{Running}
use Rattle.uda_port.specs.declared.turn.Turn.{Turn}
use Rattle.uda_port.specs.declared.turn.Turn.TheVariants.{Fetched, Executed, Delivered, Notified, Idle, Dead}
use Rattle.uda_port.specs.Fetch.{IsNext}
use Rattle.uda_port.specs.Guest.{is_due}
use Rattle.uda_port.specs.Port.{PortState}
use Rattle.uda_port.specs.Report.{attention_text}
use Rattle.uda_port.specs.Turn.{TurnEffect}

-- an attention message of a running port is due, and the port owns the next response descriptor
pub record MayNotify (port : PortState) (memory : List ℕ) : Type 0 where
  pub runs : port.phase ≡ Running
  pub due : IsSome (attention_text port)
  pub descriptor : Descriptor
  pub free : IsNext port.responses memory descriptor

-- what a turn of such a port does: it delivers an attention message, unless it fetches, executes or fails
abbrev pub goes_before_ends : Turn → Bool
goes_before_ends Fetched = true
goes_before_ends Executed = true
goes_before_ends Notified = true
goes_before_ends Dead = true
goes_before_ends Delivered = false
goes_before_ends Idle = false

-- the number of units for which an attention message is due
abbrev pub one_if : Bool → ℕ
one_if true = 1
one_if false = 0

abbrev pub due_count : List Bool → ℕ
due_count attentions =
    one_if (is_due attentions 0) + one_if (is_due attentions 1) + one_if (is_due attentions 2)
    + one_if (is_due attentions 3)

-- The most turns of such a port until no attention message is due. Each credit of the host allows a fetch and then an
-- execution, and each pending command allows an execution.
abbrev pub turns_to_notify : PortState → ℕ
turns_to_notify port = 2 * port.credits + length port.exec.pending + due_count port.guest.attentions

-- the most of any port: 15 fetches, 15 executions, and the messages of four units
abbrev pub MOST_TURNS_TO_NOTIFY : ℕ
MOST_TURNS_TO_NOTIFY = 34

-- after such a turn there are fewer, or the port is dead
abbrev pub ComesNearer : PortState → Turn → PortState → Type 0
ComesNearer old Dead new = ⊤
ComesNearer old turn new = turns_to_notify new < turns_to_notify old

-- ---- the law

-- Such a turn, after which the port isn't dead. Before it the host may have changed memory and read IP, and its
-- processor may have taken an interrupt.
pub record UndeliveredTurn (old new : PortState) : Type 0 where
  pub memory : List ℕ
  pub may : MayNotify old memory
  pub polling : Bool
  pub interrupts : Interrupts
  pub turn : Turn
  pub memory_after : List ℕ
  pub goes : TurnEffect old.phase (record old { polling = polling; interrupts = interrupts }) memory turn new
      memory_after
  pub lives : turn ≡ Dead → ⊥

-- n such turns, one after another
abbrev pub UndeliveredTurns : ℕ → PortState → PortState → Type 0
UndeliveredTurns zero first last = first ≡ last
UndeliveredTurns (suc n) first last = (next : PortState) × UndeliveredTurn first next × UndeliveredTurns n next last

-- so there are at most as many
abbrev pub AttentionArrives : Type 0
AttentionArrives =
    (n : ℕ) (first last : PortState) → UndeliveredTurns n first last → turns_to_notify last + n ≤ turns_to_notify first
