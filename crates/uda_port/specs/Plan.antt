-- What the next turn will do, decided by the port and by the descriptors that it reads; and what a turn did.
-- UDA50 Programmer's Documentation Kit: command ring polling, message envelopes, fatal errors.
use Rattle.std.specs.Prelude.{◌≡◌, ◌≤◌, ℕ, Bool, true, false, List, [], ◌∷◌, length, Option, Some, None, option_map, if◌then◌else◌}
use Rattle.uda_packet.specs.declared.command.Command.{Command}
use Rattle.uda_port.specs.declared.descriptor.Descriptor.{Descriptor}
use Rattle.uda_port.specs.declared.phase.Fatal.TheVariants.{PacketRead, PacketWrite, RingRead}
use Rattle.uda_port.specs.declared.phase.Fatal.TheVariants.{CreditsExceeded, InvalidConnection}
use Rattle.uda_port.specs.declared.phase.Phase.{Phase}
use Rattle.uda_port.specs.declared.phase.Phase.TheVariants.{Running, Dead as DeadPhase}
use Rattle.uda_port.specs.declared.plan.Plan.{Plan}
use Rattle.uda_port.specs.declared.plan.Plan.TheVariants.{AtRest, NoCommandRing, ToFetch, ToExecute}
use Rattle.uda_port.specs.declared.plan.Plan.TheVariants.{NoMessage, ToWait, NoResponseRing, ToDeliver}
use Rattle.uda_port.specs.declared.turn.Turn.{Turn}
use Rattle.uda_port.specs.declared.turn.Turn.TheVariants.{Fetched, Executed, Delivered, Notified, Idle, Dead}
use Rattle.uda_port.specs.Events.{Delivers}
use Rattle.uda_port.specs.Port.{PortState}
use Rattle.uda_port.specs.Report.{next_text}
use Rattle.uda_port.specs.Ring.{is_owned, next_descriptor}
use Rattle.uda_port.specs.Startup.{failed_port}
use Rattle.uda_port.specs.Turn.{Unchanged, FetchesOne, NothingToFetch, CommandRingOutsideMemory, CommandUnreadable}
use Rattle.uda_port.specs.Turn.{ExceedsCredits, HasInvalidConnection, ExecutesOne, DeliversOne, NotifiesOne}
use Rattle.uda_port.specs.Turn.{NothingToDeliver, ResponseRingOutsideMemory, ResponseUnwritable, may_fetch}
use Rattle.uda_port.specs.Turn.{port_turn_on, port_not_polling}

-- ---- what the next turn will do

-- a message of n bytes waits: the plan by the next response descriptor, None if it isn't in memory
abbrev pub plan_message : ℕ → Option Descriptor → Plan
plan_message n None = NoResponseRing
plan_message n (Some d) = if is_owned d then ToDeliver d n else ToWait

-- nothing is fetched: the plan by the pending commands, the size of the next message, and the next response
-- descriptor
abbrev pub plan_later : List Command → Option ℕ → Option Descriptor → Plan
plan_later (c ∷ cs) size response = ToExecute
plan_later [] None response = NoMessage
plan_later [] (Some n) response = plan_message n response

-- whether that plan depends on the next response descriptor: nothing is pending, and a message waits
abbrev pub awaits_delivery : List Command → Option ℕ → Bool
awaits_delivery [] (Some n) = true
awaits_delivery _ _ = false

-- the port looks for a command: the plan by the next command descriptor; `later` is the plan if nothing is fetched
abbrev pub plan_found : Option Descriptor → Plan → Plan
plan_found None later = NoCommandRing
plan_found (Some d) later = if is_owned d then ToFetch d else later

-- the plan of a running port, by whether it looks for a command
abbrev pub plan_running : Bool → Option Descriptor → Plan → Plan
plan_running true command later = plan_found command later
plan_running false command later = later

-- the plan by the phase: `plan` if the port runs, and else AtRest
abbrev pub plan_in : Phase → Plan → Plan
plan_in Running plan = plan
plan_in _ plan = AtRest

-- a port in this phase looks at a ring if it runs and this test holds
abbrev pub looks_in : Phase → Bool → Bool
looks_in Running looks = looks
looks_in _ looks = false

-- the number of bytes of the next message, if there is one: an attention message first, then an end message
abbrev pub next_size : PortState → Option ℕ
next_size port = option_map (λ text. length text) (next_text port)

-- the plan of a running port that has nothing to fetch
abbrev pub plan_without_fetch : PortState → List ℕ → Plan
plan_without_fetch port memory =
    plan_later port.exec.pending (next_size port) (next_descriptor memory port.responses)

-- the plan of a port whose next command and response descriptors are these
abbrev pub plan_by : PortState → Option Descriptor → Option Descriptor → Plan
plan_by port command response =
    plan_in port.phase (plan_running (may_fetch port) command (plan_later port.exec.pending (next_size port) response))

-- the plan of the next turn
abbrev pub plan_of : PortState → List ℕ → Plan
plan_of port memory =
    plan_by port (next_descriptor memory port.commands) (next_descriptor memory port.responses)

-- the rings that the next turn looks at: it reads no descriptor of another
abbrev pub looks_at_commands : PortState → Bool
looks_at_commands port = looks_in port.phase (may_fetch port)

abbrev pub looks_at_responses : PortState → Bool
looks_at_responses port = looks_in port.phase (awaits_delivery port.exec.pending (next_size port))

-- a message that is to be delivered has at most 48 bytes
abbrev pub HasShortText : Plan → Type 0
HasShortText (ToDeliver d n) = n ≤ 48
HasShortText _ = Unit {0}

-- the plan of the next turn of a port in this memory
pub record IsPlan (port : PortState) (memory : List ℕ) (plan : Plan) : Type 0 where
  pub plan_is : plan ≡ plan_of port memory
  pub short : HasShortText plan

-- whether a plan is to execute a command
abbrev pub is_execution : Plan → Bool
is_execution ToExecute = true
is_execution _ = false

-- ---- what a turn did

-- a turn: port and memory before and after it
pub record Step : Type 0 where
  pub old : PortState
  pub memory : List ℕ
  pub new : PortState
  pub memory_after : List ℕ

-- the port after it counts the turn, before its rules
abbrev pub counted : Step → PortState
counted s = port_turn_on s.old

-- the same port after it stops polling, since it has nothing to fetch
abbrev pub stopped_polling : Step → PortState
stopped_polling s = port_not_polling (port_turn_on s.old)

-- whether a turn executed a command
abbrev pub is_executed : Turn → Bool
is_executed Executed = true
is_executed _ = false

-- a port that doesn't run: its turn is this
abbrev pub rest_turn : Phase → Turn
rest_turn (DeadPhase cause) = Dead
rest_turn _ = Idle

-- the turn of a running port is this
pub record TurnIs (wanted turn : Turn) (old : PortState) : Type 0 where
  pub runs : old.phase ≡ Running
  pub answer : turn ≡ wanted

-- A turn, by what it did. `Is` holds of the indices of pending commands that it may execute.
pub data TurnCase (Is : ℕ → Type 0) (turn : Turn) (s : Step) : Type 0 where
  Rests : (s.old.phase ≡ Running → ⊥) → turn ≡ rest_turn s.old.phase
      → Unchanged s.old s.memory s.new s.memory_after → TurnCase Is turn s
  CommandRingLost : TurnIs Dead turn s.old → CommandRingOutsideMemory (counted s) s.memory
      → Unchanged (failed_port (counted s) RingRead) s.memory s.new s.memory_after → TurnCase Is turn s
  Unreadable : TurnIs Dead turn s.old → CommandUnreadable (counted s) s.memory
      → Unchanged (failed_port (counted s) PacketRead) s.memory s.new s.memory_after → TurnCase Is turn s
  Exceeds : TurnIs Dead turn s.old → (before : PortState) → ExceedsCredits (counted s) s.memory before s.memory_after
      → s.new ≡ failed_port before CreditsExceeded → TurnCase Is turn s
  BadConnection : TurnIs Dead turn s.old → (before : PortState)
      → HasInvalidConnection (counted s) s.memory before s.memory_after
      → s.new ≡ failed_port before InvalidConnection → TurnCase Is turn s
  Fetches : TurnIs Fetched turn s.old → FetchesOne (counted s) s.memory s.new s.memory_after → TurnCase Is turn s
  Executes : TurnIs Executed turn s.old → NothingToFetch s.old s.memory → (j : ℕ) → Is j
      → ExecutesOne j (stopped_polling s) s.memory s.new s.memory_after → TurnCase Is turn s
  DeliversEnd : TurnIs Delivered turn s.old → Delivers s.old s.memory
      → DeliversOne (stopped_polling s) s.memory s.new s.memory_after → TurnCase Is turn s
  Notifies : TurnIs Notified turn s.old → Delivers s.old s.memory
      → NotifiesOne (stopped_polling s) s.memory s.new s.memory_after → TurnCase Is turn s
  Waits : TurnIs Idle turn s.old → Delivers s.old s.memory → NothingToDeliver s.old s.memory
      → Unchanged (stopped_polling s) s.memory s.new s.memory_after → TurnCase Is turn s
  ResponseRingLost : TurnIs Dead turn s.old → Delivers s.old s.memory → ResponseRingOutsideMemory (stopped_polling s) s.memory
      → Unchanged (failed_port (stopped_polling s) RingRead) s.memory s.new s.memory_after → TurnCase Is turn s
  NoRoom : TurnIs Dead turn s.old → Delivers s.old s.memory → ResponseUnwritable (stopped_polling s) s.memory
      → Unchanged (failed_port (stopped_polling s) PacketWrite) s.memory s.new s.memory_after → TurnCase Is turn s
