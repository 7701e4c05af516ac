-- Lists of arbitrary host events, and the causes of fatal errors.
-- UDA50 Programmer's Documentation Kit: port registers, fatal errors.
use Rattle.std.specs.Prelude.{◌≡◌, ◌≢◌, ℕ, ◌<◌, ◌≤◌, ◌⊎◌, ⊤, true, false, List, [], ◌∷◌, ◌++◌, length}
use Rattle.std.specs.Prelude.{All}
use Rattle.uda_mem.specs.Put.{put}
use Rattle.uda_mem.specs.Words.{HasWord, word_bytes}
use Rattle.uda_port.specs.declared.phase.Phase.{Phase}
use Rattle.uda_port.specs.declared.phase.Phase.TheVariants.{Step1, Step2, Step3, Running, Dead}
use Rattle.uda_port.specs.declared.phase.Fatal.{Fatal}
use Rattle.uda_port.specs.declared.phase.Fatal.TheVariants.{PacketRead, PacketWrite, RingRead, RingWrite}
use Rattle.uda_port.specs.declared.phase.Fatal.TheVariants.{CreditsExceeded, InvalidConnection, InitializationError}
use Rattle.uda_port.specs.declared.profile.Profile.{Profile}
use Rattle.uda_port.specs.declared.profile.Profile.TheVariants.{Strict, Compatible}
use Rattle.uda_port.specs.declared.turn.Turn.{Turn}
use Rattle.uda_port.specs.declared.play.HostEvent.{HostEvent}
use Rattle.uda_port.specs.declared.play.HostEvent.TheVariants.{WriteIp, ReadIp, WriteSa, Word}
use Rattle.uda_port.specs.declared.play.HostEvent.TheVariants.{Turn as TurnEvent}
use Rattle.uda_port.specs.Port.{PortState, port_restarted, port_after_ip_read}
use Rattle.uda_port.specs.Startup.{has_bit, area_of, has_area, after_sa_write}
use Rattle.uda_port.specs.Turn.{port_turn_on, Unchanged, TurnEffect, NothingToFetch, CommandRingOutsideMemory}
use Rattle.uda_port.specs.Turn.{CommandUnreadable, ExceedsCredits, HasInvalidConnection, ResponseRingOutsideMemory, ResponseUnwritable}

-- ---- events, one after another

-- a word is written if memory has one at the address; otherwise nothing changes
pub record WritesWord (address word : ℕ) (memory memory_after : List ℕ) : Type 0 where
  pub there : HasWord memory address → memory_after ≡ put memory address (word_bytes word)
  pub nowhere : (HasWord memory address → ⊥) → memory_after ≡ memory

-- the effect of one event
abbrev pub EventEffect : HostEvent → PortState → List ℕ → PortState → List ℕ → Type 0
EventEffect WriteIp old memory new memory_after =
    (new ≡ port_restarted old) × (memory_after ≡ memory)
EventEffect ReadIp old memory new memory_after = (new ≡ port_after_ip_read old.phase old) × (memory_after ≡ memory)
EventEffect (WriteSa word) old memory new memory_after = (new, memory_after) ≡ after_sa_write old.phase old memory word
EventEffect (Word address word) old memory new memory_after =
    (new ≡ old) × WritesWord address word memory memory_after
EventEffect TurnEvent old memory new memory_after =
    (turn : Turn) × TurnEffect old.phase old memory turn new memory_after

-- the effect of a list of events, in order
abbrev pub EventsEffect : List HostEvent → PortState → List ℕ → PortState → List ℕ → Type 0
EventsEffect [] old memory new memory_after = Unchanged old memory new memory_after
EventsEffect (event ∷ rest) old memory new memory_after =
    (between : PortState × List ℕ) × EventEffect event old memory between.0 between.1
    × EventsEffect rest between.0 between.1 new memory_after

-- ---- causes of fatal errors

-- a running port has nothing to fetch and nothing to execute
pub record Delivers (port : PortState) (memory : List ℕ) : Type 0 where
  pub nothing_to_fetch : NothingToFetch port memory
  pub nothing_pending : port.exec.pending ≡ []

-- the third word sets no bit that the profile doesn't support
abbrev pub IsHighPart : Profile → ℕ → Type 0
IsHighPart Strict word = word ≤ 3
IsHighPart (Compatible identity) word = ⊤

-- a word of initialization asks for an unsupported feature
abbrev pub AsksMore : Phase → Profile → ℕ → Type 0
AsksMore Step1 Strict word = (has_bit word 15 ≡ true) × (has_bit word 14 ≡ true)
AsksMore (Step2 first) Strict word = has_bit word 0 ≡ true
AsksMore (Step3 first second) Strict word = 3 < word
AsksMore _ profile word = ⊥

-- the communication area that the words describe isn't in memory
abbrev pub AreaOutsideMemory : Phase → Profile → ℕ → List ℕ → Type 0
AreaOutsideMemory (Step3 first second) profile word memory =
    IsHighPart profile word × (has_area (area_of profile first second word) (length memory) ≡ false)
AreaOutsideMemory _ profile word memory = ⊥

-- a turn of a running port fetches a packet that it must reject
pub record FetchesInvalid (Bad : PortState → List ℕ → PortState → List ℕ → Type 0) (port : PortState)
    (memory : List ℕ) : Type 0 where
  pub new : PortState
  pub memory_after : List ℕ
  pub bad : Bad port memory new memory_after

-- the condition of each cause in a turn; a turn never has a cause of initialization
abbrev pub FatalTurn : Fatal → PortState → List ℕ → Type 0
FatalTurn PacketRead port memory = CommandUnreadable port memory
FatalTurn PacketWrite port memory = Delivers port memory × ResponseUnwritable port memory
FatalTurn RingRead port memory =
    CommandRingOutsideMemory port memory ⊎ (Delivers port memory × ResponseRingOutsideMemory port memory)
FatalTurn CreditsExceeded port memory = FetchesInvalid ExceedsCredits port memory
FatalTurn InvalidConnection port memory = FetchesInvalid HasInvalidConnection port memory
FatalTurn RingWrite port memory = ⊥
FatalTurn InitializationError port memory = ⊥

-- the condition of each cause in a word of initialization; a word never has a cause of a turn
abbrev pub FatalWord : Fatal → ℕ → PortState → List ℕ → Type 0
FatalWord RingWrite word port memory = AreaOutsideMemory port.phase port.profile word memory
FatalWord InitializationError word port memory = AsksMore port.phase port.profile word
FatalWord _ word port memory = ⊥

-- An event meets a cause. Only a turn of a running port, which counts itself first, and a word of
-- initialization can.
abbrev pub MeetsCause : Fatal → HostEvent → PortState → List ℕ → Type 0
MeetsCause cause (WriteSa word) port memory = FatalWord cause word port memory
MeetsCause cause TurnEvent port memory = (port.phase ≡ Running) × FatalTurn cause (port_turn_on port) memory
MeetsCause cause _ port memory = ⊥

-- no event writes IP
abbrev pub LeavesIp : List HostEvent → Type 0
LeavesIp events = All (λ event. event ≢ WriteIp) events

-- a port with its memory, before or after an event
abbrev pub PortWithMemory : Type 0
PortWithMemory = PortState × List ℕ

-- an event met the cause, and the port is dead of it afterwards
pub record IsFatalEvent (cause : Fatal) (event : HostEvent) (found left : PortWithMemory) : Type 0 where
  pub meets : MeetsCause cause event found.0 found.1
  pub goes : EventEffect event found.0 found.1 left.0 left.1
  pub dead : left.0.phase ≡ Dead cause

-- The events before led to the state in which the fatal event came. That event met the cause. The remaining
-- events, none of which writes IP, led to the final state.
pub record DiedAtEvent (cause : Fatal) (events : List HostEvent) (start finish : PortWithMemory) : Type 0 where
  pub before : List HostEvent
  pub fatal : HostEvent
  pub rest : List HostEvent
  pub are : events ≡ before ++ fatal ∷ rest
  pub found : PortWithMemory
  pub led_there : EventsEffect before start.0 start.1 found.0 found.1
  pub left : PortWithMemory
  pub kills : IsFatalEvent cause fatal found left
  pub led_on : EventsEffect rest left.0 left.1 finish.0 finish.1
  pub leaves_ip : LeavesIp rest

-- the port was dead of the same cause before, and no event writes IP
pub record StaysDead (cause : Fatal) (events : List HostEvent) (old : PortState) : Type 0 where
  pub was : old.phase ≡ Dead cause
  pub leaves_ip : LeavesIp events

-- If a port is dead, an event met just that cause, or the port was dead of it before. A dead port remains
-- dead until IP is written.
pub record DeathHasCause (events : List HostEvent) (old : PortState) (memory : List ℕ)
    (new : PortState) (memory_after : List ℕ) : Type 0 where
  pub dies : (cause : Fatal) → new.phase ≡ Dead cause
      → StaysDead cause events old ⊎ DiedAtEvent cause events (old, memory) (new, memory_after)
  pub stays : (cause : Fatal) → StaysDead cause events old → new.phase ≡ Dead cause
