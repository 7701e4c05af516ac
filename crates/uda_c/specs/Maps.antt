-- Map registers that C passes, and turns over memory through map registers.
-- PDP-11 UNIBUS map, VAX UNIBUS adapter, Q-bus map: map registers.
use Rattle.std.specs.Prelude.{◌≡◌, ◌≢◌, ◌↔◌, ℕ, List, ◌*◌, ◌%◌, ◌^◌, ◌==◌, ◌||◌, zero, suc, length, nat_lt, if◌then◌else◌, ◌⊎◌, Some}
use Rattle.uda_bus.specs.declared.map.MapForm.{MapForm}
use Rattle.uda_bus.specs.declared.map.Registers.{Registers}
use Rattle.uda_bus.specs.declared.map.Registers.TheVariants.{Apart, InMemory}
use Rattle.uda_bus.specs.Bytes.{shown, stored, AllLead}
use Rattle.uda_bus.specs.Turns.{TurnsThroughMap, WritesSaThroughMap}
use Rattle.uda_port.specs.declared.trace.Trace.{Trace}
use Rattle.uda_port.specs.declared.turn.Turn.{Turn}
use Rattle.uda_port.specs.Trace.{turn_of, Traces}
use Rattle.uda_c.specs.declared.call_status.CallStatus.{CallStatus}
use Rattle.uda_c.specs.declared.call_status.CallStatus.TheVariants.{Done, RanTurn, NoMemory, BadLength, TooLarge, BadMap, Nowhere}
use Rattle.uda_c.specs.declared.map.MapRegisters.{MapRegisters}
use Rattle.uda_c.specs.declared.map.MappedBus.{MappedBus}
use Rattle.uda_c.specs.Runs.{Machine, does_nothing, AfterTurn}

-- where the registers are, and how many
abbrev pub registers_of : MapRegisters → Registers
registers_of m = if m.in_memory == 0 then Apart m.registers else InMemory m.at m.in_memory

abbrev pub register_count : MapRegisters → ℕ
register_count m = if m.in_memory == 0 then length m.registers.now else m.in_memory

-- how an address and a register are read
abbrev pub form_of : MapRegisters → MapForm
form_of m = record { page = m.page; frame = m.frame; valid = m.valid; scale = m.scale }

-- the status of a bus with this many registers, each for a page: it has at most as many addresses as a Q-bus, and an
-- even number of them
abbrev pub bus_answer : ℕ → ℕ → CallStatus
bus_answer count page =
    if nat_lt (2 ^ 22) (count * 2 ^ page) then TooLarge else if count * 2 ^ page % 2 == 0 then Done else BadLength

-- the status of a map: the bits of an offset, and the places of a shift, are at most 31
abbrev pub map_answer : MapRegisters → CallStatus
map_answer m =
    if nat_lt 31 m.page || nat_lt 31 m.scale then BadMap else bus_answer (register_count m) m.page

-- the bus of these registers: its map, and one address for each byte of each page
pub record IsBusOf (m : MapRegisters) (bus : MappedBus) : Type 0 where
  pub registers : bus.map.registers ≡ registers_of m
  pub form : bus.map.form ≡ form_of m
  pub size : bus.size ≡ register_count m * 2 ^ m.page

-- one turn over memory through map registers, whose record is stored as the last
pub record TakesTurnThroughMap (bus : MappedBus) (before : Machine) (answer : CallStatus) (after : Machine)
    : Type 0 where
  pub trace : Trace
  pub answer_is : answer ≡ RanTurn (turn_of trace)
  pub last_is : after.0.last ≡ Some trace
  pub rest_stays : after.0 ≡ record before.0 { port = after.0.port; last = after.0.last }
  pub tells : Traces trace before.0.port after.0.port
  pub goes : TurnsThroughMap bus.map bus.size (before.0.port, before.1) (turn_of trace) (after.0.port, after.1)

-- at most `limit` turns, as in memory that is one array
abbrev pub TakesTurnsThroughMap : MappedBus → ℕ → CallStatus → Machine → CallStatus × Machine → Type 0
TakesTurnsThroughMap bus zero before old after = (after.0 ≡ before) × (after.1 ≡ old)
TakesTurnsThroughMap bus (suc limit) before old after =
    (turn : Turn) × (next : Machine) × TakesTurnThroughMap bus old (RanTurn turn) next
    × AfterTurn (does_nothing turn) ((after.0 ≡ RanTurn turn) × (after.1 ≡ next))
    (TakesTurnsThroughMap bus limit (RanTurn turn) next after)

-- a call over a map: it does nothing if the map is invalid, or if memory for the window can't be allocated
pub record OverMap (m : MapRegisters) (before : Machine) (answer : CallStatus) (after : Machine)
    (Does : MappedBus → Type 0) : Type 0 where
  pub does : map_answer m ≡ Done
      → ((bus : MappedBus) × IsBusOf m bus × Does bus) ⊎ ((answer ≡ NoMemory) × (after ≡ before))
  pub refuses : map_answer m ≢ Done → (answer ≡ map_answer m) × (after ≡ before)

-- a word written to SA over memory through map registers
pub record WritesSaOver (bus : MappedBus) (before : Machine) (word : ℕ) (answer : CallStatus) (after : Machine)
    : Type 0 where
  pub answer_is : answer ≡ Done
  pub steps : WritesSaThroughMap bus.map bus.size (before.0.port, before.1) word (after.0.port, after.1)
  pub rest_stays : after.0 ≡ record before.0 { port = after.0.port }

-- bytes that a bus shows from an address on, and whether each address leads to a byte of memory
pub record ReadsBus (bus : MappedBus) (memory : List ℕ) (address : ℕ) (answer : CallStatus) (copied : List ℕ × List ℕ)
    : Type 0 where
  pub shown : copied.1 ≡ shown bus.map memory address (length copied.0)
  pub whole : (answer ≡ Done) ↔ AllLead bus.map memory address (length copied.0)
  pub nowhere : answer ≢ Done → answer ≡ Nowhere

pub record ReadsMapped (m : MapRegisters) (memory : List ℕ) (address : ℕ) (answer : CallStatus)
    (copied : List ℕ × List ℕ) : Type 0 where
  pub reads : map_answer m ≡ Done
      → (bus : MappedBus) × IsBusOf m bus × ReadsBus bus memory address answer copied
  pub refuses : map_answer m ≢ Done → (answer ≡ map_answer m) × (copied.1 ≡ copied.0)

-- bytes that are stored on a bus from an address on
pub record WritesMapped (m : MapRegisters) (memory : List ℕ × List ℕ) (address : ℕ) (from : List ℕ)
    (answer : CallStatus) : Type 0 where
  pub writes : map_answer m ≡ Done → (bus : MappedBus) × IsBusOf m bus
      × ((answer ≡ Done) × (memory.1 ≡ stored bus.map memory.0 address from))
  pub refuses : map_answer m ≢ Done → (answer ≡ map_answer m) × (memory.1 ≡ memory.0)
