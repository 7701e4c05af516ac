-- What a turn reads and writes of host memory. A caller with memory through map registers copies only that.
-- UDA50 Programmer's Documentation Kit: command ring polling, message envelopes, UNIBUS addresses.
use Rattle.std.specs.Prelude.{◌≡◌, ◌≤◌, ◌<◌, ℕ, ◌+◌, ◌-◌, ◌%◌, min, max, Bool, true, false, ◌&&◌, nat_eq, nat_le, List, [], ◌∷◌, length}
use Rattle.std.specs.Prelude.{Option, Some, None, if◌then◌else◌, All, ⊤, slice_get}
use Rattle.std.specs.Option.{option_map_or}
use Rattle.uda_mem.specs.declared.range.ByteRange.{ByteRange}
use Rattle.uda_mem.specs.Ranges.{EMPTY_RANGE, range_in, SameIn, carried}
use Rattle.uda_mem.specs.Words.{word_at}
use Rattle.uda_packet.specs.declared.command.Command.{Command}
use Rattle.uda_exec.specs.declared.buffer_use.BufferUse.{BufferUse}
use Rattle.uda_exec.specs.BufferUse.{buffer_use_at, bytes_moved}
use Rattle.uda_exec.specs.Order.{IsEligible}
use Rattle.uda_port.specs.declared.memory_use.Body.{Body}
use Rattle.uda_port.specs.declared.memory_use.Missing.{Missing}
use Rattle.uda_port.specs.declared.turn_at.TurnTaken.{TurnTaken}
use Rattle.uda_port.specs.declared.turn_at.Fate.{Fate}
use Rattle.uda_port.specs.declared.turn_at.Fate.TheVariants.{Usual, FailsInFetch, FailsLater, WithoutBuffer}
use Rattle.uda_port.specs.declared.phase.Fatal.{Fatal}
use Rattle.uda_port.specs.declared.phase.Fatal.TheVariants.{PacketRead, PacketWrite, RingRead}
use Rattle.uda_port.specs.declared.phase.Phase.{Phase}
use Rattle.uda_port.specs.declared.phase.Phase.TheVariants.{Running}
use Rattle.uda_port.specs.declared.profile.Profile.{Profile}
use Rattle.uda_port.specs.declared.profile.Profile.TheVariants.{Strict, Compatible}
use Rattle.uda_port.specs.declared.turn.Turn.{Turn}
use Rattle.uda_port.specs.declared.turn.Turn.TheVariants.{Executed, Dead}
use Rattle.uda_port.specs.Possible.{CanDie}
use Rattle.uda_port.specs.Ring.{RingState, descriptor_address}
use Rattle.uda_port.specs.Interrupt.{ring_before}
use Rattle.uda_port.specs.Packet.{text_address}
use Rattle.uda_port.specs.declared.plan.Plan.{Plan}
use Rattle.uda_port.specs.declared.plan.Plan.TheVariants.{ToFetch, ToExecute, ToWait, NoResponseRing, ToDeliver}
use Rattle.uda_port.specs.Plan.{plan_of, looks_at_commands, looks_at_responses}
use Rattle.uda_port.specs.Port.{PortState, command_indicator, response_indicator}
use Rattle.uda_port.specs.Startup.{failed_port}
use Rattle.uda_port.specs.Turn.{TurnEffect, ExecutesOne, may_fetch, port_turn_on, port_not_polling}

-- ---- ranges

-- the next descriptor of a ring, if the turn looks at it
abbrev pub looked_at : Bool → List ℕ → RingState → ByteRange
looked_at looks memory r = if looks then range_in memory (descriptor_address r) 4 else EMPTY_RANGE

abbrev pub command_range : PortState → List ℕ → ByteRange
command_range port memory = looked_at (looks_at_commands port) memory port.commands

abbrev pub response_range : PortState → List ℕ → ByteRange
response_range port memory = looked_at (looks_at_responses port) memory port.responses

-- the next descriptor of each ring that the turn looks at, and the one before it
abbrev pub descriptor_ranges : PortState → List ℕ → List ByteRange
descriptor_ranges port memory =
    command_range port memory
    ∷ looked_at (looks_at_commands port) memory (ring_before port.commands)
    ∷ response_range port memory
    ∷ looked_at (looks_at_responses port) memory (ring_before port.responses) ∷ []

-- a packet with a text of n bytes at an address: its text, and the four bytes below it
abbrev pub packet_range : List ℕ → ℕ → ℕ → ByteRange
packet_range memory at n = range_in memory (at - 4) (n + 4)

-- an interrupt indicator, if it is set
abbrev pub indicator_range : Option ℕ → ByteRange
indicator_range None = EMPTY_RANGE
indicator_range (Some at) = record { at = at; bytes = 2 }

-- the second word of the next descriptor
abbrev pub returned_range : RingState → ByteRange
returned_range r = record { at = descriptor_address r + 2; bytes = 2 }

abbrev pub NONE_WRITTEN : List ByteRange
NONE_WRITTEN = EMPTY_RANGE ∷ EMPTY_RANGE ∷ EMPTY_RANGE ∷ EMPTY_RANGE ∷ []

-- ---- what the next turn uses

-- What a turn uses of memory besides the descriptors: the packet or the buffer, whether it reads that, and what it may
-- write, in this order.
pub record MemoryUse : Type 0 where
  pub body : ByteRange
  pub reads_body : Bool
  pub written : List ByteRange

-- the body of such a use
pub record IsBody (body : Body) (uses : MemoryUse) : Type 0 where
  pub range_is : body.range ≡ uses.body
  pub read_is : body.is_read ≡ uses.reads_body

-- nothing but the descriptors
abbrev pub NO_USE : MemoryUse
NO_USE = record { body = EMPTY_RANGE; reads_body = false; written = NONE_WRITTEN }

-- whether a packet with a text of n bytes is usable at an address
abbrev pub has_text : List ℕ → ℕ → ℕ → Bool
has_text memory at n = nat_eq (at % 2) 0 && (nat_le 4 at && nat_le (at + n) (length memory))

-- whether a text of n bytes can be written there
abbrev pub has_room : Profile → List ℕ → ℕ → ℕ → Bool
has_room Strict memory at n = has_text memory at 48 && nat_le 48 (word_at memory (at - 4))
has_room (Compatible identity) memory at n = has_text memory at n

-- What a fetch writes, by whether its packet is usable: the interrupt indicator, if one is set, and the second word
-- of the command descriptor, in this order. With an unusable packet the port fails and writes nothing.
abbrev pub written_by_fetch : PortState → List ℕ → Bool → List ByteRange
written_by_fetch port memory false = NONE_WRITTEN
written_by_fetch port memory true =
    indicator_range (command_indicator port memory) ∷ returned_range port.commands ∷ EMPTY_RANGE
    ∷ EMPTY_RANGE ∷ []

-- The port owns the next command descriptor, and the text of its packet is at this address. The turn fetches the
-- packet: it reads the 48 bytes of the text and the four below them.
abbrev pub fetch_use : PortState → List ℕ → ℕ → MemoryUse
fetch_use port memory at = record {
  body = packet_range memory at 48;
  reads_body = true;
  written = written_by_fetch port memory (has_text memory at 48);
}

-- The number of bytes that a command looks up at its buffer's address: all that it uses. A transfer of 0 bytes looks up
-- one, since its address may lead nowhere. Address 0 is never past the end of memory.
abbrev pub looked_up : BufferUse → ℕ
looked_up u = max u.used (min u.start 1)

-- A command uses its buffer. One that changes it doesn't read it.
abbrev pub command_use : List ℕ → Option BufferUse → MemoryUse
command_use memory None = NO_USE
command_use memory (Some u) = record {
  body = range_in memory u.start (looked_up u);
  reads_body = nat_eq u.changed 0;
  written = range_in memory u.start u.changed ∷ EMPTY_RANGE ∷ EMPTY_RANGE ∷ EMPTY_RANGE ∷ [];
}

-- a delivery writes the text, its envelope, the interrupt indicator and the descriptor, in this order, if
-- there is room
abbrev pub written_by_delivery : PortState → List ℕ → ByteRange → Bool → List ByteRange
written_by_delivery port memory text false = NONE_WRITTEN
written_by_delivery port memory text true =
    text ∷ record { at = text.at - 4; bytes = 4 } ∷ indicator_range (response_indicator port memory)
    ∷ returned_range port.responses ∷ []

abbrev pub delivery_use : PortState → List ℕ → ByteRange → MemoryUse
delivery_use port memory text = record {
  body = packet_range memory text.at text.bytes;
  reads_body = true;
  written = written_by_delivery port memory text (has_room port.profile memory text.at text.bytes);
}

-- what a plan uses, if it executes the pending command at index j
abbrev pub use_by : PortState → List ℕ → ℕ → Plan → MemoryUse
use_by port memory j (ToFetch d) = fetch_use port memory (text_address port.profile d)
use_by port memory j ToExecute = command_use memory (buffer_use_at port.exec j)
use_by port memory j (ToDeliver d n) =
    delivery_use port memory (record { at = text_address port.profile d; bytes = n })
use_by port memory j _ = NO_USE

-- what the next turn uses, if it executes the pending command at index j when it executes one
abbrev pub use_of : PortState → List ℕ → ℕ → MemoryUse
use_of port memory j = use_by port memory j (plan_of port memory)

-- ---- addresses that lead nowhere

-- A turn is as usual. Or it fails with a fatal error, before it stops polling or afterwards. Or it executes a
-- command as if memory had no bytes.
abbrev pub fate_at : Missing → Plan → Fate
fate_at missing (ToFetch d) = if missing.body then FailsInFetch PacketRead else Usual
fate_at missing ToExecute = if missing.body then WithoutBuffer else Usual
fate_at missing (ToDeliver d n) =
    if missing.responses then FailsLater RingRead else if missing.body then FailsLater PacketWrite else Usual
fate_at missing ToWait = if missing.responses then FailsLater RingRead else Usual
fate_at missing NoResponseRing = if missing.responses then FailsLater RingRead else Usual
fate_at missing _ = Usual

-- a port that may fetch reads the next command descriptor first
abbrev pub fate_running : Missing → Bool → Plan → Fate
fate_running missing looks plan = if looks && missing.commands then FailsInFetch RingRead else fate_at missing plan

abbrev pub fate_in : Phase → Missing → Bool → Plan → Fate
fate_in Running missing looks plan = fate_running missing looks plan
fate_in _ missing looks plan = Usual

-- how the next turn goes, by its plan
abbrev pub fate_of : Missing → PortState → List ℕ → Fate
fate_of missing port memory = fate_in port.phase missing (may_fetch port) (plan_of port memory)

-- a port of this profile and in this phase can have this fate
abbrev pub CanFail : Profile → Phase → Fate → Type 0
CanFail profile phase (FailsInFetch cause) = CanDie profile phase cause
CanFail profile phase (FailsLater cause) = CanDie profile phase cause
CanFail profile phase _ = ⊤

-- the port fails, and memory is unchanged
pub record FailsUnread (cause : Fatal) (before : PortState) (turn : Turn) (new : PortState) : Type 0 where
  pub answer : turn ≡ Dead
  pub died : new ≡ failed_port before cause

-- a usual turn: if it executes a command, that is the pending command at this index
pub record TurnsAt (place : ℕ) (before : PortState × List ℕ) (turn : Turn) (after : PortState × List ℕ) : Type 0 where
  pub goes : TurnEffect before.0.phase before.0 before.1 turn after.0 after.1
  pub executes : turn ≡ Executed
      → ExecutesOne place (port_not_polling (port_turn_on before.0)) before.1 after.0 after.1

-- the pending command at this index is executed as if memory had no bytes
pub record ExecutesWithout (place : ℕ) (before : PortState) (turn : Turn) (new : PortState) : Type 0 where
  pub answer : turn ≡ Executed
  pub executes : ExecutesOne place before [] new []

-- a turn that has this fate, and the index of the command that it executes, if it executes one
abbrev pub EffectBy : Fate → ℕ → PortState × List ℕ → Turn → PortState × List ℕ → Type 0
EffectBy Usual place before turn after = TurnsAt place before turn after
EffectBy (FailsInFetch cause) place before turn after =
    FailsUnread cause (port_turn_on before.0) turn after.0 × (after.1 ≡ before.1)
EffectBy (FailsLater cause) place before turn after =
    FailsUnread cause (port_not_polling (port_turn_on before.0)) turn after.0 × (after.1 ≡ before.1)
EffectBy WithoutBuffer place before turn after =
    ExecutesWithout place (port_not_polling (port_turn_on before.0)) turn after.0 × (after.1 ≡ before.1)

-- A turn of which some addresses lead nowhere: the rule that needs one of them is as at the end of memory. If the
-- turn executes a command, that is the pending command at this index.
abbrev pub EffectWithout : Missing → ℕ → PortState × List ℕ → Turn → PortState × List ℕ → Type 0
EffectWithout missing place before turn after =
    EffectBy (fate_of missing before.0 before.1) place before turn after

abbrev pub written_by_fate : Fate → List ByteRange → List ByteRange
written_by_fate Usual ranges = ranges
written_by_fate _ ranges = NONE_WRITTEN

-- what the turn may write, in this order
abbrev pub writable_of : Missing → PortState → List ℕ → ℕ → List ByteRange
writable_of missing port memory j = written_by_fate (fate_of missing port memory) (use_of port memory j).written

-- the first n bytes of a range
abbrev pub first_of : ByteRange → ℕ → ByteRange
first_of r n = record { at = r.at; bytes = min r.bytes n }

-- what a turn of this plan wrote of these ranges: an executed command the n bytes that its end message counts
abbrev pub written_after : Plan → ℕ → List ByteRange → List ByteRange
written_after ToExecute n (buffer ∷ rest) = first_of buffer n ∷ rest
written_after _ n ranges = ranges

-- the byte count of the newest end message of a port
abbrev pub newest_count : PortState → ℕ
newest_count port = option_map_or (λ r. bytes_moved r.body) (slice_get port.waiting (length port.waiting - 1)) 0

-- what a turn wrote, in this order, if its end message counts n bytes
abbrev pub written_of : Missing → PortState × List ℕ → ℕ → ℕ → List ByteRange
written_of missing before j n =
    written_after (plan_of before.0 before.1) n (writable_of missing before.0 before.1 j)

-- ---- the law

-- a memory of the same length that has the same descriptors where the turn reads them
pub record AgreesInDescriptors (port : PortState) (memory other : List ℕ) : Type 0 where
  pub same_length : length other ≡ length memory
  pub same_descriptors : All (SameIn memory other) (descriptor_ranges port memory)

-- a memory of the same length that has the same bytes where the turn reads: not in a Read's buffer
pub record Agrees (port : PortState) (j : ℕ) (memory other : List ℕ) : Type 0 where
  pub same_length : length other ≡ length memory
  pub same_descriptors : All (SameIn memory other) (descriptor_ranges port memory)
  pub same_body : (use_of port memory j).reads_body ≡ true → SameIn memory other (use_of port memory j).body

-- A turn changed memory only in the ranges that it may write. In any other memory that agrees where the turn reads, it
-- has the same effect, and leaves there what is carried of the ranges that it wrote.
pub record IsLocal (missing : Missing) (j : ℕ) (before : PortState × List ℕ) (taken : TurnTaken)
    (after : PortState × List ℕ) : Type 0 where
  pub only : after.1 ≡ carried (writable_of missing before.0 before.1 j) after.1 before.1
  pub elsewhere : (other : List ℕ) → Agrees before.0 j before.1 other
      → EffectWithout missing j (before.0, other) taken.turn (after.0, carried taken.written after.1 other)

-- the pending command at index j is eligible, if any is pending
abbrev pub IsPlace : List Command → ℕ → Type 0
IsPlace pending j = 0 < length pending → IsEligible pending j

-- a choice of the next command: the pending command at this index, or None if the port itself chooses
abbrev pub IsChoice : List Command → Option ℕ → Type 0
IsChoice pending choice = (j : ℕ) → choice ≡ Some j → IsPlace pending j

-- a turn that executes a command executes the one that was chosen
abbrev pub ExecutesChosen : Option ℕ → Turn → PortState × List ℕ → PortState × List ℕ → Type 0
ExecutesChosen choice turn before after =
    (j : ℕ) → choice ≡ Some j → turn ≡ Executed → ExecutesOne j before.0 before.1 after.0 after.1

-- What the law needs, and each port keeps. The index of the next command descriptor is within its ring. The response
-- ring is at an even address, and the command ring isn't below it. So the interrupt indicator that a fetch sets is a
-- word below both rings, and no part of a descriptor. No command of a strict port has an additional operation.
pub record HasValidRings (port : PortState) : Type 0 where
  pub place : port.commands.place < port.commands.count
  pub even : port.responses.base % 2 ≡ 0
  pub ordered : port.responses.base ≤ port.commands.base
  pub strict : port.profile ≡ Strict → port.exec.guest_ops ≡ []
