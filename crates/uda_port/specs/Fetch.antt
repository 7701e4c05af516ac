-- What a fetch from a command ring does.
-- UDA50 Programmer's Documentation Kit: command ring polling, message envelopes.
use Rattle.std.specs.Prelude.{◌≡◌, ℕ, true, false, List, [], ◌∷◌, Option, Some, None, Result, Ok, Err}
use Rattle.uda_port.specs.declared.descriptor.Descriptor.{Descriptor}
use Rattle.uda_port.specs.declared.packet.Fetched.{Fetched}
use Rattle.uda_port.specs.declared.packet.Fetching.{Fetching}
use Rattle.uda_port.specs.declared.profile.Profile.{Profile}
use Rattle.uda_port.specs.declared.profile.Profile.TheVariants.{Strict}
use Rattle.uda_port.specs.declared.ring.NextDescriptor.{NextDescriptor}
use Rattle.uda_port.specs.declared.ring.NextDescriptor.TheVariants.{OutsideMemory, OwnedByHost, OwnedByPort}
use Rattle.uda_port.specs.declared.ring.RingFault.{RingFault}
use Rattle.uda_port.specs.declared.ring.RingFault.TheVariants.{Ring as RingLost, Packet as PacketLost}
use Rattle.uda_port.specs.Ring.{is_owned, RingState, next_descriptor, ring_advanced}
use Rattle.uda_port.specs.Ring.{memory_returned, posted_in}
use Rattle.uda_port.specs.Interrupt.{memory_with_indicator}
use Rattle.uda_port.specs.Packet.{HasPacket, IsPacketAt, text_address}

-- a fetch in the strict profile, which sets no interrupt indicator
abbrev pub STRICT_FETCHING : Fetching
STRICT_FETCHING = record { profile = Strict; indicator = None }

pub record Stays (old : RingState) (memory : List ℕ) (new : RingState) (memory_after : List ℕ) : Type 0 where
  pub state : new ≡ old
  pub memory_stays : memory_after ≡ memory

-- the port owns the next descriptor
pub record IsNext (r : RingState) (memory : List ℕ) (next : Descriptor) : Type 0 where
  pub is_next : next_descriptor memory r ≡ Some next
  pub owned : is_owned next ≡ true

-- the host owns the next descriptor
pub record HostOwnsNext (r : RingState) (memory : List ℕ) : Type 0 where
  pub next : Descriptor
  pub is_next : next_descriptor memory r ≡ Some next
  pub not_owned : is_owned next ≡ false

-- the next descriptor isn't wholly in memory
abbrev pub DescriptorOutsideMemory : RingState → List ℕ → Type 0
DescriptorOutsideMemory r memory = next_descriptor memory r ≡ None

-- where the next descriptor is, and who owns it
abbrev pub ReadsNext : RingState → List ℕ → NextDescriptor → Type 0
ReadsNext r memory OutsideMemory = DescriptorOutsideMemory r memory
ReadsNext r memory OwnedByHost = HostOwnsNext r memory
ReadsNext r memory (OwnedByPort next) = IsNext r memory next

-- the packet of the next descriptor is read, an interrupt indicator is set if needed, the descriptor is
-- returned, and the index advances around the ring
pub record Takes (f : Fetching) (old : RingState) (memory : List ℕ) (p : Fetched) (new : RingState)
    (memory_after : List ℕ) : Type 0 where
  pub first : Descriptor
  pub is_next : next_descriptor memory old ≡ Some first
  pub owned : is_owned first ≡ true
  pub readable : HasPacket memory (text_address f.profile first)
  pub is_packet : IsPacketAt memory (text_address f.profile first) p
  pub written : memory_after ≡ memory_returned (memory_with_indicator memory f.indicator) old first
  pub advanced : new ≡ ring_advanced old

-- the port owns the next descriptor, but its packet isn't wholly in memory or is at an odd address
pub record PacketUnreadable (profile : Profile) (old : RingState) (memory : List ℕ) : Type 0 where
  pub next : Descriptor
  pub is_next : next_descriptor memory old ≡ Some next
  pub owned : is_owned next ≡ true
  pub unreadable : HasPacket memory (text_address profile next) → ⊥

-- the complete effect of a fetch
abbrev pub FetchEffect :
    Fetching → RingState → List ℕ → Result (Option Fetched) RingFault → RingState → List ℕ → Type 0
FetchEffect f old memory (Ok (Some p)) new memory_after = Takes f old memory p new memory_after
FetchEffect f old memory (Ok None) new memory_after =
    HostOwnsNext old memory × Stays old memory new memory_after
FetchEffect f old memory (Err PacketLost) new memory_after =
    PacketUnreadable f.profile old memory × Stays old memory new memory_after
FetchEffect f old memory (Err RingLost) new memory_after =
    DescriptorOutsideMemory old memory × Stays old memory new memory_after

-- the next descriptor is the first that is posted, and what is posted afterwards is the rest
pub record TakesFirst (old : RingState) (memory : List ℕ) (new : RingState) (memory_after : List ℕ)
    : Type 0 where
  pub first : Descriptor
  pub is_next : next_descriptor memory old ≡ Some first
  pub in_order : posted_in memory old ≡ first ∷ posted_in memory_after new

-- the next descriptor is the first that is posted
pub record FirstStays (old : RingState) (memory : List ℕ) : Type 0 where
  pub first : Descriptor
  pub rest : List Descriptor
  pub is_next : next_descriptor memory old ≡ Some first
  pub is_first : posted_in memory old ≡ first ∷ rest

-- a fetch follows ring order
abbrev pub OrderKept : RingState → List ℕ → Result (Option Fetched) RingFault → RingState → List ℕ → Type 0
OrderKept old memory (Ok (Some p)) new memory_after = TakesFirst old memory new memory_after
OrderKept old memory (Ok None) new memory_after = posted_in memory old ≡ []
OrderKept old memory (Err PacketLost) new memory_after = FirstStays old memory
OrderKept old memory (Err RingLost) new memory_after = posted_in memory old ≡ []
