-- What a delivery to a response ring does.
-- UDA50 Programmer's Documentation Kit: response ring, message envelopes.
use Rattle.std.specs.Prelude.{◌≡◌, ℕ, Bool, true, false, List, length, Some}
use Rattle.uda_port.specs.declared.descriptor.Descriptor.{Descriptor}
use Rattle.uda_port.specs.declared.profile.Profile.{Profile}
use Rattle.uda_port.specs.Ring.{is_owned, RingState, next_descriptor, ring_advanced}
use Rattle.uda_port.specs.Ring.{memory_returned}
use Rattle.uda_port.specs.Interrupt.{memory_with_indicator}
use Rattle.uda_port.specs.declared.packet.Delivery.{Delivery}
use Rattle.uda_port.specs.Packet.{HasRoom, packet_put, text_address}
use Rattle.uda_port.specs.Fetch.{Stays}

-- the packet is written to the buffer of the next descriptor, an interrupt indicator is set if needed, and
-- the descriptor is returned
pub record Puts (d : Delivery) (old : RingState) (memory : List ℕ) (text : List ℕ) (new : RingState)
    (memory_after : List ℕ) : Type 0 where
  pub first : Descriptor
  pub is_next : next_descriptor memory old ≡ Some first
  pub owned : is_owned first ≡ true
  pub room : HasRoom d.profile memory (text_address d.profile first) (length text)
  pub written :
      memory_after
      ≡ memory_returned
      (memory_with_indicator (packet_put memory (text_address d.profile first) d.credits text) d.indicator) old first
  pub advanced : new ≡ ring_advanced old

-- the port owns the next descriptor, and a text of n bytes doesn't fit its buffer
pub record BufferUnusable (profile : Profile) (old : RingState) (memory : List ℕ) (n : ℕ) : Type 0 where
  pub next : Descriptor
  pub is_next : next_descriptor memory old ≡ Some next
  pub owned : is_owned next ≡ true
  pub no_room : HasRoom profile memory (text_address profile next) n → ⊥

-- the effect of a delivery to the next descriptor, which the port owns: whether the text fits its buffer
abbrev pub DeliveryEffect :
    Delivery → RingState → List ℕ → List ℕ → Bool → RingState → List ℕ → Type 0
DeliveryEffect d old memory text true new memory_after = Puts d old memory text new memory_after
DeliveryEffect d old memory text false new memory_after =
    BufferUnusable d.profile old memory (length text) × Stays old memory new memory_after
