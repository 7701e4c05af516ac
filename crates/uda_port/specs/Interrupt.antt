-- Interrupts, and the interrupt indicators of ring transitions.
-- UDA50 Programmer's Documentation Kit: initialization, interrupts, ring transitions.
use Rattle.std.specs.Prelude.{◌≡◌, ℕ, ◌+◌, ◌-◌, ◌*◌, ◌/◌, ◌%◌, ◌≤◌, ◌==◌, nat_le, nat_lt, Bool, false}
use Rattle.std.specs.Prelude.{◌&&◌, ◌||◌, List, Option, Some, None, IfSome, if◌then◌else◌}
use Rattle.uda_mem.specs.Put.{put}
use Rattle.uda_mem.specs.Words.{word_bytes}
use Rattle.uda_port.specs.declared.descriptor.Descriptor.{Descriptor}
use Rattle.uda_port.specs.declared.interrupt.Interrupts.{Interrupts}
use Rattle.uda_port.specs.declared.profile.Profile.{Profile}
use Rattle.uda_port.specs.declared.profile.Profile.TheVariants.{Strict, Compatible}
use Rattle.uda_port.specs.Ring.{is_owned, RingState, next_descriptor}

-- ---- requests

-- before the first word: no vector and no request
abbrev pub NO_INTERRUPTS : Interrupts
NO_INTERRUPTS = record { enabled = false; vector = 0; requested = false }

-- The settings of the first word. Bit 7 enables interrupts by steps of initialization, and bits 6-0 are a
-- quarter of their vector. The strict profile ignores them.
abbrev pub interrupts_asked : Profile → Interrupts → ℕ → Interrupts
interrupts_asked Strict i first = i
interrupts_asked (Compatible identity) i first =
    record { enabled = first / 0x80 % 2 == 1; vector = 4 * (first % 0x80); requested = false }

-- the vector 0 means that there is none, and nothing interrupts
abbrev pub has_vector : Interrupts → Bool
has_vector i = nat_lt 0 i.vector

-- a ring transition or a fatal error raises a request if there is a vector; the strict profile raises none
abbrev pub raised : Profile → Interrupts → Interrupts
raised Strict i = i
raised (Compatible identity) i = record i { requested = i.requested || has_vector i }

-- a step of initialization raises one if interrupts are enabled too
abbrev pub raised_by_step : Profile → Interrupts → Interrupts
raised_by_step Strict i = i
raised_by_step (Compatible identity) i = record i { requested = i.requested || (i.enabled && has_vector i) }

-- the vector of the pending request
abbrev pub vector_of : Interrupts → Option ℕ
vector_of i = if i.requested then Some i.vector else None

-- the vector address of a request
pub record IsVectorAddress (vector : ℕ) : Type 0 where
  pub aligned : vector % 4 ≡ 0
  pub least : 4 ≤ vector
  pub within : vector ≤ 0x1FC

-- no request is pending
abbrev pub served : Interrupts → Interrupts
served i = record i { requested = false }

-- ---- ring transitions

-- the flag bit is bit 14 of the second word: the host asks for an interrupt at a ring transition
abbrev pub is_flagged : Descriptor → Bool
is_flagged d = d.high / 0x4000 % 2 == 1

abbrev pub any_flagged : Option Descriptor → Bool
any_flagged None = false
any_flagged (Some d) = is_flagged d

abbrev pub any_owned : Option Descriptor → Bool
any_owned None = false
any_owned (Some d) = is_owned d

-- the ring with its index one back
abbrev pub ring_before : RingState → RingState
ring_before r = record r { place = (r.place + (r.count - 1)) % r.count }

-- A ring transition that the host asks about: the next descriptor has its flag set, and the port owns the one
-- before it. So the command ring was full, or the response ring empty, until the port returned the
-- descriptor. In a ring of one descriptor, the one before is the descriptor itself.
abbrev pub is_ring_transition : List ℕ → RingState → Bool
is_ring_transition memory r =
    any_flagged (next_descriptor memory r) && any_owned (next_descriptor memory (ring_before r))

-- the address n bytes below the ring base
abbrev pub word_below : ℕ → ℕ → Option ℕ
word_below base n = if nat_le n base then Some (base - n) else None

-- the interrupt indicator to set, if any; in the strict profile none
abbrev pub indicator_at : Profile → Option ℕ → List ℕ → RingState → Option ℕ
indicator_at Strict at memory r = None
indicator_at (Compatible identity) at memory r = if is_ring_transition memory r then at else None

-- the indicator is set to 1
abbrev pub memory_with_indicator : List ℕ → Option ℕ → List ℕ
memory_with_indicator memory None = memory
memory_with_indicator memory (Some at) = put memory at (word_bytes 1)

-- and a request is raised
abbrev pub noted : Option ℕ → Profile → Interrupts → Interrupts
noted None profile i = i
noted (Some at) profile i = raised profile i

-- the indicator is a word below a base
abbrev pub IsBelow : Option ℕ → ℕ → Type 0
IsBelow indicator base = IfSome indicator (λ at. (at % 2 ≡ 0) × (at + 2 ≤ base))
