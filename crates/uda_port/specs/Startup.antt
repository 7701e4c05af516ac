-- Initialization: the effect of each word that the host writes to SA, by the phase of the port.
-- UDA50 Programmer's Documentation Kit: initialization, communication area, fatal errors.
use Rattle.std.specs.Prelude.{◌≡◌, ℕ, ◌+◌, ◌-◌, ◌*◌, ◌/◌, ◌%◌, ◌^◌, ◌==◌, ◌<◌, ◌≤◌, Bool, false, ◌&&◌, nat_le}
use Rattle.std.specs.Prelude.{nat_lt, IsTrue, List, length, replicate, if◌then◌else◌}
use Rattle.uda_mem.specs.Put.{put}
use Rattle.uda_port.specs.declared.phase.Phase.{Phase}
use Rattle.uda_port.specs.declared.phase.Phase.TheVariants.{Step1, Step2, Step3, Wrap, PurgeTest, PollTest, Step4}
use Rattle.uda_port.specs.declared.phase.Phase.TheVariants.{Running, Dead}
use Rattle.uda_port.specs.declared.phase.Fatal.{Fatal}
use Rattle.uda_port.specs.declared.phase.Fatal.TheVariants.{PacketRead, PacketWrite, RingRead, RingWrite}
use Rattle.uda_port.specs.declared.phase.Fatal.TheVariants.{CreditsExceeded, InvalidConnection, InitializationError}
use Rattle.uda_port.specs.declared.profile.Profile.{Profile}
use Rattle.uda_port.specs.declared.profile.Profile.TheVariants.{Strict, Compatible}
use Rattle.uda_port.specs.declared.area.Area.{Area}
use Rattle.uda_packet.specs.declared.guest_end.Bus.{Bus}
use Rattle.uda_packet.specs.declared.guest_end.Bus.TheVariants.{Unibus, Qbus}
use Rattle.uda_port.specs.Ring.{is_ring_length}
use Rattle.uda_port.specs.Interrupt.{interrupts_asked, raised}
use Rattle.uda_port.specs.Port.{PortState, port_in_phase}

-- the codes of the fatal errors
abbrev pub code_of : Fatal → ℕ
code_of PacketRead = 1
code_of PacketWrite = 2
code_of RingRead = 6
code_of RingWrite = 7
code_of CreditsExceeded = 10
code_of InvalidConnection = 14
code_of InitializationError = 19

-- What SA shows. In step 1: S1. In step 2: S2 with the high byte of the first word. In step 3: S3 with its
-- low byte. In step 4: S4 with module 6 and version 3. In wrap mode: the last word that the host wrote.
-- During the purge and poll test and while the port runs: 0. After a fatal error: ER with its code.
abbrev pub sa_of : Phase → ℕ
sa_of Step1 = 0x0800
sa_of (Step2 first) = 0x1000 + first / 256
sa_of (Step3 first second) = 0x2000 + first % 256
sa_of (Wrap word) = word
sa_of PurgeTest = 0
sa_of PollTest = 0
sa_of Step4 = 0x4063
sa_of Running = 0
sa_of (Dead cause) = 0x8000 + code_of cause

-- the compatible profile shows in steps 1 and 4 which controller it is: a UDA50, or an RQDX3 on a Q-bus
abbrev pub guest_sa : Bus → Phase → ℕ
guest_sa Unibus Step1 = 0x0940
guest_sa Qbus Step1 = 0x0B40
guest_sa Qbus Step4 = 0x4133
guest_sa bus phase = sa_of phase

abbrev pub sa_by : Profile → Phase → ℕ
sa_by Strict phase = sa_of phase
sa_by (Compatible identity) phase = guest_sa identity.bus phase

-- what SA shows in the port's profile
abbrev pub sa_shown : PortState → ℕ
sa_shown port = sa_by port.profile port.phase

-- a bit of a word
abbrev pub has_bit : ℕ → ℕ → Bool
has_bit word bit = word / 2 ^ bit % 2 == 1

-- the lengths of the rings: their exponents are bits 10-8 of the first word for responses, and bits 13-11 for
-- commands
abbrev pub response_count : ℕ → ℕ
response_count first = 2 ^ (first / 0x100 % 8)

abbrev pub command_count : ℕ → ℕ
command_count first = 2 ^ (first / 0x800 % 8)

-- the ring base: bits 15-1 of the second word, with the third word above them
abbrev pub ring_base : ℕ → ℕ → ℕ
ring_base second third = 2 * (second / 2) + 0x10000 * third

-- the number of values of an address above bit 15: UNIBUS addresses have 18 bits, Q-bus addresses 22
abbrev pub high_addresses : Bus → ℕ
high_addresses Unibus = 4
high_addresses Qbus = 64

-- The communication area that the first three words describe. In the strict profile four bytes below the ring
-- base belong to it, and the third word is the high part of the base. In the compatible profile eight bytes
-- belong to it if bit 0 of the second word asks for purge interrupts. The high part of the base then has as
-- many bits of the third word as an address of the bus has above bit 15.
abbrev pub area_of : Profile → ℕ → ℕ → ℕ → Area
area_of Strict first second third = record {
  base = ring_base second third;
  below = 4;
  responses = response_count first;
  commands = command_count first;
}
area_of (Compatible identity) first second third = record {
  base = ring_base second (third % high_addresses identity.bus);
  below = if has_bit second 0 then 8 else 4;
  responses = response_count first;
  commands = command_count first;
}

-- the invariant of an area
pub record IsArea (area : Area) : Type 0 where
  pub even : area.base % 2 ≡ 0
  pub within : area.base < 2 ^ 31
  pub below_few : area.below ≤ 8
  pub responses_are : IsTrue (is_ring_length area.responses)
  pub commands_are : IsTrue (is_ring_length area.commands)
  pub responses_few : area.responses ≤ 128
  pub commands_few : area.commands ≤ 128

-- the bytes of both rings
abbrev pub rings_size : Area → ℕ
rings_size area = 4 * (area.responses + area.commands)

-- the area is in a memory of this many bytes
abbrev pub has_area : Area → ℕ → Bool
has_area area size = nat_le area.below area.base && nat_le (area.base + rings_size area) size

abbrev pub memory_with_area : Area → List ℕ → List ℕ
memory_with_area area memory =
    put memory (area.base - area.below) (replicate (area.below + rings_size area) 0)

-- the port after a fatal error, which may raise a request
abbrev pub failed_port : PortState → Fatal → PortState
failed_port port cause = record port {
  phase = Dead cause;
  interrupts = raised port.profile port.interrupts;
}

-- wrap mode, at bit 14 of the first word; the strict profile doesn't support it
abbrev pub after_wrap_request : Profile → PortState → ℕ → PortState
after_wrap_request Strict old word = failed_port old InitializationError
after_wrap_request (Compatible identity) old word = record old { phase = Wrap word }

-- step 1: a word without bit 15 is ignored; bit 14 asks for wrap mode; other bits ask for interrupts in the
-- compatible profile
abbrev pub after_step1_write : PortState → ℕ → PortState
after_step1_write old word =
    let asked = record old { interrupts = interrupts_asked old.profile old.interrupts word } in
    if has_bit word 15 then
    (if has_bit word 14 then after_wrap_request old.profile old word else port_in_phase asked (Step2 word))
    else old

-- what the strict profile doesn't support: purge interrupts, at bit 0 of the second word, and all bits of the
-- third except bits 1 and 0
abbrev pub refuses_second : Profile → ℕ → Bool
refuses_second Strict word = has_bit word 0
refuses_second (Compatible identity) word = false

abbrev pub refuses_third : Profile → ℕ → Bool
refuses_third Strict word = nat_lt 3 word
refuses_third (Compatible identity) word = false

-- step 2: bit 0 asks for purge interrupts
abbrev pub after_step2_write : PortState → ℕ → ℕ → PortState
after_step2_write old first word =
    if refuses_second old.profile word then failed_port old InitializationError
    else port_in_phase old (Step3 first word)

-- after the third word: the purge and poll test, if a host asks for it in the compatible profile, and
-- otherwise step 4
abbrev pub asks_test : Profile → ℕ → Bool
asks_test Strict word = false
asks_test (Compatible identity) word = has_bit word 15

abbrev pub after_third : PortState → ℕ → PortState
after_third old word =
    if asks_test old.profile word then record old { phase = PurgeTest } else port_in_phase old Step4

-- the rings in the area, each with its index at 0
abbrev pub port_with_rings : PortState → Area → PortState
port_with_rings old area = record old {
  responses = record { base = area.base; count = area.responses; place = 0 };
  commands = record { base = area.base + 4 * area.responses; count = area.commands; place = 0 };
}

-- step 3: the word is the high part of the ring base, and the communication area is zeroed
abbrev pub after_step3_write : PortState → List ℕ → ℕ → ℕ → ℕ → PortState × List ℕ
after_step3_write old memory first second word =
    let area = area_of old.profile first second word in
    if refuses_third old.profile word then (failed_port old InitializationError, memory)
    else if has_area area (length memory) then
    (after_third (port_with_rings old area) word, memory_with_area area memory)
    else (failed_port old RingWrite, memory)

-- the purge test: the host writes 0, and the poll test follows
abbrev pub after_purge_test_write : PortState → ℕ → PortState
after_purge_test_write old word = if word == 0 then record old { phase = PollTest } else old

-- step 4: bit 0 is the go bit
abbrev pub after_step4_write : PortState → ℕ → PortState
after_step4_write old word = if has_bit word 0 then record old { phase = Running } else old

-- the effect of a word written to SA, by the phase of the port
abbrev pub after_sa_write : Phase → PortState → List ℕ → ℕ → PortState × List ℕ
after_sa_write Step1 old memory word = (after_step1_write old word, memory)
after_sa_write (Step2 first) old memory word = (after_step2_write old first word, memory)
after_sa_write (Step3 first second) old memory word = after_step3_write old memory first second word
after_sa_write (Wrap before) old memory word = (record old { phase = Wrap word }, memory)
after_sa_write PurgeTest old memory word = (after_purge_test_write old word, memory)
after_sa_write PollTest old memory word = (old, memory)
after_sa_write Step4 old memory word = (after_step4_write old word, memory)
after_sa_write Running old memory word = (old, memory)
after_sa_write (Dead cause) old memory word = (old, memory)
