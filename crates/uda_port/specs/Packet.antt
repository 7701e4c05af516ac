-- Packets in host memory: a text, and its envelope in the four bytes below.
-- UDA50 Programmer's Documentation Kit: message envelopes.
use Rattle.std.specs.Prelude.{◌≡◌, ℕ, ◌+◌, ◌-◌, ◌*◌, ◌/◌, ◌%◌, ◌≤◌, List, length, Some}
use Rattle.uda_mem.specs.Put.{put, part}
use Rattle.uda_mem.specs.Words.{word_at, word_bytes}
use Rattle.uda_packet.specs.declared.reply.Reply.{Reply}
use Rattle.uda_packet.specs.GuestEnd.{addresses_of}
use Rattle.uda_packet.specs.Reading.{read_end}
use Rattle.uda_packet.specs.Reply.{strict_end}
use Rattle.uda_packet.specs.Written.{written_end}
use Rattle.uda_port.specs.declared.descriptor.Descriptor.{Descriptor}
use Rattle.uda_port.specs.declared.packet.Fetched.{Fetched}
use Rattle.uda_port.specs.declared.profile.Profile.{Profile}
use Rattle.uda_port.specs.declared.profile.Profile.TheVariants.{Strict, Compatible}
use Rattle.uda_port.specs.Ring.{address_of}

-- The address of the text that a descriptor points to. The compatible profile drops bit 0 and the bits that
-- the bus doesn't have. In the strict profile all bits count.
abbrev pub text_address : Profile → Descriptor → ℕ
text_address Strict d = address_of d
text_address (Compatible identity) d = address_of d % addresses_of identity.bus / 2 * 2

-- A packet with a text of n bytes is usable at an address. The address is even, four envelope bytes fit below
-- it, and the text is in memory.
pub record HasText (memory : List ℕ) (at n : ℕ) : Type 0 where
  pub even : at % 2 ≡ 0
  pub above : 4 ≤ at
  pub within : at + n ≤ length memory

-- the same with a text of 48 bytes
abbrev pub HasPacket : List ℕ → ℕ → Type 0
HasPacket memory at = HasText memory at 48

-- the packet at an address: the two words of the envelope, and the text
pub record IsPacketAt (memory : List ℕ) (at : ℕ) (p : Fetched) : Type 0 where
  pub first_word : p.words.0 ≡ word_at memory (at - 4)
  pub second_word : p.words.1 ≡ word_at memory (at - 2)
  pub text : p.text ≡ part memory at 48

-- a text of 48 bytes can be written at an address, and the length word below it is 48 or more
pub record DeclaresRoom (memory : List ℕ) (at : ℕ) : Type 0 where
  pub packet : HasPacket memory at
  pub long : 48 ≤ word_at memory (at - 4)

-- a text of n bytes can be written at an address; the compatible profile ignores the length word
abbrev pub HasRoom : Profile → List ℕ → ℕ → ℕ → Type 0
HasRoom Strict memory at n = DeclaresRoom memory at
HasRoom (Compatible identity) memory at n = HasText memory at n

-- the text that a strict port writes decodes to the end message
abbrev pub IsLegible : Reply → Type 0
IsLegible r = read_end (written_end (strict_end r)) ≡ Some (strict_end r)

-- a text is written, and then the envelope below it: its length, and these credits of a sequential message of
-- MSCP
abbrev pub packet_put : List ℕ → ℕ → ℕ → List ℕ → List ℕ
packet_put memory at credits text =
    put (put (put memory at text) (at - 4) (word_bytes (length text))) (at - 2) (word_bytes credits)
