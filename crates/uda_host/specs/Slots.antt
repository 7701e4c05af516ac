-- The contents of a host's rings: at each index a slot, which is a descriptor with its packet.
-- UDA50 Programmer's Documentation Kit: ring descriptors, message envelopes.
use Rattle.std.specs.Prelude.{◌≡◌, ℕ, ◌+◌, ◌%◌, ◌<◌, ◌≤◌, List, length, get_or}
use Rattle.uda_mem.specs.Put.{put, part, Overlap}
use Rattle.uda_mem.specs.Words.{word_at, word_bytes}
use Rattle.uda_packet.specs.declared.command.Command.{Command}
use Rattle.uda_packet.specs.Written.{written_command}
use Rattle.uda_port.specs.declared.descriptor.Descriptor.{Descriptor}
use Rattle.uda_host.specs.Layout.{slots, response_descriptor, command_descriptor, response_packet}
use Rattle.uda_host.specs.Layout.{command_packet, buffers_start, memory_size, owner_word}
use Rattle.uda_host.specs.Host.{BuffersStay}

-- a descriptor; and of its packet the two words of the envelope, which are a length and credits, and the text
pub record RingSlot : Type 0 where
  pub descriptor : Descriptor
  pub size : ℕ
  pub credits : ℕ
  pub text : List ℕ

-- the slot of a descriptor and of a packet
abbrev pub slot_at : List ℕ → ℕ → ℕ → RingSlot
slot_at memory at packet = record {
  descriptor = record { low = word_at memory at; high = word_at memory (at + 2) };
  size = word_at memory packet;
  credits = word_at memory (packet + 2);
  text = part memory (packet + 4) 48;
}

-- index i of the command ring, and index i of the response ring
abbrev pub command_at : List ℕ → ℕ → RingSlot
command_at memory i = slot_at memory (command_descriptor i) (command_packet i)

abbrev pub response_at : List ℕ → ℕ → RingSlot
response_at memory i = slot_at memory (response_descriptor i) (response_packet i)

-- ---- the contents of a slot

-- a descriptor that the port owns, of the packet at this address
abbrev pub owned : ℕ → Descriptor
owned packet = record { low = packet + 4; high = owner_word }

-- the slot at index i after this command is posted there
abbrev pub posted_slot : ℕ → Command → RingSlot
posted_slot i c =
    record { descriptor = owned (command_packet i); size = 48; credits = 0; text = written_command c }

-- memory after a packet is written at index i
abbrev pub with_packet : List ℕ → ℕ → List ℕ → List ℕ
with_packet memory i text =
    put (put (put memory (command_packet i) (word_bytes 48)) (command_packet i + 2) (word_bytes 0))
    (command_packet i + 4) text

-- and after its descriptor is written, too: the command is posted
abbrev pub with_command : List ℕ → ℕ → Command → List ℕ
with_command memory i c =
    put (put (with_packet memory i (written_command c)) (command_descriptor i)
    (word_bytes (command_packet i + 4))) (command_descriptor i + 2) (word_bytes owner_word)

-- a slot that the host owns: a command may be posted there
abbrev pub IsFree : RingSlot → Type 0
IsFree s = s.descriptor.high < owner_word

-- a slot that the port owns, with room for a text in its packet at this address: an end message may be
-- delivered
pub record IsOpen (packet : ℕ) (s : RingSlot) : Type 0 where
  pub owned_is : s.descriptor ≡ owned packet
  pub room : 48 ≤ s.size

-- memory after the host has returned the descriptor to the port
abbrev pub memory_reopened : List ℕ → ℕ → List ℕ
memory_reopened memory i = put memory (response_descriptor i + 2) (word_bytes owner_word)

-- Both rings: from this index on, around the ring, exactly these commands are posted; and every response slot
-- is open.
pub record RingsHold (memory : List ℕ) (place : ℕ) (queue : List Command) : Type 0 where
  pub size : length memory ≡ memory_size
  pub within : place < slots
  pub few : length queue ≤ slots
  pub posted :
      (k : ℕ) (d : Command) → k < length queue
      → command_at memory ((place + k) % slots) ≡ posted_slot ((place + k) % slots) (get_or queue k d)
  pub free : (k : ℕ) → length queue ≤ k → k < slots → IsFree (command_at memory ((place + k) % slots))
  pub opens : (i : ℕ) → i < slots → IsOpen (response_packet i) (response_at memory i)

-- ---- a write to a slot

-- the allowed addresses of a descriptor and of a packet: descriptors are below packets, and packets below
-- buffers
pub record InLayout (at packet : ℕ) : Type 0 where
  pub ring : at + 4 ≤ response_packet 0
  pub packets : response_packet 0 ≤ packet
  pub below : packet + 52 ≤ buffers_start

-- one slot is written and is s then; the others and every buffer are unchanged
pub record WritesSlot (at packet : ℕ) (s : RingSlot) (memory after : List ℕ) : Type 0 where
  pub stands : InLayout at packet
  pub size : length after ≡ memory_size
  pub buffers : BuffersStay memory after
  pub holds : slot_at after at packet ≡ s
  pub rest :
      (a p : ℕ) → InLayout a p → (Overlap at 4 a 4 → ⊥) → (Overlap packet 52 p 52 → ⊥)
      → slot_at after a p ≡ slot_at memory a p
