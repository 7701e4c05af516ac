-- The layout of a host's memory: rings, packets and buffers.
-- UDA50 Programmer's Documentation Kit: communication area, ring descriptors, message envelopes.
use Rattle.std.specs.Prelude.{ℕ, ◌+◌, ◌*◌}
use Rattle.uda_port.specs.Ring.{RingState}

-- ---- the layout: the response ring is at the ring base, and the command ring follows it. A packet for each
-- descriptor comes next. The buffers begin at 0x1000.

-- the number of descriptors of each ring
abbrev pub slots : ℕ
slots = 16

-- the first word of initialization for such rings
abbrev pub rings_word : ℕ
rings_word = 0xA400

abbrev pub response_descriptor : ℕ → ℕ
response_descriptor i = 8 + 4 * i

abbrev pub command_descriptor : ℕ → ℕ
command_descriptor i = 72 + 4 * i

-- the address of a packet's envelope; its text is four bytes above
abbrev pub response_packet : ℕ → ℕ
response_packet i = 0x100 + 64 * i

abbrev pub command_packet : ℕ → ℕ
command_packet i = 0x500 + 64 * i

abbrev pub buffers_start : ℕ
buffers_start = 0x1000

-- room for 32 blocks
abbrev pub buffer_size : ℕ
buffer_size = 0x4000

abbrev pub buffer_address : ℕ → ℕ
buffer_address n = buffers_start + buffer_size * n

-- the communication area: four bytes below the ring base, and both rings
abbrev pub area_size : ℕ
area_size = 4 + 4 * slots + 4 * slots

abbrev pub memory_size : ℕ
memory_size = 249856

-- a second word with only the owner bit, and one with only the flag bit
abbrev pub owner_word : ℕ
owner_word = 0x8000

abbrev pub flag_word : ℕ
flag_word = 0x4000

abbrev pub command_ring_at : ℕ → RingState
command_ring_at at = record { base = command_descriptor 0; count = slots; place = at }

abbrev pub response_ring_at : ℕ → RingState
response_ring_at at = record { base = response_descriptor 0; count = slots; place = at }
