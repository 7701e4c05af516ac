-- UDA50 Programmer's Documentation Kit: message envelopes. The two words below a text.
use Rattle.std.specs.Prelude.{ℕ, ◌+◌, ◌*◌, ◌/◌, ◌%◌}
use Rattle.uda_packet.specs.declared.envelope.Envelope.{Envelope}

-- the length; then credits in bits 3-0, message type in bits 7-4 and connection in bits 15-8
abbrev pub envelope_words : Envelope → ℕ × ℕ
envelope_words e = (e.length, e.credits + 16 * e.kind + 256 * e.connection)

-- the envelope in two words
abbrev pub envelope_of : ℕ → ℕ → Envelope
envelope_of size grant = record {
  length = size;
  credits = grant % 16;
  kind = grant / 16 % 16;
  connection = grant / 256;
}
