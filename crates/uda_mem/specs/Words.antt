-- The words of a memory. UDA50 Programmer's Documentation Kit: a word has 16 bits, at an even address, low
-- byte first.
use Rattle.std.specs.Prelude.{◌≡◌, ℕ, ◌+◌, ◌%◌, ◌≤◌, List, length}
use Rattle.byteorder.specs.Endian.{little_bytes, little_number}
use Rattle.uda_mem.specs.Put.{part}

-- a whole word lies at this address
abbrev pub HasWord : List ℕ → ℕ → Type 0
HasWord memory at = (at % 2 ≡ 0) × (at + 2 ≤ length memory)

-- the word at an address
unfoldable pub word_at : List ℕ → ℕ → ℕ
word_at memory at = little_number 2 (part memory at 2)

-- the two bytes of a word, low byte first
unfoldable pub word_bytes : ℕ → List ℕ
word_bytes word = little_bytes 2 word
