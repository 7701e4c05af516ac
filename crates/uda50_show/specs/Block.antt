-- The fields of a block of 512 bytes. Words have their low byte first.
use Rattle.std.specs.Prelude.{ℕ, zero, suc, ◌+◌, ◌*◌, ◌%◌, List, [], ◌∷◌, ◌++◌, take, drop, slice_index, Bool, true, false}
use Rattle.std.specs.List.{sum}
use Rattle.std.specs.Int.RustNames.{bit_xor}
use Rattle.byteorder.specs.Endian.{little_from}
use Rattle.uda50_show.specs.declared.checksum.Checksum.{Checksum}
use Rattle.uda50_show.specs.declared.checksum.Checksum.TheVariants.{Right, Wrong}

-- the byte at an offset
abbrev pub byte_at_offset : ℕ → List ℕ → ℕ
byte_at_offset offset block = slice_index block offset

-- the word of two bytes at an offset
abbrev pub word_at_offset : ℕ → List ℕ → ℕ
word_at_offset offset block = little_from offset 2 block

-- the long word of four bytes at an offset
abbrev pub long_at_offset : ℕ → List ℕ → ℕ
long_at_offset offset block = little_from offset 4 block

-- `count` bytes from an offset
abbrev pub block_bytes : ℕ → ℕ → List ℕ → List ℕ
block_bytes offset count block = take count (drop offset block)

-- the first words of a block
unfoldable pub words : ℕ → List ℕ → List ℕ
words zero block = []
words (suc count) block = words count block ++ word_at_offset (2 * count) block ∷ []

-- their sum in 16 bits
abbrev pub word_sum : ℕ → List ℕ → ℕ
word_sum count block = sum (words count block) % 65536

-- the exclusive or of `count` words from an offset
unfoldable pub word_parity : ℕ → ℕ → List ℕ → ℕ
word_parity offset zero block = 0
word_parity offset (suc count) block =
    bit_xor (word_parity offset count block) (word_at_offset (offset + 2 * count) block)

-- the result of checking a checksum
abbrev pub checksum_of : Bool → Checksum
checksum_of true = Right
checksum_of false = Wrong
