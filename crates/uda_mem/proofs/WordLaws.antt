-- The laws of a memory's words: a word is two bytes, what is written reads back, and a write elsewhere leaves
-- it.
use Rattle.std.proofs.Common.{◌≡◌, ℕ, ◌+◌, ◌-◌, ◌^◌, ◌<◌, ◌≤◌, List, [], ◌++◌, length, ap, ◌∙◌, arith}
use Rattle.byteorder.specs.Endian.{little_number}
use Rattle.byteorder.specs.Numbers.{length-bytes_low_first, little_number-reads_back}
use Rattle.uda_mem.specs.Put.{part, put, Overlap}
use Rattle.uda_mem.specs.Words.{HasWord, word_at, word_bytes}
use Rattle.uda_mem.proofs.PutLaws.{length-put, part-put_apart, part-put_inside, put-put_next}

pub length-word_bytes : (w : ℕ) → length (word_bytes w) ≡ 2
unfolding word_bytes
length-word_bytes w = length-bytes_low_first 0 2 w

-- the bytes of a word, read as a word
pub word_at-word_bytes : (w : ℕ) → w < 2 ^ 16 → word_at (word_bytes w) 0 ≡ w
unfolding word_at word_bytes part
word_at-word_bytes w fits = little_number-reads_back 2 w [] fits

-- a write keeps which words there are
pub HasWord-put : (memory : List ℕ) (at : ℕ) (ys : List ℕ) (a : ℕ) → HasWord memory a
    → HasWord (put memory at ys) a
HasWord-put memory at ys a has = (has.0, omega (arith, has.1, length-put memory at ys))

-- a word whose two bytes no write meets reads as before
pub word_at-put_apart : (memory : List ℕ) (at : ℕ) (ys : List ℕ) (a : ℕ) → (Overlap at (length ys) a 2 → ⊥)
    → word_at (put memory at ys) a ≡ word_at memory a
unfolding word_at
word_at-put_apart memory at ys a apart = ap (little_number 2) (part-put_apart memory at ys a 2 apart)

-- a word within a written range reads as the word of what was written
pub word_at-put_inside : (memory : List ℕ) (at : ℕ) (ys : List ℕ) (a : ℕ) → at + length ys ≤ length memory
    → at ≤ a → a + 2 ≤ at + length ys
    → word_at (put memory at ys) a ≡ word_at ys (a - at)
unfolding word_at
word_at-put_inside memory at ys a room from to =
    ap (little_number 2) (part-put_inside memory at ys a 2 room from to)

-- the word just written reads back
pub word_at-put_at : (memory : List ℕ) (at w : ℕ) → at + 2 ≤ length memory → w < 2 ^ 16
    → word_at (put memory at (word_bytes w)) at ≡ w
word_at-put_at memory at w room fits =
    let two = length-word_bytes w in
    word_at-put_inside memory at (word_bytes w) at (omega (arith, two)) (omega arith) (omega (arith, two))
    ∙ ap (word_at (word_bytes w)) (omega arith) ∙ word_at-word_bytes w fits

-- two words written one after the other are one write
pub put-put_words : (memory : List ℕ) (at low high : ℕ) → put (put memory at (word_bytes low)) (at + 2)
    (word_bytes high) ≡ put memory at (word_bytes low ++ word_bytes high)
put-put_words memory at low high = put-put_next memory at (word_bytes low) (word_bytes high) (at + 2)
    (omega (arith, length-word_bytes low))
