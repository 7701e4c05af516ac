-- How long the text of a statement is.
use Rattle.std.proofs.Common.{◌≡◌, ℕ, ◌+◌, ◌<◌, ◌≤◌, true, false, codes, List, [], ◌∷◌, length, Option, Some, None, refl, ap, arith, length-append}
use Rattle.std.specs.Fmt.{decimal}
use Rattle.std.specs.List.{join_with_byte}
use Rattle.std.proofs.lemmas.Fmt.{length-decimal-le}
use Rattle.uda_grammar.specs.declared.statement.Statement.{Statement}
use Rattle.uda_grammar.specs.declared.statement.Statement.TheVariants as form
use Rattle.uda_grammar.specs.declared.statement.Measure.TheVariants.{Blocks, Bytes}
use Rattle.uda_grammar.specs.declared.statement.Amount.TheVariants as amount
use Rattle.uda_grammar.specs.Amounts.{most_written}
use Rattle.uda_grammar.specs.Words.{most_number}
use Rattle.uda_grammar.specs.Parts.{words_of}
use Rattle.uda_grammar.specs.Forms.{statement_of}
use Rattle.uda_grammar.specs.Texts.{transfer_words, words_in, IsTransfer, Fits}
use Rattle.uda_grammar.proofs.FormLaws.{statement_text_is_unique}

-- the bytes of words, each with the space or line feed after it
abbrev total : List (List ℕ) → ℕ
total [] = 0
total (word ∷ words) = length word + 1 + total words

length-joined : (words : List (List ℕ)) → length (join_with_byte 32 words) ≤ total words
length-joined [] = omega arith
length-joined (word ∷ []) = omega arith
length-joined (word ∷ next ∷ rest) =
    omega (arith, length-append word (32 ∷ join_with_byte 32 (next ∷ rest)), length-joined (next ∷ rest))

unit_length : (unit : ℕ) → unit ≤ 65535 → length (decimal unit) ≤ 5
unit_length unit fits = length-decimal-le 5 unit (omega arith) (omega arith) (omega arith)

number_length : (number : ℕ) → number ≤ most_number → length (decimal number) ≤ 10
number_length number fits = length-decimal-le 10 number (omega arith) (omega arith) (omega arith)

unit_total : (word : List ℕ) (unit : ℕ) → length word ≤ 9 → unit ≤ 65535
    → total (word ∷ decimal unit ∷ []) ≤ 40
unit_total word unit short fits = omega (arith, unit_length unit fits)

transfer_total : (word : List ℕ) (most unit lbn count : ℕ) → length word ≤ 9 → most ≤ most_number
    → IsTransfer most unit lbn count → total (word ∷ transfer_words unit lbn count) ≤ 40
transfer_total word most unit lbn count short few fits =
    let count_length = number_length count (omega (arith, fits.count_fits)) in
    omega (arith, unit_length unit fits.unit_fits, number_length lbn fits.lbn_fits, count_length)

words_total : (s : Statement) → Fits s → total (words_in s) ≤ 40
words_total (form.Online unit false) fits = unit_total (codes "online") unit (omega arith) fits
words_total (form.Online unit true) fits = omega (arith, unit_length unit fits)
words_total (form.Available unit) fits = unit_total (codes "available") unit (omega arith) fits
words_total (form.Status unit) fits = unit_total (codes "status") unit (omega arith) fits
words_total (form.Read u l (amount.Blocks n)) fits =
    transfer_total (codes "read") most_number u l n (omega arith) (omega arith) fits
words_total (form.Read u l (amount.Bytes n)) fits =
    transfer_total (codes "readb") most_number u l n (omega arith) (omega arith) fits
words_total (form.Access u l (amount.Blocks n)) fits =
    transfer_total (codes "access") most_number u l n (omega arith) (omega arith) fits
words_total (form.Access u l (amount.Bytes n)) fits =
    transfer_total (codes "accessb") most_number u l n (omega arith) (omega arith) fits
words_total (form.Erase u l (amount.Blocks n)) fits =
    transfer_total (codes "erase") most_number u l n (omega arith) (omega arith) fits
words_total (form.Erase u l (amount.Bytes n)) fits =
    transfer_total (codes "eraseb") most_number u l n (omega arith) (omega arith) fits
words_total (form.Write u l (amount.Blocks n)) fits =
    transfer_total (codes "write") (most_written Blocks) u l n (omega arith) (omega arith) fits
words_total (form.Write u l (amount.Bytes n)) fits =
    transfer_total (codes "writeb") (most_written Bytes) u l n (omega arith) (omega arith) fits
words_total (form.Fill u l n byte) fits =
    let count_length = number_length n (omega (arith, fits.0.count_fits)) in
    omega (arith, unit_length u fits.0.unit_fits, number_length l fits.0.lbn_fits, count_length)

-- a line of more than 40 bytes is no statement
pub long_line : (line : List ℕ) → 40 < length line → statement_of (words_of line) ≡ None
long_line line long = by (statement_of (words_of line)) refl
  where
    by : (o : Option Statement) → statement_of (words_of line) ≡ o → statement_of (words_of line) ≡ None
    by None is = is
    by (Some s) is =
        let read = (statement_text_is_unique line s).0 is in
        let size = ap length read.1 in
        absurd (omega (arith, size, length-joined (words_in s), words_total s read.0, long))
