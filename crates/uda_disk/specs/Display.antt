-- The printed text of an answer.
use Rattle.std.specs.Prelude.{ℕ, ◌-◌, ◌^◌, false, List, [], ◌++◌, length, codes}
use Rattle.std.specs.Fmt.{decimal, digits, padded_integral, format_spec}
use Rattle.uda_disk.specs.Answer.{Answer, TooLong, Plain, Online, Status, Moved, Data}

-- a word as four hexadecimal digits
abbrev pub word_digits : ℕ → List ℕ
word_digits n = padded_integral (format_spec 32 0 4 4 (2 ^ 64 - 1)) false [] (digits 16 false n)

-- the status in four hexadecimal digits, then flags in four and numbers in decimal, separated by spaces
abbrev pub answer_display : Answer → List ℕ
answer_display TooLong = codes "long"
answer_display (Plain status) = word_digits status
answer_display (Online status flags size) =
    word_digits status ++ codes " " ++ word_digits flags ++ codes " " ++ decimal size
answer_display (Status status flags) = word_digits status ++ codes " " ++ word_digits flags
answer_display (Moved status bytes) = word_digits status ++ codes " " ++ decimal bytes
answer_display (Data status bytes) = word_digits status ++ codes " " ++ decimal (length bytes)
