-- A word as four hexadecimal digits.
use Rattle.std.proofs.Common.{◌≡◌, ℕ, suc, ◌/◌, ◌%◌, ◌<◌, ◌≤◌, Bool, true, false, List, [], ◌∷◌, refl, ap, ◌∙◌, arith}
use Rattle.std.specs.Prelude.{◌==◌, if◌then◌else◌}
use Rattle.std.specs.Fmt.{digits, digits_onto, digit_glyph, padded_integral, char_count}
use Rattle.std.proofs.lemmas.Bool.Decides.{nat_tests}
use Rattle.std.proofs.lemmas.Fmt.{hex_one_digit, hex_two_digits}
use Rattle.uda_disk.specs.Display.{word_digits}

abbrev glyph : ℕ → ℕ
glyph d = digit_glyph false d

-- four digits, zeros among them
abbrev pub four : ℕ → List ℕ
four n = glyph (n / 4096) ∷ glyph (n / 256 % 16) ∷ glyph (n / 16 % 16) ∷ glyph (n % 16) ∷ []

-- the last digit of a number of more digits, and of one digit
more : (k n : ℕ) (acc : List ℕ) → 0 < n / 16
    → digits_onto (suc k) 16 false n acc ≡ digits_onto k 16 false (n / 16) (glyph (n % 16) ∷ acc)
more k n acc some =
    let other : (n / 16 == 0) ≡ false = grind (arith, nat_tests, some) in
    ap (λ (b : Bool). if b then glyph (n % 16) ∷ acc else digits_onto k 16 false (n / 16) (glyph (n % 16) ∷ acc)) other

last : (k n : ℕ) (acc : List ℕ) → n < 16 → digits_onto (suc k) 16 false n acc ≡ glyph n ∷ acc
last k n acc small =
    let none : (n / 16 == 0) ≡ true = grind (arith, nat_tests, small) in
    let same : n % 16 ≡ n = omega arith in
    ap (λ (b : Bool). if b then glyph (n % 16) ∷ acc else digits_onto k 16 false (n / 16) (glyph (n % 16) ∷ acc)) none
    ∙ ap (λ (d : ℕ). glyph d ∷ acc) same

three_digits : (n : ℕ) → 256 ≤ n → n < 4096
    → digits 16 false n ≡ glyph (n / 256) ∷ glyph (n / 16 % 16) ∷ glyph (n % 16) ∷ []
unfolding digits
three_digits n large small =
    let first : n / 16 / 16 ≡ n / 256 = omega arith in
    more 63 n [] (omega arith) ∙ more 62 (n / 16) (glyph (n % 16) ∷ []) (omega arith)
    ∙ last 61 (n / 16 / 16) (glyph (n / 16 % 16) ∷ glyph (n % 16) ∷ []) (omega arith)
    ∙ ap (λ (d : ℕ). glyph d ∷ glyph (n / 16 % 16) ∷ glyph (n % 16) ∷ []) first

all_digits : (n : ℕ) → 4096 ≤ n → n < 65536 → digits 16 false n ≡ four n
unfolding digits
all_digits n large small =
    let first : n / 16 / 16 / 16 ≡ n / 4096 = omega arith in
    let second : n / 16 / 16 % 16 ≡ n / 256 % 16 = omega arith in
    more 63 n [] (omega arith) ∙ more 62 (n / 16) (glyph (n % 16) ∷ []) (omega arith)
    ∙ more 61 (n / 16 / 16) (glyph (n / 16 % 16) ∷ glyph (n % 16) ∷ []) (omega arith)
    ∙ last 60 (n / 16 / 16 / 16) (glyph (n / 16 / 16 % 16) ∷ glyph (n / 16 % 16) ∷ glyph (n % 16) ∷ []) (omega arith)
    ∙ ap (λ (d : ℕ). glyph d ∷ glyph (n / 16 / 16 % 16) ∷ glyph (n / 16 % 16) ∷ glyph (n % 16) ∷ []) first
    ∙ ap (λ (d : ℕ). glyph (n / 4096) ∷ glyph d ∷ glyph (n / 16 % 16) ∷ glyph (n % 16) ∷ []) second

-- a number below a power of 16 has leading zeros
small_word : (n : ℕ) → n < 256 → word_digits n ≡ four n
unfolding padded_integral char_count
small_word n small =
    let high : n / 4096 ≡ 0 = omega arith in
    let next : n / 256 ≡ 0 = omega arith in
    by (n / 16 == 0) refl
  where
    by : (b : Bool) → (n / 16 == 0) ≡ b → word_digits n ≡ four n
    by true is =
        let one : n < 16 = grind (arith, nat_tests, is) in
        let high : n / 4096 ≡ 0 = omega arith in
        let next : n / 256 ≡ 0 = omega arith in
        let tens : n / 16 ≡ 0 = omega arith in
        let same : n % 16 ≡ n = omega arith in
        rw (hex_one_digit false n one, high, next, tens, same) refl
    by false is =
        let two : 16 ≤ n = grind (arith, nat_tests, is) in
        let high : n / 4096 ≡ 0 = omega arith in
        let next : n / 256 ≡ 0 = omega arith in
        let same : n / 16 % 16 ≡ n / 16 = omega arith in
        rw (hex_two_digits false n two small, high, next, same) refl

large_word : (n : ℕ) → 256 ≤ n → n < 65536 → word_digits n ≡ four n
unfolding padded_integral char_count
large_word n large small = by (n / 4096 == 0) refl
  where
    by : (b : Bool) → (n / 4096 == 0) ≡ b → word_digits n ≡ four n
    by true is =
        let three : n < 4096 = grind (arith, nat_tests, is) in
        let high : n / 4096 ≡ 0 = omega arith in
        let same : n / 256 % 16 ≡ n / 256 = omega arith in
        rw (three_digits n large three, high, same) refl
    by false is =
        let whole : 4096 ≤ n = grind (arith, nat_tests, is) in
        rw (all_digits n whole small) refl

pub four_digits : (n : ℕ) → n < 65536 → word_digits n ≡ four n
four_digits n small = by (n / 256 == 0) refl
  where
    by : (b : Bool) → (n / 256 == 0) ≡ b → word_digits n ≡ four n
    by true is = small_word n (grind (arith, nat_tests, is))
    by false is = large_word n (grind (arith, nat_tests, is)) small
