-- Words and their meanings, in both directions.
use Rattle.std.proofs.Common.{◌≡◌, ◌≢◌, ℕ, zero, suc, ◌+◌, ◌*◌, ◌/◌, ◌%◌, ◌<◌, ◌≤◌, ◌^◌, Bool, true, false, ◌&&◌, cond, nat_le, nat_lt, codes, List, [], ◌∷◌, length, get_or, Option, Some, None, refl, sym, ◌∙◌, ap, arith, rules}
use Rattle.std.specs.Char.{is_ascii_digit}
use Rattle.std.specs.Fmt.{decimal, digit_glyph}
use Rattle.std.specs.List.{list_all, position_or_len}
use Rattle.std.specs.Prelude.{◌==◌}
use Rattle.std.specs.Option.{option_map, option_and_then}
use Rattle.std.proofs.lemmas.List.Sums.{passes_at_first}
use borrow.Author.Count.{below_none, below_more}
use Rattle.std.proofs.lemmas.Fmt.{decimal-digits_value, digits_decimal, digits_value-decimal, decimal_nonempty, first_decimal, decimal_digit}
use Rattle.std.proofs.lemmas.Str.Parse.{IsNumeralModel, numerals_by_fold}
use Rattle.std.proofs.lemmas.Grind.{common_steps}
use Rattle.uda_grammar.specs.Words.{is_decimal, value_behind, number_of, nibble_of, byte_of}
use Rattle.uda_grammar.specs.Texts.{two_digits}
use Rattle.uda_grammar.proofs.Numbers.{is_decimal-digits, number_of-some}

-- digits and their value, in the words of the forms
pub own : IsNumeralModel (λ ds. list_all is_ascii_digit ds ≡ true) (value_behind 0)
own = numerals_by_fold _ (search rules) value_behind (search rules)

-- a word that is a number is what is printed of it
pub record Told (most number : ℕ) (word : List ℕ) : Type 0 where
  pub fits : number ≤ most
  pub printed : word ≡ decimal number

found : (b : Bool) (n m : ℕ) → cond b (Some n) None ≡ Some m → (b ≡ true) × (n ≡ m)
found true n m e = (refl, cc)
found false n m e = absurd (cc)

both : (a b : Bool) (n m : ℕ) → cond (a && b) (Some n) None ≡ Some m → (a ≡ true) × (b ≡ true) × (n ≡ m)
both true true n m e = (refl, refl, cc)
both true false n m e = absurd (cc)
both false b n m e = absurd (cc)

digits-is_decimal : (word : List ℕ) → is_decimal word ≡ true → list_all is_ascii_digit word ≡ true
digits-is_decimal [] h = refl
digits-is_decimal (digit ∷ []) h = grind (arith, common_steps)
digits-is_decimal (digit ∷ next ∷ rest) h = grind (arith, common_steps)

nonempty-is_decimal : (word : List ℕ) → is_decimal word ≡ true → 0 < length word
nonempty-is_decimal [] h = absurd (cc)
nonempty-is_decimal (digit ∷ rest) h = omega arith

leading-is_decimal : (word : List ℕ) → is_decimal word ≡ true → get_or word 0 0 ≡ 48 → length word ≡ 1
leading-is_decimal [] h e = absurd (cc)
leading-is_decimal (digit ∷ []) h e = refl
leading-is_decimal (digit ∷ next ∷ rest) h e =
    absurd (let bad : is_decimal (digit ∷ next ∷ rest) ≡ false = rw e refl in cc)

pub Told-number_of : (most number : ℕ) (word : List ℕ) → most < 2 ^ 64 → number_of most word ≡ Some number
    → Told most number word
Told-number_of most number word small e =
    let h = both (is_decimal word) (nat_le (value_behind 0 word) most) (value_behind 0 word) number e in
    let below : value_behind 0 word ≤ most = grind (arith, h.1) in
    let printed : decimal (value_behind 0 word) ≡ word = decimal-digits_value own word
    (digits-is_decimal word h.0) (nonempty-is_decimal word h.0) (leading-is_decimal word h.0)
    (omega arith) in
    record { fits = omega (arith, h.2); printed = sym printed ∙ ap decimal h.2 }

leading-decimal : (number : ℕ) → number < 2 ^ 64 → 1 < length (decimal number)
    → get_or (decimal number) 0 0 ≢ 48
leading-decimal zero small long = absurd (let one : length (decimal zero) ≡ 1 =
    ap length (decimal_digit 0 (omega arith)) in omega arith)
leading-decimal (suc n) small long = omega (arith, first_decimal (suc n) (omega arith) small)

pub number_of-decimal : (most number : ℕ) → most < 2 ^ 64 → number ≤ most → number_of most (decimal number)
    ≡ Some number
number_of-decimal most number small fits =
    let below : number < 2 ^ 64 = omega arith in
    let digits = is_decimal-digits (decimal number) (decimal_nonempty number below)
    (leading-decimal number below) (digits_decimal own number below) in
    let same : value_behind 0 (decimal number) ≡ number = digits_value-decimal own number below in
    number_of-some most (decimal number) digits (omega arith) ∙ ap Some same

-- the same of hexadecimal digits
pub nibble_of-glyph : (n : ℕ) → n < 16 → nibble_of (digit_glyph false n) ≡ Some n
nibble_of-glyph n h =
    let P : ℕ → Type 0 = λ k. nibble_of (digit_glyph false k) ≡ Some k in
    (below_more P 15
    (below_more P 14
    (below_more P 13
    (below_more P 12
    (below_more P 11
    (below_more P 10
    (below_more P 9
    (below_more P 8
    (below_more P 7
    (below_more P 6
    (below_more P 5
    (below_more P 4
    (below_more P 3 (below_more P 2 (below_more P 1 (below_more P 0 (below_none P) refl) refl) refl) refl)
    refl) refl) refl) refl) refl) refl) refl) refl) refl) refl) refl) refl) n h

glyph_at : (n : ℕ) → n < 16 → get_or (codes "0123456789abcdef") n 0 ≡ digit_glyph false n
glyph_at n h =
    let P : ℕ → Type 0 = λ k. get_or (codes "0123456789abcdef") k 0 ≡ digit_glyph false k in
    (below_more P 15
    (below_more P 14
    (below_more P 13
    (below_more P 12
    (below_more P 11
    (below_more P 10
    (below_more P 9
    (below_more P 8
    (below_more P 7
    (below_more P 6
    (below_more P 5
    (below_more P 4
    (below_more P 3 (below_more P 2 (below_more P 1 (below_more P 0 (below_none P) refl) refl) refl) refl)
    refl) refl) refl) refl) refl) refl) refl) refl) refl) refl) refl) refl) n h

pub glyph-nibble_of : (digit n : ℕ) → nibble_of digit ≡ Some n → (n < 16) × (digit ≡ digit_glyph false n)
glyph-nibble_of digit n e =
    let p : ℕ → Bool = λ d. d == digit in
    let h = found (nat_lt (position_or_len p (codes "0123456789abcdef")) 16)
    (position_or_len p (codes "0123456789abcdef")) n e in
    let below : position_or_len p (codes "0123456789abcdef") < 16 = grind (arith, h.0) in
    let passes : (get_or (codes "0123456789abcdef") n 0 == digit) ≡ true =
    rw (← h.1) (passes_at_first p (codes "0123456789abcdef") 0 below) in
    let within : n < 16 = omega (arith, h.1) in
    let same : get_or (codes "0123456789abcdef") n 0 ≡ digit = grind (arith, common_steps, passes) in
    (within, sym same ∙ glyph_at n within)

pub byte_of-two_digits : (byte : ℕ) → byte ≤ 255 → byte_of (two_digits byte) ≡ Some byte
byte_of-two_digits byte h =
    rw (nibble_of-glyph (byte / 16) (omega arith), nibble_of-glyph (byte % 16) (omega arith))
    (ap Some (let e : 16 * (byte / 16) + byte % 16 ≡ byte = omega arith in e))

nibbles : (high low : Option ℕ) (byte : ℕ) → option_and_then (λ h. option_map (λ l. 16 * h + l) low) high
    ≡ Some byte → (h l : ℕ) × (high ≡ Some h) × (low ≡ Some l) × (16 * h + l ≡ byte)
nibbles None low byte e = absurd (cc)
nibbles (Some h) None byte e = absurd (cc)
nibbles (Some h) (Some l) byte e = (h, l, refl, refl, cc)

pair : (a b c d : ℕ) → a ≡ c → b ≡ d → ◌≡◌ {A = List ℕ} (a ∷ b ∷ []) (c ∷ d ∷ [])
pair a b c d e f = cc

pub two_digits-byte_of : (word : List ℕ) (byte : ℕ) → byte_of word ≡ Some byte
    → (byte ≤ 255) × (word ≡ two_digits byte)
two_digits-byte_of [] byte e = absurd (cc)
two_digits-byte_of (high ∷ []) byte e = absurd (cc)
two_digits-byte_of (high ∷ low ∷ []) byte e =
    let n = nibbles (nibble_of high) (nibble_of low) byte e in
    let a = glyph-nibble_of high n.0 n.2 in
    let b = glyph-nibble_of low n.1 n.3 in
    let upper : byte / 16 ≡ n.0 = omega (arith, a.0, b.0, n.4) in
    let lower : byte % 16 ≡ n.1 = omega (arith, a.0, b.0, n.4) in (
      omega (arith, a.0, b.0, n.4),
      pair high low _ _ (a.1 ∙ ap (digit_glyph false) (sym upper))
          (b.1 ∙ ap (digit_glyph false) (sym lower)),
    )
two_digits-byte_of (high ∷ low ∷ next ∷ rest) byte e = absurd (cc)
