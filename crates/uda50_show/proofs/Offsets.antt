-- What `{:03x}` and `{:03o}` write of the offset of a row.
use Rattle.std.proofs.Common.{◌≡◌, ℕ, zero, suc, ◌-◌, ◌/◌, ◌%◌, ◌≤◌, ◌^◌, Bool, true, false, List, [], ◌∷◌, ◌++◌, length, ap, ◌∙◌, append-nil, arith, inl, inr}
use Rattle.std.specs.Prelude.{◌==◌, nat_lt, if◌then◌else◌}
use Rattle.std.specs.Fmt.{digits, digits_onto, padded_integral, format_spec, char_count}
use Rattle.std.proofs.lemmas.Bool.{cases_lt, lt-ltb, le-ltb}
use borrow.Author.Tests.{ne_eqb}
use Rattle.uda50_show.specs.Rows.{glyph, hex_offset, octal_offset}

-- a numeral as `{:03x}` or `{:03o}` writes it
abbrev pub three_wide : List ℕ → List ℕ
three_wide numeral = padded_integral (format_spec 32 0 4 3 (2 ^ 64 - 1)) false [] numeral

-- a numeral of three digits or more stays as it is
long_numeral : (numeral : List ℕ) → 3 ≤ length numeral → three_wide numeral ≡ numeral
unfolding padded_integral char_count
long_numeral numeral long = let none : 3 - length numeral ≡ 0 = omega arith in rw (none, append-nil)

-- the last digit of all
onto_last : (k base n : ℕ) (acc : List ℕ) → n / base ≡ 0
    → digits_onto (suc k) base false n acc ≡ glyph (n % base) ∷ acc
onto_last k base n acc last = rw last

-- a digit with others before it
onto_more : (k base n : ℕ) (acc : List ℕ) → (n / base ≡ 0 → ⊥)
    → digits_onto (suc k) base false n acc ≡ digits_onto k base false (n / base) (glyph (n % base) ∷ acc)
onto_more k base n acc more =
    ap (λ (b : Bool). if b then glyph (n % base) ∷ acc else digits_onto k base false (n / base) (glyph (n % base) ∷ acc))
    (ne_eqb (n / base) 0 more)

-- more digits make a numeral no shorter
grows : (k base n : ℕ) (acc : List ℕ) → length acc ≤ length (digits_onto k base false n acc)
grows zero base n acc = omega arith
grows (suc k) base n acc = by (n / base == 0) (grows k base (n / base) (glyph (n % base) ∷ acc))
  where
    by : (b : Bool) → length (glyph (n % base) ∷ acc) ≤ length (digits_onto k base false (n / base) (glyph (n % base) ∷ acc))
        → length acc ≤ length (if b then glyph (n % base) ∷ acc else digits_onto k base false (n / base) (glyph (n % base) ∷ acc))
    by true more = omega arith
    by false more = omega arith

module _ (base n : ℕ) where
  one_digit : n / base ≡ 0 → digits base false n ≡ glyph (n % base) ∷ []
  unfolding digits
  one_digit last = onto_last 63 base n [] last

  two_digits : (n / base ≡ 0 → ⊥) → n / base / base ≡ 0
      → digits base false n ≡ glyph (n / base % base) ∷ glyph (n % base) ∷ []
  unfolding digits
  two_digits more last =
      onto_more 63 base n [] more ∙ onto_last 62 base (n / base) (glyph (n % base) ∷ []) last

  -- the last two digits, and those before them
  last_two : (n / base ≡ 0 → ⊥) → (n / base / base ≡ 0 → ⊥)
      → digits base false n ≡ digits_onto 62 base false (n / base / base) (glyph (n / base % base) ∷ glyph (n % base) ∷ [])
  unfolding digits
  last_two more most =
      onto_more 63 base n [] more ∙ onto_more 62 base (n / base) (glyph (n % base) ∷ []) most

  three_digits : (n / base ≡ 0 → ⊥) → (n / base / base ≡ 0 → ⊥) → n / base / base / base ≡ 0
      → digits base false n ≡ glyph (n / base / base % base) ∷ glyph (n / base % base) ∷ glyph (n % base) ∷ []
  three_digits more most last =
      last_two more most
      ∙ onto_last 61 base (n / base / base) (glyph (n / base % base) ∷ glyph (n % base) ∷ []) last

  many_digits : (n / base ≡ 0 → ⊥) → (n / base / base ≡ 0 → ⊥) → (n / base / base / base ≡ 0 → ⊥)
      → 3 ≤ length (digits base false n)
  many_digits more most all =
      let front = last_two more most
      ∙ onto_more 61 base (n / base / base) (glyph (n / base % base) ∷ glyph (n % base) ∷ []) all in
      omega (arith, ap length front, grows 61 base (n / base / base / base) (glyph (n / base / base % base) ∷ glyph (n / base % base) ∷ glyph (n % base) ∷ []))

pub hex_offset_shown : (n : ℕ) → three_wide (digits 16 false n) ++ 32 ∷ [] ≡ hex_offset n
unfolding padded_integral char_count
hex_offset_shown n =
    elim (cases_lt n 16) [
      | inl one ↦
          let a : n / 256 ≡ 0 = omega arith in let b : n / 16 % 16 ≡ 0 = omega arith in
          let t : nat_lt n 4096 ≡ true = lt-ltb n 4096 (omega arith) in
          rw (one_digit 16 n (omega arith), t, a, b)
      | inr two ↦ elim (cases_lt n 256) [
        | inl less ↦
            let a : n / 256 ≡ 0 = omega arith in
            let t : nat_lt n 4096 ≡ true = lt-ltb n 4096 (omega arith) in
            rw (two_digits 16 n (λ z. omega arith) (omega arith), t, a)
        | inr three ↦ elim (cases_lt n 4096) [
          | inl less ↦
              let a : n / 16 / 16 % 16 ≡ n / 256 = omega arith in
              let t : nat_lt n 4096 ≡ true = lt-ltb n 4096 less in
              rw (three_digits 16 n (λ z. omega arith) (λ z. omega arith) (omega arith), t, a)
          | inr many ↦
              let t : nat_lt n 4096 ≡ false = le-ltb n 4096 many in
              rw t (ap (λ (d : List ℕ). d ++ 32 ∷ [])
              (long_numeral (digits 16 false n) (many_digits 16 n (λ z. omega arith) (λ z. omega arith) (λ z. omega arith))))
        ]
      ]
    ]

pub octal_offset_shown : (n : ℕ) → three_wide (digits 8 false n) ++ 32 ∷ [] ≡ octal_offset n
unfolding padded_integral char_count
octal_offset_shown n =
    elim (cases_lt n 8) [
      | inl one ↦
          let a : n / 64 ≡ 0 = omega arith in let b : n / 8 % 8 ≡ 0 = omega arith in
          let t : nat_lt n 512 ≡ true = lt-ltb n 512 (omega arith) in
          rw (one_digit 8 n (omega arith), t, a, b)
      | inr two ↦ elim (cases_lt n 64) [
        | inl less ↦
            let a : n / 64 ≡ 0 = omega arith in
            let t : nat_lt n 512 ≡ true = lt-ltb n 512 (omega arith) in
            rw (two_digits 8 n (λ z. omega arith) (omega arith), t, a)
        | inr three ↦ elim (cases_lt n 512) [
          | inl less ↦
              let a : n / 8 / 8 % 8 ≡ n / 64 = omega arith in
              let t : nat_lt n 512 ≡ true = lt-ltb n 512 less in
              rw (three_digits 8 n (λ z. omega arith) (λ z. omega arith) (omega arith), t, a)
          | inr many ↦
              let t : nat_lt n 512 ≡ false = le-ltb n 512 many in
              rw t (ap (λ (d : List ℕ). d ++ 32 ∷ [])
              (long_numeral (digits 8 false n) (many_digits 8 n (λ z. omega arith) (λ z. omega arith) (λ z. omega arith))))
        ]
      ]
    ]
