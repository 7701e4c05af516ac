-- Tokens by their digits.
use Rattle.std.proofs.Common.{◌≡◌, ℕ, ◌+◌, ◌*◌, ◌↔◌, List, [], ◌∷◌, length, get_or, ◌++◌, refl, sym, ap, ◌∙◌, append_assoc, arith, rules}
use Rattle.std.specs.Prelude.{◌/◌, ◌%◌, Option, Some, None, IsSome, IfSome}
use Rattle.uda50_show.specs.declared.packet.Packet.{Packet}
use Rattle.uda50_show.specs.Tokens.{token_bytes, made_bytes}
use Rattle.std.specs.Str.Parse.{AllDigits, digits_value}

-- three digits of a token, from a place on
abbrev pub three : List ℕ → ℕ → List ℕ
three token n = get_or token n 0 ∷ get_or token (n + 1) 0 ∷ get_or token (n + 2) 0 ∷ []

-- the number of six octal digits by the numbers of the first and the last three
pub record BySix (token : List ℕ) : Type 0 where
  pub value : digits_value 8 token ≡ 512 * digits_value 8 (three token 0) + digits_value 8 (three token 3)
  pub digits : AllDigits 8 token ↔ (AllDigits 8 (three token 0) × AllDigits 8 (three token 3))

pub by_six : (token : List ℕ) → length token ≡ 6 → BySix token
by_six [] e = absurd (omega (arith, e))
by_six (a ∷ []) e = absurd (omega (arith, e))
by_six (a ∷ b ∷ []) e = absurd (omega (arith, e))
by_six (a ∷ b ∷ c ∷ []) e = absurd (omega (arith, e))
by_six (a ∷ b ∷ c ∷ d ∷ []) e = absurd (omega (arith, e))
by_six (a ∷ b ∷ c ∷ d ∷ f ∷ []) e = absurd (omega (arith, e))
by_six (a ∷ b ∷ c ∷ d ∷ f ∷ g ∷ []) e = record {
  value = omega arith;
  digits = (
    λ all. ((all.0, (all.1.0, (all.1.1.0, tt))), all.1.1.1),
    λ both. (both.0.0, (both.0.1.0, (both.0.1.1.0, both.1))),
  );
}
by_six (a ∷ b ∷ c ∷ d ∷ f ∷ g ∷ h ∷ rest) e = absurd (omega (arith, e))

-- a token of six digits, digit by digit
pub six : (token : List ℕ) → length token ≡ 6
    → get_or token 0 0 ∷ get_or token 1 0 ∷ get_or token 2 0 ∷ get_or token 3 0 ∷ get_or token 4 0 ∷ get_or token 5 0 ∷ []
    ≡ token
six [] e = absurd (omega (arith, e))
six (a ∷ []) e = absurd (omega (arith, e))
six (a ∷ b ∷ []) e = absurd (omega (arith, e))
six (a ∷ b ∷ c ∷ []) e = absurd (omega (arith, e))
six (a ∷ b ∷ c ∷ d ∷ []) e = absurd (omega (arith, e))
six (a ∷ b ∷ c ∷ d ∷ f ∷ []) e = absurd (omega (arith, e))
six (a ∷ b ∷ c ∷ d ∷ f ∷ g ∷ []) e = refl
six (a ∷ b ∷ c ∷ d ∷ f ∷ g ∷ h ∷ rest) e = absurd (omega (arith, e))

-- the bytes of a word
pub word_bytes : (token : List ℕ) (word : ℕ) → length token ≡ 6 → word ≡ digits_value 8 token
    → token_bytes token ≡ word % 256 ∷ word / 256 % 256 ∷ []
word_bytes token word long is = rw (long, is) refl

-- two bytes that were put one after the other
pub both_put : (old one two word bytes : List ℕ) (low high : ℕ) → word ≡ low ∷ high ∷ [] → bytes ≡ low ∷ high ∷ []
    → one ≡ old ++ get_or word 0 0 ∷ [] → two ≡ one ++ get_or word 1 0 ∷ [] → two ≡ old ++ bytes
both_put old one two word bytes low high is same first second =
    second ∙ ap (λ (xs : List ℕ). xs ++ get_or word 1 0 ∷ []) first
    ∙ ap (λ (xs : List ℕ). old ++ get_or xs 0 0 ∷ [] ++ get_or xs 1 0 ∷ []) is
    ∙ append_assoc old (low ∷ []) (high ∷ []) ∙ ap (λ (xs : List ℕ). old ++ xs) (sym same)

-- the bytes of a packet that is complete
pub made_of : (made : Option Packet) (rest all : List ℕ) → IsSome made
    → IfSome made (λ packet. packet.0 ++ rest ≡ all) → made_bytes made ++ rest ≡ all
made_of None rest all some is = absurd (search (rules, some))
made_of (Some packet) rest all some is = is
