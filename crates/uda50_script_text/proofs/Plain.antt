-- Texts that are passed on as they are.
use Rattle.std.proofs.Common.{◌≡◌, ℕ, ◌==◌, true, if◌then◌else◌, List, [], ◌∷◌, ◌++◌, refl, sym, ap, ◌∙◌, append-nil, append_assoc, arith}
use Rattle.std.proofs.lemmas.Bool.Decides.{nat_tests}
use Rattle.uda50_script_text.specs.declared.blanks.Blanks.{Blanks}
use Rattle.uda50_script_text.specs.declared.blanks.Blanks.TheVariants.{Indent, Word, Gap}
use Rattle.uda50_script_text.specs.Blanks.{passed, held_back, next, squeezed, blanks_after, passed_or_held, is_plain_after}

-- what is held back after a byte of a plain text
abbrev pub blanks_of : ℕ → Blanks
blanks_of byte = if byte == 32 then Gap else if byte == 10 then Indent else Word

-- one byte more
pub squeezed_more : (blanks : Blanks) (xs : List ℕ) (byte : ℕ)
    → squeezed blanks (xs ++ byte ∷ []) ≡ squeezed blanks xs ++ passed (blanks_after blanks xs) byte
squeezed_more blanks [] byte = append-nil (passed blanks byte)
squeezed_more blanks (x ∷ xs) byte =
    ap (λ (t : List ℕ). passed blanks x ++ t) (squeezed_more (next blanks x) xs byte)
    ∙ sym (append_assoc (passed blanks x) (squeezed (next blanks x) xs) (passed (blanks_after (next blanks x) xs) byte))

pub blanks_after_more : (blanks : Blanks) (xs : List ℕ) (byte : ℕ)
    → blanks_after blanks (xs ++ byte ∷ []) ≡ next (blanks_after blanks xs) byte
blanks_after_more blanks [] byte = refl
blanks_after_more blanks (x ∷ xs) byte = blanks_after_more (next blanks x) xs byte

pub plain_next : (before byte : ℕ) → is_plain_after before byte ≡ true
    → next (blanks_of before) byte ≡ blanks_of byte
plain_next before byte plain = grind (arith, nat_tests)

pub plain_passed : (before byte : ℕ) → is_plain_after before byte ≡ true
    → passed (blanks_of before) byte ++ held_back (blanks_of byte) ≡ held_back (blanks_of before) ++ byte ∷ []
plain_passed before byte plain = grind (arith, nat_tests)

-- one byte more of a plain text
pub plain_more : (xs : List ℕ) (before byte : ℕ) → is_plain_after before byte ≡ true
    → passed_or_held xs ≡ xs → blanks_after Word xs ≡ blanks_of before
    → (passed_or_held (xs ++ byte ∷ []) ≡ xs ++ byte ∷ []) × (blanks_after Word (xs ++ byte ∷ []) ≡ blanks_of byte)
plain_more xs before byte plain same is =
    let after : blanks_after Word (xs ++ byte ∷ []) ≡ blanks_of byte =
    blanks_after_more Word xs byte ∙ ap (λ b. next b byte) is ∙ plain_next before byte plain in
    let more : squeezed Word (xs ++ byte ∷ []) ≡ squeezed Word xs ++ passed (blanks_of before) byte =
    squeezed_more Word xs byte ∙ ap (λ b. squeezed Word xs ++ passed b byte) is in
    let whole : squeezed Word xs ++ held_back (blanks_of before) ≡ xs =
    ap (λ b. squeezed Word xs ++ held_back b) (sym is) ∙ same in (
      ap (λ b. squeezed Word (xs ++ byte ∷ []) ++ held_back b) after
          ∙ ap (λ (t : List ℕ). t ++ held_back (blanks_of byte)) more
          ∙ append_assoc (squeezed Word xs) (passed (blanks_of before) byte) (held_back (blanks_of byte))
          ∙ ap (λ (t : List ℕ). squeezed Word xs ++ t) (plain_passed before byte plain)
          ∙ sym (append_assoc (squeezed Word xs) (held_back (blanks_of before)) (byte ∷ []))
          ∙ ap (λ (t : List ℕ). t ++ byte ∷ []) whole,
      after,
    )
