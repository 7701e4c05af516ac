-- Bytes printed one after another.
use Rattle.std.proofs.Common.{◌≡◌, ℕ, suc, ◌+◌, ◌<◌, List, [], ◌∷◌, ◌++◌, length, get_or, take, sym, ap, ◌∙◌, arith, length-take-le}
use Rattle.std.proofs.lemmas.List.{append_assoc, take_more}
use Rattle.uda_script.specs.Hexadecimal.{byte_text_at, byte_texts_from}

byte_texts_from-push : (place : ℕ) (xs : List ℕ) (byte : ℕ) → byte_texts_from place (xs ++ byte ∷ [])
    ≡ byte_texts_from place xs ++ byte_text_at (place + length xs) byte
byte_texts_from-push place [] byte = ap (λ p. byte_text_at p byte) (omega arith)
byte_texts_from-push place (x ∷ xs) byte =
    let further : suc place + length xs ≡ place + length (x ∷ xs) = omega arith in
    ap (λ (t : List ℕ). byte_text_at place x ++ t) (byte_texts_from-push (suc place) xs byte)
    ∙ sym (append_assoc (byte_text_at place x) (byte_texts_from (suc place) xs) (byte_text_at (suc place + length xs) byte))
    ∙ ap (λ p. (byte_text_at place x ++ byte_texts_from (suc place) xs) ++ byte_text_at p byte) further

-- one byte more
pub byte_texts_from-more : (bytes : List ℕ) (i : ℕ) → i < length bytes → byte_texts_from 0 (take (i + 1) bytes)
    ≡ byte_texts_from 0 (take i bytes) ++ byte_text_at i (get_or bytes i 0)
byte_texts_from-more bytes i h =
    let size : 0 + length (take i bytes) ≡ i = omega (arith, length-take-le i bytes) in
    ap (byte_texts_from 0) (take_more bytes i 0 h) ∙ byte_texts_from-push 0 (take i bytes) (get_or bytes i 0)
    ∙ ap (λ p. byte_texts_from 0 (take i bytes) ++ byte_text_at p (get_or bytes i 0)) size
