-- The bytes that a reader of a text has already.
use Rattle.std.proofs.Common.{◌≡◌, ℕ, ◌+◌, ◌≤◌, ◌<◌, Bool, true, false, List, [], ◌∷◌, ◌++◌, length, take, drop, get_or, Option, Some, None, sym, ap, ◌∙◌, arith, subst, add-one, append_assoc, take-append-drop}
use Rattle.std.specs.Prelude.{◌==◌, if◌then◌else◌}
use Rattle.std.specs.Io.KnownBytes.{Consumes, prepend_known}
use Rattle.std.proofs.lemmas.Bool.{false_from_ne_true}
use Rattle.std.proofs.lemmas.Bool.Decides.{nat_tests}
use Rattle.std.proofs.lemmas.List.{take_all, length-take, get_or-take}
use Rattle.std.proofs.lemmas.List.Elements.{All-from_get_or}
use Rattle.std.proofs.Math.Seq.{take-suc}
use Rattle.memchr.specs.Find.{Nowhere, Passes, is_byte}
use Rattle.uda_grammar.specs.Parts.{IsOneLine}

-- bytes that have no line feed are one line
pub one_line : (bytes : List ℕ) (end : ℕ) → end ≤ length bytes → Nowhere (Passes (is_byte 10) bytes) 0 end
    → IsOneLine (take end bytes)
one_line bytes end within none =
    All-from_get_or (λ byte. (byte == 10) ≡ false) (take end bytes) 0
    (λ i less.
    let before : i < end = omega (arith, less, length-take end bytes, within) in
    let same = get_or-take end bytes i 0 before in
    false_from_ne_true (get_or (take end bytes) i 0 == 10)
    (λ is. none i (omega arith) before (subst (λ (byte : ℕ). (byte == 10) ≡ true) same is)))

pub whole_line : (bytes : List ℕ) → Nowhere (Passes (is_byte 10) bytes) 0 (length bytes) → IsOneLine bytes
whole_line bytes none =
    subst IsOneLine (take_all (length bytes) bytes (omega arith)) (one_line bytes (length bytes) (omega arith) none)

-- the bytes before a line feed, and the line feed
pub with_line_feed : (bytes : List ℕ) (n : ℕ) → n < length bytes → Passes (is_byte 10) bytes n
    → take (n + 1) bytes ≡ take n bytes ++ 10 ∷ []
with_line_feed bytes n less is =
    let feed : get_or bytes n 0 ≡ 10 = grind (arith, nat_tests, is) in
    ap (λ (k : ℕ). take k bytes) (add-one n) ∙ take-suc bytes n 0 less
    ∙ ap (λ (byte : ℕ). take n bytes ++ byte ∷ []) feed

-- a buffer without its first bytes, before a reader that is left alone
skipped_of : (none : Bool) (count : ℕ) (buffer : List ℕ) (inner : Option (List ℕ))
    → Consumes (if none then None else prepend_known buffer inner)
    (if none then None else prepend_known (drop count buffer) inner) (take count buffer)
skipped_of true count buffer inner = tt
skipped_of false count buffer None = tt
skipped_of false count buffer (Some xs) =
    ap (λ (bytes : List ℕ). bytes ++ xs) (sym (take-append-drop count buffer))
    ∙ append_assoc (take count buffer) (drop count buffer) xs

pub skipped : (count room room_after : ℕ) (buffer buffer_after : List ℕ) (inner inner_after : Option (List ℕ))
    → room_after ≡ room → buffer_after ≡ drop count buffer → inner_after ≡ inner
    → Consumes (if room == 0 then None else prepend_known buffer inner)
    (if room_after == 0 then None else prepend_known buffer_after inner_after) (take count buffer)
skipped count room room_after buffer buffer_after inner inner_after same_room dropped same =
    rw (same_room, dropped, same) (skipped_of (room == 0) count buffer inner)
