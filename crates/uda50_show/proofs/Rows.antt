-- The parts of rows, one after another.
use Rattle.std.proofs.Common.{◌≡◌, ℕ, ◌+◌, ◌/◌, ◌%◌, ◌<◌, List, [], ◌∷◌, ◌++◌, length, get_or, take, drop, sym, ap, ◌∙◌, append-nil, append_assoc, arith}
use Rattle.std.specs.List.{flat_map}
use Rattle.std.proofs.lemmas.List.{take_at, drop_at, drop_all, length-drop, length-append, take_more, flat_map_more}
use borrow.Rule.Slice.PartMut.{put_mid}
use Rattle.uda50_show.specs.Rows.{glyph, hex_cell}
use Rattle.uda50_show.specs.Hex.{hex_byte}

-- one cell more
pub cell_more : (cell : ℕ → List ℕ) (front piece xs : List ℕ) (i : ℕ) → i < length xs
    → piece ≡ cell (get_or xs i 0)
    → (front ++ flat_map cell (take i xs)) ++ piece ≡ front ++ flat_map cell (take (i + 1) xs)
cell_more cell front piece xs i less is =
    ap (λ (t : List ℕ). (front ++ flat_map cell (take i xs)) ++ t) is
    ∙ flat_map_more cell front (take i xs) (get_or xs i 0)
    ∙ ap (λ (t : List ℕ). front ++ flat_map cell t) (sym (take_more xs i 0 less))

-- a space and the digits of a byte are its cell
pub byte_cell : (byte : ℕ) → byte < 256 → 32 ∷ hex_byte byte ≡ hex_cell byte
byte_cell byte small = let high : byte / 16 % 16 ≡ byte / 16 = omega arith in
    ap (λ (d : ℕ). 32 ∷ glyph d ∷ glyph (byte % 16) ∷ []) high

-- three parts copied into an array of their length
pub three_parts : (i j k : ℕ) (array a b d : List ℕ)
    → length a ≡ i → length b ≡ j → length d ≡ k → length array ≡ i + j + k
    → put_mid (i + j) k (put_mid i j (a ++ drop i array) b) d ≡ a ++ b ++ d
three_parts i j k array a b d la lb ld long =
    let rest = drop j (drop i array) in
    let front : take i (a ++ drop i array) ≡ a = take_at a (drop i array) i la in
    let behind : drop i (a ++ drop i array) ≡ drop i array = drop_at a (drop i array) i la in
    let two : put_mid i j (a ++ drop i array) b ≡ (a ++ b) ++ rest = rw (front, behind) (sym (append_assoc a b rest)) in
    let size : length (a ++ b) ≡ i + j = omega (arith, length-append a b) in
    let left : take (i + j) ((a ++ b) ++ rest) ≡ a ++ b = take_at (a ++ b) rest (i + j) size in
    let right : drop (i + j) ((a ++ b) ++ rest) ≡ rest = drop_at (a ++ b) rest (i + j) size in
    let none : drop k rest ≡ [] = drop_all k rest (omega (arith, length-drop j (drop i array), length-drop i array)) in
    ap (λ (t : List ℕ). put_mid (i + j) k t d) two ∙ rw (left, right, none, append-nil, append_assoc)
