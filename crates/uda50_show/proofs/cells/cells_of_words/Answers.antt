use Rattle.std.proofs.Common.{◌≡◌, ℕ, List, ◌+◌, ◌/◌, ◌%◌, ◌∷◌, [], ◌++◌, length, map, take, drop, refl, subst, ap}
use Rattle.std.proofs.Common.{◌∙◌, arith}
use Rattle.std.specs.Prelude.{slice_index_or}
use Rattle.std.specs.List.{flat_map, range_with_len}
use Rattle.std.specs.Simd.Lanes.{pick_l}
use Rattle.std.proofs.lemmas.Simd.{pick_l_whole}
use Rattle.uda50_show.proofs.Ascii.{glyph_ascii}
use Rattle.uda50_show.specs.Rows.{glyph, low_byte, octal_cell, octal_glyph, octal_columns}
use Rattle.uda50_show.proofs.cells.cells_of_words.Goals as goal

-- the cell in a place of the digits of all columns
abbrev cell_at : List ℕ → ℕ → List ℕ
cell_at digits n =
    let ab = take 16 digits in
    let cd = take 16 (take 32 (drop 16 digits)) in
    let ef = take 16 (take 16 (drop 32 digits)) in
    32 ∷ slice_index_or (ab ++ ab) n 0 ∷ slice_index_or (ab ++ ab) (8 + n) 0 ∷ slice_index_or (cd ++ cd) n 0
    ∷ slice_index_or (cd ++ cd) (8 + n) 0 ∷ slice_index_or (ef ++ ef) n 0 ∷ slice_index_or (ef ++ ef) (8 + n) 0 ∷ []

-- the cell of a word, of the low bytes of its digits
abbrev cell_of_bytes : ℕ → List ℕ
cell_of_bytes word =
    32 ∷ low_byte (octal_glyph 32768 word) ∷ low_byte (octal_glyph 4096 word) ∷ low_byte (octal_glyph 512 word)
    ∷ low_byte (octal_glyph 64 word) ∷ low_byte (octal_glyph 8 word) ∷ low_byte (octal_glyph 1 word) ∷ []

-- a digit is its low byte
is_byte : (d : ℕ) → low_byte (glyph (d % 8)) ≡ glyph (d % 8)
is_byte d = omega (arith, glyph_ascii (d % 8) (omega arith))

same_cell : (word : ℕ) → cell_of_bytes word ≡ octal_cell word
same_cell word =
    rw (is_byte (word / 32768), is_byte (word / 4096), is_byte (word / 512), is_byte (word / 64), is_byte (word / 8), is_byte (word / 1))

same_cells : (words : List ℕ) → flat_map cell_of_bytes words ≡ flat_map octal_cell words
same_cells [] = refl
same_cells (word ∷ words) =
    ap (λ (t : List ℕ). t ++ flat_map cell_of_bytes words) (same_cell word)
    ∙ ap (λ (t : List ℕ). octal_cell word ++ t) (same_cells words)

-- the cells of all places are those of the words
cells_of_digits : (words : List ℕ) → length words ≡ 8
    → flat_map (cell_at (map low_byte (flat_map (λ (x : List ℕ). x) (octal_columns words)))) (range_with_len 0 8)
    ≡ flat_map octal_cell words
cells_of_digits words long =
    subst (λ (t : List ℕ). flat_map (cell_at (map low_byte (flat_map (λ (x : List ℕ). x) (octal_columns t)))) (range_with_len 0 8)
    ≡ flat_map octal_cell t)
    (pick_l_whole 0 words 8 long) (same_cells (pick_l 0 words (range_with_len 0 8)))

pub returns : goal.returns
returns c = record {
  cells =
      ap (λ (t : List ℕ). flat_map (cell_at t) (range_with_len 0 8)) c.low_bytes-digits.ensures.bytes
      ∙ ap (λ (t : List (List ℕ)). flat_map (cell_at (map low_byte (flat_map (λ (x : List ℕ). x) t))) (range_with_len 0 8)) c.octal_digits.ensures.digits
      ∙ cells_of_digits c.args.words.now c.told-words;
}
