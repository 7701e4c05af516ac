use Rattle.std.proofs.Common.{◌≡◌, ℕ, List, ◌+◌, ◌∷◌, [], ◌++◌, length, refl, subst, ap, ◌∙◌}
use Rattle.std.specs.Prelude.{slice_index_or}
use Rattle.std.specs.List.{flat_map, range_with_len}
use Rattle.std.proofs.lemmas.Simd.{pick_l_whole}
use Rattle.uda50_show.specs.Rows.{hex_cell, hex_columns}
use Rattle.uda50_show.proofs.cells.hex_cells.Goals as goal

-- the cell in a place of columns
abbrev cell_at : List (List ℕ) → ℕ → List ℕ
cell_at columns n =
    let digits = slice_index_or columns 0 [] ++ slice_index_or columns 1 [] in
    32 ∷ slice_index_or digits n 0 ∷ slice_index_or digits (16 + n) 0 ∷ []

-- the cells of all places are those of the bytes
cells_of_columns : (bytes : List ℕ) → length bytes ≡ 16
    → flat_map (cell_at (hex_columns bytes)) (range_with_len 0 16) ≡ flat_map hex_cell bytes
cells_of_columns bytes long =
    subst (λ (t : List ℕ). flat_map (cell_at (hex_columns t)) (range_with_len 0 16) ≡ flat_map hex_cell t)
    (pick_l_whole 0 bytes 16 long) refl

pub returns : goal.returns
returns c = record {
  cells =
      ap (λ (t : List (List ℕ)). flat_map (cell_at t) (range_with_len 0 16)) c.hex_digits.ensures.digits
      ∙ cells_of_columns c.args.bytes.now c.told-bytes;
}
