use Rattle.std.proofs.Common.{ℕ, List, ◌++◌, replicate, ap, ◌∙◌, refl, rules}
use Rattle.std.specs.List.{flat_map}
use Rattle.uda50_show.specs.Rows.{hex_offset, hex_cell}
use Rattle.uda50_show.proofs.Rows.{three_parts}
use Rattle.uda50_show.proofs.row.HexRow.text.Goals as goal

pub returns : goal.returns
returns c =
    let row = c.args.self.now in
    let offset = c.copy_from_slice.ensures.after ∙ c.hex_offset.ensures.text in
    let cells =
    c.copy_from_slice-2.ensures.after ∙ c.hex_cells.ensures.cells in
    let characters = c.copy_from_slice-3.ensures.after ∙ c.characters.ensures.text in
    record {
      text =
          three_parts 4 48 20 (replicate 72 32) c.copy_from_slice.new.self c.copy_from_slice-2.new.self
          c.copy_from_slice-3.new.self (search rules) (search rules) (search rules) refl
          ∙ ap (λ (t : List ℕ). t ++ c.copy_from_slice-2.new.self ++ c.copy_from_slice-3.new.self) offset
          ∙ ap (λ (t : List ℕ). hex_offset row.offset ++ t ++ c.copy_from_slice-3.new.self) cells
          ∙ ap (λ (t : List ℕ). hex_offset row.offset ++ flat_map hex_cell row.bytes ++ t) characters;
    }
