-- The status of blocks. GNU ddrescue manual: mapfile structure.
use Rattle.std.specs.Prelude.{ℕ, ◌≤◌, ◌<◌, ◌||◌, List, codes, Option, Some, None, if◌then◌else◌}
use Rattle.std.specs.Str.{bytes_eq}
use Rattle.uda50_copy.specs.declared.map.entry.BlockStatus.{BlockStatus}
use Rattle.uda50_copy.specs.declared.map.entry.BlockStatus.TheVariants.{NonTried, Bad, Finished}

-- the characters ?, - and +
abbrev pub status_character : BlockStatus → ℕ
status_character NonTried = 63
status_character Bad = 45
status_character Finished = 43

-- the status of a text. Blocks with * or / failed as a part of more blocks, and were not tried one by one
abbrev pub status_of_text : List ℕ → Option BlockStatus
status_of_text text =
    if bytes_eq text (codes "?") || (bytes_eq text (codes "*") || bytes_eq text (codes "/"))
    then Some NonTried
    else if bytes_eq text (codes "-") then Some Bad
    else if bytes_eq text (codes "+") then Some Finished
    else None

-- some blocks, all of them from this one on
abbrev pub AreLater : ℕ → ℕ → ℕ → Type 0
AreLater from start end = (from ≤ start) × (start < end)
