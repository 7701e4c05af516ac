-- What a word that the host writes to SA writes to host memory. A caller with memory through map registers copies
-- only that.
-- UDA50 Programmer's Documentation Kit: initialization, communication area.
use Rattle.std.specs.Prelude.{◌≡◌, ℕ, ◌+◌, ◌-◌, Bool, true, false, List, [], ◌∷◌, length, if◌then◌else◌}
use Rattle.uda_mem.specs.declared.range.ByteRange.{ByteRange}
use Rattle.uda_mem.specs.Ranges.{EMPTY_RANGE, carried}
use Rattle.uda_port.specs.declared.area.Area.{Area}
use Rattle.uda_port.specs.declared.phase.Phase.{Phase}
use Rattle.uda_port.specs.declared.phase.Phase.TheVariants.{Step3}
use Rattle.uda_port.specs.Port.{PortState}
use Rattle.uda_port.specs.Startup.{area_of, has_area, rings_size, refuses_third, after_sa_write}

-- all bytes of a communication area
abbrev pub area_range : Area → ByteRange
area_range area = record { at = area.base - area.below; bytes = area.below + rings_size area }

-- the area that the third word describes, if the word is accepted and the area is in memory
abbrev pub range_by : Bool → Area → List ℕ → ByteRange
range_by refused area memory =
    if refused then EMPTY_RANGE else if has_area area (length memory) then area_range area else EMPTY_RANGE

-- the range that a word zeroes, by the phase of the port
abbrev pub range_zeroed : Phase → PortState → List ℕ → ℕ → ByteRange
range_zeroed (Step3 first second) old memory word =
    range_by (refuses_third old.profile word) (area_of old.profile first second word) memory
range_zeroed _ old memory word = EMPTY_RANGE

-- a word of which that range leads nowhere: as if memory had no bytes
abbrev pub WordEffect : Bool → PortState × List ℕ → ℕ → PortState × List ℕ → Type 0
WordEffect false before word after = after ≡ after_sa_write before.0.phase before.0 before.1 word
WordEffect true before word after =
    ((after.0, []) ≡ after_sa_write before.0.phase before.0 [] word) × (after.1 ≡ before.1)

abbrev pub range_written : Bool → PortState × List ℕ → ℕ → ByteRange
range_written false before word = range_zeroed before.0.phase before.0 before.1 word
range_written true before word = EMPTY_RANGE

-- A word changed memory only in this range. In any other memory of the same length it has the same effect, and
-- leaves there what is carried.
pub record WordIsLocal (missing : Bool) (before : PortState × List ℕ) (word : ℕ) (range : ByteRange)
    (after : PortState × List ℕ) : Type 0 where
  pub only : after.1 ≡ carried (range ∷ []) after.1 before.1
  pub elsewhere : (other : List ℕ) → length other ≡ length before.1
      → WordEffect missing (before.0, other) word (after.0, carried (range ∷ []) after.1 other)
