-- The image in a struct of C: bytes, or none.
use Rattle.std.specs.Prelude.{◌≡◌, ◌≢◌, [], length, Bool, ◌==◌, ◌&&◌, if◌then◌else◌, Option, Some, None}
use denote.RawPtr.{null_ptr}
use Rattle.uda_image.specs.Store.{LentBytes}
use Rattle.uda_called.specs.declared.lent.BorrowedBytes.{BorrowedBytes}
use Rattle.uda_c.specs.declared.slot.Slot.{Slot}
use Rattle.uda_c.specs.declared.unit_images.UnitImages.{UnitImages}

-- a slot without an image
abbrev pub empty_slot : Slot
empty_slot = record { at = null_ptr; len = 0; held = [] }

abbrev pub is_empty : Slot → Bool
is_empty s = length s.held == 0

-- whether none of four slots has an image
abbrev pub are_empty : UnitImages → Bool
are_empty s = is_empty s.unit_0 && is_empty s.unit_1 && is_empty s.unit_2 && is_empty s.unit_3

-- the bytes of a slot
abbrev pub lent_in : Slot → BorrowedBytes
lent_in s = record { at = s.at; len = s.len; held = s.held }

-- the bytes of a slot, if there are any
abbrev pub bytes_of_slot : Slot → Option BorrowedBytes
bytes_of_slot s = if is_empty s then None else Some (lent_in s)

-- a slot into which these bytes were put back, if there are any
abbrev pub slot_with : Option LentBytes → Slot → Slot
slot_with (Some lent) s = record { at = lent.at; len = lent.count; held = lent.values }
slot_with None s = s

-- all bytes of a slot were removed, and it is empty; or there were none, and it is unchanged
abbrev pub TakesSlot : Option BorrowedBytes → Slot → Slot → Type 0
TakesSlot (Some lent) old new = (lent ≡ lent_in old) × (length old.held ≢ 0) × (new ≡ empty_slot)
TakesSlot None old new = (old.held ≡ []) × (new ≡ old)

-- a slot with these bytes
abbrev pub slot_of : BorrowedBytes → Slot
slot_of m = record { at = m.at; len = m.len; held = m.held }
