-- The units of a controller: each has a store of blocks and a mode. Requests see their disks. MSCP Basic
-- Disk Functions Manual: unit states, write protection.
use Rattle.std.specs.Prelude.{◌≡◌, ℕ, Bool, true, ◌&&◌, ◌||◌, List, Option, Some, None, map, option_map, slice_get, All}
use Rattle.uda_image.specs.Store.{StoreState, NeverFails, LentBytes, HasWholeBlocks, is_sound, lent_bytes}
use Rattle.uda_disk.specs.declared.mode.Mode.{Mode}
use Rattle.uda_disk.specs.Disk.{Disk, Disks}

-- a unit with a drive: the store of its blocks, and its mode
pub record UnitState : Type 0 where
  pub store : StoreState
  pub mode : Mode

-- the existing units; None is a unit without a drive
abbrev pub Units : Type 0
Units = List (Option UnitState)

abbrev pub disk_of : UnitState → Disk
disk_of unit = record { blocks = unit.store.blocks; size = unit.store.size; mode = unit.mode }

abbrev pub disks_of : Units → Disks
disks_of units = map (option_map disk_of) units

-- the store of this unit is faithful: it returns the data that was written last; true if there is no store
abbrev pub is_faithful : Option (Option UnitState) → Bool
is_faithful (Some (Some unit)) = unit.store.faithful
is_faithful _ = true

abbrev pub AllFaithful : Units → Type 0
AllFaithful units = (u : ℕ) → is_faithful (slice_get units u) ≡ true

-- the store of this unit is sound: it is faithful, or it has been honest until now; true if there is no store
abbrev pub is_sound_at : Option (Option UnitState) → Bool
is_sound_at (Some (Some unit)) = is_sound unit.store
is_sound_at _ = true

abbrev pub AllSound : Units → Type 0
AllSound units = (u : ℕ) → is_sound_at (slice_get units u) ≡ true

-- each store that is sound afterwards was sound before
abbrev pub AreSoundBefore : Units → Units → Type 0
AreSoundBefore units units_after =
    (u : ℕ) → is_sound_at (slice_get units_after u) ≡ true → is_sound_at (slice_get units u) ≡ true

-- The store of this unit never fails: no read does, and no write, unless the drive's own switch protects it, so that
-- none reaches its store. True if there is no store
abbrev pub is_infallible : Option (Option UnitState) → Bool
is_infallible (Some (Some unit)) = unit.store.never_fails.reads && (unit.store.never_fails.writes || unit.mode.hard)
is_infallible _ = true

-- each unit is sure: its store is faithful, and never fails
abbrev pub AreSure : Units → Type 0
AreSure units = (u : ℕ) → is_faithful (slice_get units u) && is_infallible (slice_get units u) ≡ true

-- the number of failed calls of this unit's store
abbrev pub failures_at : Option (Option UnitState) → ℕ
failures_at (Some (Some unit)) = unit.store.failures
failures_at _ = 0

-- the number of calls until the store of this unit fails, if it is known
abbrev pub failing_call_at : Option (Option UnitState) → Option ℕ
failing_call_at (Some (Some unit)) = unit.store.failing_call
failing_call_at _ = None

-- a unit with a faithful store is well formed: it has as many blocks as its size says, each of 512 bytes
abbrev pub IsWellFormed : Option UnitState → Type 0
IsWellFormed None = Unit {0}
IsWellFormed (Some unit) = unit.store.faithful ≡ true → HasWholeBlocks unit.store.size unit.store.blocks

abbrev pub AreWellFormed : Units → Type 0
AreWellFormed units = All IsWellFormed units

-- the same of a unit with a sound store
abbrev pub IsWellFormedIfSound : Option UnitState → Type 0
IsWellFormedIfSound None = Unit {0}
IsWellFormedIfSound (Some unit) = is_sound unit.store ≡ true → HasWholeBlocks unit.store.size unit.store.blocks

abbrev pub AreWellFormedIfSound : Units → Type 0
AreWellFormedIfSound units = All IsWellFormedIfSound units

-- the attributes that no request changes, whatever the store: the size, the hardware protection, whether
-- the store is faithful, whether it never fails, and the bytes that are lent for its ready blocks
pub record FixedAttributes : Type 0 where
  pub size : ℕ
  pub hard : Bool
  pub faithful : Bool
  pub never_fails : NeverFails
  pub lent : Option LentBytes

abbrev pub attributes_of : UnitState → FixedAttributes
attributes_of unit = record {
  size = unit.store.size;
  hard = unit.mode.hard;
  faithful = unit.store.faithful;
  never_fails = unit.store.never_fails;
  lent = lent_bytes unit.store;
}

abbrev pub unit_attributes : Units → List (Option FixedAttributes)
unit_attributes units = map (option_map attributes_of) units

abbrev pub modes_of : Units → List (Option Mode)
modes_of units = map (option_map (λ unit. unit.mode)) units
