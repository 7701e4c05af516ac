-- Drive types by their sizes.
use Rattle.std.specs.Prelude.{ℕ, Bool, nat_lt}
use Rattle.uda50_show.specs.declared.drive_type.DriveTypeEntry.{DriveTypeEntry}

-- a drive type has more blocks
abbrev pub is_larger : ℕ → DriveTypeEntry → Bool
is_larger blocks drive = nat_lt blocks drive.blocks

-- a drive type has fewer blocks
abbrev pub is_smaller : ℕ → DriveTypeEntry → Bool
is_smaller blocks drive = nat_lt drive.blocks blocks
