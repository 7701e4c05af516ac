-- The drive types that a unit can report, with the facts that a host can read of each. MSCP Basic Disk
-- Functions Manual: media type identifiers, unit identifiers, Get Unit Status.
use Rattle.std.specs.Prelude.{ℕ, true, false, List, [], ◌∷◌, slice_get, codes, Option}
use Rattle.uda_packet.specs.declared.drive_type.DriveType.{DriveType}
use Rattle.uda_packet.specs.declared.drive_type.DriveType.TheVariants as drive
use Rattle.uda_packet.specs.declared.drive_type.DriveTraits.{DriveTraits}
use Rattle.uda_packet.specs.declared.drive_type.Geometry.{Geometry}

abbrev pub geometry : ℕ → ℕ → ℕ → Geometry
geometry sectors tracks groups = record { sectors = sectors; tracks = tracks; groups = groups }

-- a drive with a fixed, writable medium
abbrev pub fixed : ℕ → ℕ → ℕ → Geometry → DriveTraits
fixed blocks model media shape = record {
  blocks = blocks;
  model = model;
  media = media;
  geometry = shape;
  is_removable = false;
  is_read_only = false;
}

-- a drive with a removable, writable medium
abbrev pub removable : ℕ → ℕ → ℕ → Geometry → DriveTraits
removable blocks model media shape = record (fixed blocks model media shape) { is_removable = true }

-- a drive with a removable medium that it can't write
abbrev pub cdrom : ℕ → ℕ → ℕ → Geometry → DriveTraits
cdrom blocks model media shape =
    record (removable blocks model media shape) { is_read_only = true }

-- a row of the table: the number of a drive type for programs that store it or pass it on, its name, and its
-- facts
pub record TypeRow : Type 0 where
  pub number : ℕ
  pub name : List ℕ
  pub traits : DriveTraits

abbrev pub row : ℕ → List ℕ → DriveTraits → TypeRow
row number name traits = record { number = number; name = name; traits = traits }

-- the facts are the usual size in blocks, model and media type; sectors per track, tracks per group, groups
-- per cylinder
abbrev pub type_row : DriveType → TypeRow
type_row drive.Rx50 = row 0 (codes "RX50") (removable 800 7 0x25658032 (geometry 10 5 16))
type_row drive.Rx33 = row 1 (codes "RX33") (removable 2400 10 0x25658021 (geometry 15 2 1))
type_row drive.Rd51 = row 2 (codes "RD51") (fixed 21600 6 0x25644033 (geometry 18 4 1))
type_row drive.Rd31 = row 3 (codes "RD31") (fixed 41560 12 0x2564401F (geometry 17 4 1))
type_row drive.Rd52 = row 4 (codes "RD52") (fixed 60480 8 0x25644034 (geometry 17 8 1))
type_row drive.Rd53 = row 5 (codes "RD53") (fixed 138672 9 0x25644035 (geometry 17 8 1))
type_row drive.Rd54 = row 6 (codes "RD54") (fixed 311200 13 0x25644036 (geometry 17 15 1))
type_row drive.Ra60 = row 7 (codes "RA60") (removable 400176 4 0x22A4103C (geometry 42 6 1))
type_row drive.Ra81 = row 8 (codes "RA81") (fixed 891072 5 0x25641051 (geometry 51 14 1))
type_row drive.Ra82 = row 9 (codes "RA82") (fixed 1216665 11 0x25641052 (geometry 57 15 1))
type_row drive.Ra71 = row 10 (codes "RA71") (fixed 1367310 40 0x25641047 (geometry 51 14 1))
type_row drive.Ra72 = row 11 (codes "RA72") (fixed 1953300 37 0x25641048 (geometry 51 20 1))
type_row drive.Ra90 = row 12 (codes "RA90") (fixed 2376153 19 0x2564105A (geometry 69 13 1))
type_row drive.Ra92 = row 13 (codes "RA92") (fixed 2940951 29 0x2564105C (geometry 73 13 1))
type_row drive.Rrd40 = row 14 (codes "RRD40") (cdrom 1331200 26 0x25652228 (geometry 128 1 1))

-- every drive type, in the order of their numbers
abbrev pub drive_types : List DriveType
drive_types =
    drive.Rx50 ∷ drive.Rx33 ∷ drive.Rd51 ∷ drive.Rd31 ∷ drive.Rd52 ∷ drive.Rd53 ∷ drive.Rd54 ∷ drive.Ra60
    ∷ drive.Ra81 ∷ drive.Ra82 ∷ drive.Ra71 ∷ drive.Ra72 ∷ drive.Ra90 ∷ drive.Ra92 ∷ drive.Rrd40 ∷ []

abbrev pub drive_traits : DriveType → DriveTraits
drive_traits kind = (type_row kind).traits

abbrev pub drive_name : DriveType → List ℕ
drive_name kind = (type_row kind).name

abbrev pub type_number : DriveType → ℕ
type_number kind = (type_row kind).number

-- the drive type of a number
abbrev pub type_numbered : ℕ → Option DriveType
type_numbered number = slice_get drive_types number
