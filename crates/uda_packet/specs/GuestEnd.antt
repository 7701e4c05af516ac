-- The facts that a compatible controller reports of itself and of its units. MSCP Basic Disk Functions
-- Manual: end messages, unit flags, unit and controller identifiers.
use Rattle.std.specs.Prelude.{ℕ, ◌+◌, ◌-◌, ◌*◌, ◌^◌, ◌%◌, ◌==◌, ◌||◌, Bool, true, false, Option, Some, None, List}
use Rattle.std.specs.Prelude.{[], ◌∷◌, ◌++◌}
use Rattle.std.specs.Int.RustNames.{bit_or}
use Rattle.uda_disk.specs.Disk.{software_protection, hardware_protection}
use Rattle.uda_disk.specs.Status.{SUCCESS, ABORTED}
use Rattle.uda_packet.specs.declared.drive_type.DriveTraits.{DriveTraits}
use Rattle.uda_packet.specs.declared.reply.Reply.{Reply}
use Rattle.uda_packet.specs.declared.reply.ReplyBody.{ReplyBody}
use Rattle.uda_packet.specs.declared.reply.ReplyBody.TheVariants.{Basic, SetUnit}
use Rattle.uda_packet.specs.Reply.{reply_code, reply_entries}
use Rattle.uda_packet.specs.declared.end.EndBody.{EndBody}
use Rattle.uda_packet.specs.declared.end.EndBody.TheVariants as body
use Rattle.uda_packet.specs.declared.guest_end.Bus.{Bus}
use Rattle.uda_packet.specs.declared.guest_end.Bus.TheVariants.{Unibus, Qbus}
use Rattle.uda_packet.specs.declared.guest_end.Identity.{Identity}
use Rattle.uda_packet.specs.declared.guest_end.UnitReport.{UnitReport}
use Rattle.uda_packet.specs.declared.guest_end.Report.{Report}
use Rattle.uda_packet.specs.DriveTypes.{drive_traits}
use Rattle.uda_packet.specs.Field.{Entry, ◌holds◌, field, text_of, reference_field, unit_field, code_field}
use Rattle.uda_packet.specs.Field.{status_field, byte_count_field, unit_flags_field, identifier_field}
use Rattle.uda_packet.specs.Field.{media_type_field, unit_size_field}

-- the number by which the host knows a drive: the controller's drives have the numbers from the first one on
abbrev pub unit_number : Identity → ℕ → ℕ
unit_number identity drive = (identity.first_unit + drive) % 2 ^ 16

-- the drive that the host means by a unit number; the result is below 4 only for the controller's units
abbrev pub drive_number : Identity → ℕ → ℕ
drive_number identity unit = (unit + 2 ^ 16 - identity.first_unit) % 2 ^ 16

-- the number of addresses of a bus: those of the UNIBUS have 18 bits, those of the Q-bus 22
abbrev pub addresses_of : Bus → ℕ
addresses_of Unibus = 2 ^ 18
addresses_of Qbus = 2 ^ 22

-- ---- the controller

-- its model: 6 is a UDA50, 19 an RQDX3
abbrev pub model_of : Bus → ℕ
model_of Unibus = 6
model_of Qbus = 19

-- the controller flags that the host set, and the bit of a controller that replaces bad blocks itself
abbrev pub flags_reported : ℕ → ℕ
flags_reported flags = bit_or flags 0x8000

-- the flags, a time-out of 120 seconds, software version 3 and hardware version 1, and the identifier; its
-- highest bytes are the model and the class 1
abbrev pub characteristics : Report → List Entry
characteristics r =
    unit_flags_field holds flags_reported r.controller_flags
    ∷ field 16 2 holds 120 ∷ field 18 2 holds 0x0103
    ∷ identifier_field holds (model_of r.identity.bus * 256 ^ 6 + 1 * 256 ^ 7) ∷ []

-- ---- a unit

abbrev pub flag_if : Bool → ℕ → ℕ
flag_if true flag = flag
flag_if false flag = 0

-- the controller replaces bad blocks; the drive or its type is write-protected; the host protected the
-- unit; the medium is removable
abbrev pub unit_flags : UnitReport → ℕ
unit_flags u =
    0x8000 + flag_if (u.hard || (drive_traits u.kind).is_read_only) hardware_protection
    + flag_if u.soft software_protection + flag_if (drive_traits u.kind).is_removable 0x0080

-- the unit's number, its type's model and the class 2 (disk)
abbrev pub unit_identifier : DriveTraits → ℕ → ℕ
unit_identifier traits number = number + traits.model * 256 ^ 6 + 2 * 256 ^ 7

-- the identity of the unit: its number, its flags, its identifier and its media type
abbrev pub identity_entries : UnitReport → ℕ → List Entry
identity_entries u number =
    field 12 2 holds number ∷ unit_flags_field holds unit_flags u
    ∷ identifier_field holds unit_identifier (drive_traits u.kind) number
    ∷ media_type_field holds (drive_traits u.kind).media ∷ []

-- the further fields of Get Unit Status: the number again, and the geometry of a volume
abbrev pub geometry_entries : UnitReport → ℕ → List Entry
geometry_entries u number =
    let shape = (drive_traits u.kind).geometry in
    field 32 2 holds number ∷ field 36 2 holds shape.sectors ∷ field 38 2 holds shape.tracks
    ∷ field 40 2 holds shape.groups ∷ []

-- the further fields of Online: the number again, the volume's size, and its serial number
abbrev pub volume_entries : UnitReport → ℕ → List Entry
volume_entries u number =
    field 32 2 holds number ∷ unit_size_field holds u.size ∷ field 40 4 holds (668 + number) ∷ []

-- nothing is reported of a unit that isn't the controller's
abbrev pub status_entries : Option UnitReport → ℕ → List Entry
status_entries None number = []
status_entries (Some u) number = identity_entries u number ++ geometry_entries u number

abbrev pub online_entries : Option UnitReport → ℕ → List Entry
online_entries None number = []
online_entries (Some u) number = identity_entries u number ++ volume_entries u number

-- ---- end messages

abbrev pub controller_entries : Report → Bool → List Entry
controller_entries r true = characteristics r
controller_entries r false = []

-- the fields after the status of an end message about the unit of this number
abbrev pub guest_entries : Report → ℕ → ℕ → EndBody → List Entry
guest_entries r number status body.Invalid = []
guest_entries r number status (body.Status flags) = status_entries r.unit number
guest_entries r number status body.Controller = controller_entries r (status == SUCCESS)
guest_entries r number status body.Available = []
guest_entries r number status (body.Online flags size) = online_entries r.unit number
guest_entries r number status (body.Moved which moved) = byte_count_field holds moved ∷ []

-- the end message of an aborted command reports nothing
abbrev pub basic_entries : Bool → Report → ℕ → ℕ → EndBody → List Entry
basic_entries true r number status b = []
basic_entries false r number status b = guest_entries r number status b

-- the same for any message: Set Unit Characteristics reports what Online does, and any other that only the
-- compatible profile knows has the fields of its own body
abbrev pub guest_reply_entries : Report → ℕ → ℕ → ReplyBody → List Entry
guest_reply_entries r number status (Basic b) = basic_entries (status == ABORTED) r number status b
guest_reply_entries r number status (SetUnit flags size) =
    basic_entries (status == ABORTED) r number status (body.Online flags size)
guest_reply_entries r number status b = reply_entries number status b

-- the text of an end message for a guest
unfoldable pub written_guest_end : Report → Reply → List ℕ
written_guest_end r e =
    let number = unit_number r.identity e.unit in
    text_of (
    reference_field holds e.reference ∷ unit_field holds number ∷ code_field holds (reply_code e.body)
    ∷ status_field holds e.status ∷ guest_reply_entries r number e.status e.body)

-- ---- attention messages

-- the code of the message that a unit has become available
abbrev pub unit_available : ℕ
unit_available = 0x40

-- the text of that message: reference 0, status 0, and the identity of the unit
unfoldable pub written_unit_available : UnitReport → ℕ → List ℕ
written_unit_available u number =
    text_of (unit_field holds number ∷ code_field holds unit_available ∷ identity_entries u number)
