-- State that only a compatible port has: the drive types, the controller flags, and the units for which an
-- attention message is due.
-- MSCP Basic Disk Functions Manual: controller flags, unit identifiers, attention messages.
use Rattle.std.specs.Prelude.{ℕ, ◌/◌, ◌%◌, ◌==◌, ◌&&◌, ◌||◌, Bool, true, false, List}
use Rattle.std.specs.Prelude.{replicate, set, slice_get, unwrap_or, Option, Some, None, if◌then◌else◌}
use Rattle.uda_disk.specs.Status.{SUCCESS, ALREADY_ONLINE}
use Rattle.uda_packet.specs.declared.drive_type.DriveType.{DriveType}
use Rattle.uda_packet.specs.declared.drive_type.DriveType.TheVariants.{Ra81}
use Rattle.uda_packet.specs.declared.reply.Reply.{Reply}
use Rattle.uda_packet.specs.declared.reply.ReplyBody.{ReplyBody}
use Rattle.uda_packet.specs.declared.reply.ReplyBody.TheVariants.{Basic}
use Rattle.uda_packet.specs.declared.end.EndBody.TheVariants as body
use Rattle.uda_packet.specs.declared.guest_end.Bus.TheVariants.{Unibus}
use Rattle.uda_packet.specs.declared.guest_end.Identity.{Identity}
use Rattle.uda_packet.specs.declared.guest_end.UnitReport.{UnitReport}
use Rattle.uda_exec.specs.declared.drive_unit.UnitInfo.{UnitInfo}
use Rattle.uda_port.specs.declared.guest.Guest.{Guest}

-- the default identity: on a UNIBUS, with units from 0 on
abbrev pub usual_identity : Identity
usual_identity = record { bus = Unibus; first_unit = 0 }

-- the state of a new port: every unit is an RA81
abbrev pub GUEST_AT_FIRST : Guest
GUEST_AT_FIRST = record { types = replicate 4 Ra81; flags = 0; attentions = replicate 4 false }

-- a write to IP clears the controller flags and the due attention messages; the drive types stay
abbrev pub guest_restarted : Guest → Guest
guest_restarted g = record g { flags = 0; attentions = replicate 4 false }

-- bit 7 of the controller flags asks for a message when a unit becomes available
abbrev pub asks_attention : ℕ → Bool
asks_attention flags = flags / 0x80 % 2 == 1

-- sets whether an attention message is due for this drive
abbrev pub attention_set : Guest → ℕ → Bool → Guest
attention_set g drive due = record g { attentions = set g.attentions drive due }

-- the first drive for which an attention message is due
abbrev pub is_due : List Bool → ℕ → Bool
is_due attentions drive = unwrap_or (slice_get attentions drive) false

abbrev pub first_due : List Bool → Option ℕ
first_due attentions =
    if is_due attentions 0 then Some 0 else if is_due attentions 1 then Some 1
    else if is_due attentions 2 then Some 2 else if is_due attentions 3 then Some 3 else None

abbrev ends_online : ReplyBody → Bool
ends_online (Basic (body.Online flags size)) = true
ends_online _ = false

-- whether an Online brought its unit online, or found it online
abbrev pub is_online_now : Reply → Bool
is_online_now e = ends_online e.body && (e.status == SUCCESS || e.status == ALREADY_ONLINE)

-- after such an end message no attention message is due for its drive
abbrev pub guest_after : Reply → Guest → Guest
guest_after e g = if is_online_now e then attention_set g e.unit false else g

-- the report of a unit of this type
abbrev pub unit_reported : DriveType → UnitInfo → UnitReport
unit_reported kind look = record { kind = kind; hard = look.mode.hard; soft = look.mode.soft; size = look.size }
