-- The texts of the messages that a port delivers.
-- MSCP Basic Disk Functions Manual: end messages.
use Rattle.std.specs.Prelude.{ℕ, List, take, Option, Some, None, option_map, slice_get, unwrap_or}
use Rattle.uda_packet.specs.declared.reply.Reply.{Reply}
use Rattle.uda_packet.specs.declared.guest_end.Identity.{Identity}
use Rattle.uda_packet.specs.declared.guest_end.Report.{Report}
use Rattle.uda_packet.specs.declared.guest_end.UnitReport.{UnitReport}
use Rattle.uda_packet.specs.GuestEnd.{written_guest_end, written_unit_available, unit_number}
use Rattle.uda_packet.specs.Reply.{reply_length, strict_end}
use Rattle.uda_packet.specs.Written.{written_end}
use Rattle.uda_disk.specs.Units.{Units}
use Rattle.uda_exec.specs.Drives.{info_at, ABSENT}
use Rattle.uda_port.specs.declared.profile.Profile.{Profile}
use Rattle.uda_port.specs.declared.profile.Profile.TheVariants.{Strict, Compatible}
use Rattle.uda_port.specs.declared.guest.Guest.{Guest}
use Rattle.uda_port.specs.Guest.{unit_reported, first_due}
use Rattle.uda_port.specs.Port.{PortState}

-- what a port reports about a drive, if it is one of its four
abbrev pub unit_report : Guest → Units → ℕ → Option UnitReport
unit_report guest units drive =
    let look = unwrap_or (info_at (slice_get units drive)) ABSENT in
    option_map (λ kind. unit_reported kind look) (slice_get guest.types drive)

-- what an end message about that drive reports in addition to the outcome of the command
abbrev pub report_of : Identity → Guest → Units → ℕ → Report
report_of identity guest units drive = record {
  identity = identity;
  controller_flags = guest.flags;
  unit = unit_report guest units drive;
}

-- The text of an end message as it is delivered. In the strict profile it has 48 bytes. In the compatible
-- profile it has as many as its kind, and reports the controller and the unit at the time of the delivery.
abbrev pub text_by : Profile → Guest → Units → Reply → List ℕ
text_by Strict guest units e = written_end (strict_end e)
text_by (Compatible identity) guest units e =
    take (reply_length e.body) (written_guest_end (report_of identity guest units e.unit) e)

-- the attention message that a unit became available, of 32 bytes
abbrev pub available_text : Identity → ℕ → UnitReport → List ℕ
available_text identity drive u = take 32 (written_unit_available u (unit_number identity drive))

abbrev pub attention_of : Identity → Guest → Units → Option ℕ → Option (List ℕ)
attention_of identity guest units None = None
attention_of identity guest units (Some drive) =
    option_map (available_text identity drive) (unit_report guest units drive)

-- the next attention message that is due, if any; the strict profile has none
abbrev pub attention_by : Profile → Guest → Units → Option (List ℕ)
attention_by Strict guest units = None
attention_by (Compatible identity) guest units =
    attention_of identity guest units (first_due guest.attentions)

abbrev pub end_text : PortState → Reply → List ℕ
end_text port e = text_by port.profile port.guest port.exec.units e

abbrev pub attention_text : PortState → Option (List ℕ)
attention_text port = attention_by port.profile port.guest port.exec.units

-- the next text to deliver: that of an attention message that is due, or else of the first queued end message
abbrev pub next_by : Option (List ℕ) → Option (List ℕ) → Option (List ℕ)
next_by (Some attention) end = Some attention
next_by None end = end

abbrev pub next_text : PortState → Option (List ℕ)
next_text port = next_by (attention_text port) (option_map (end_text port) (slice_get port.waiting 0))
