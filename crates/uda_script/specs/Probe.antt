-- The probe: one Get Unit Status. MSCP Basic Disk Functions Manual: Get Unit Status, end messages.
use Rattle.std.specs.Prelude.{ℕ, List}
use Rattle.uda_packet.specs.declared.end.End.{End}
use Rattle.uda_packet.specs.declared.end.EndBody.TheVariants.{Status}
use Rattle.uda_disk.specs.Status.{AVAILABLE}
use Rattle.uda_packet.specs.Written.{written_end}

-- the end message of a Get Unit Status of unit 0 with reference 1: the unit is available, and has no write
-- protection
abbrev pub probe_end : End
probe_end = record { reference = 1; unit = 0; status = AVAILABLE; body = Status 0 }

abbrev pub probe_text : List ℕ
probe_text = written_end probe_end
