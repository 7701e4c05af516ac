use Rattle.std.proofs.Common.{rules}
use Rattle.uda_packet.proofs.GuestTexts.{writes_unit_available}
use Rattle.uda_packet.proofs.guest_end.encode_unit_available.Goals as goal

pub returns-clause-written : goal.returns-clause-written
returns-clause-written c = search (rules, writes_unit_available)
