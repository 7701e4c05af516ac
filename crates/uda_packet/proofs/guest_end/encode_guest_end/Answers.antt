use Rattle.std.proofs.Common.{rules}
use Rattle.uda_packet.proofs.GuestTexts.{writes_guest_end}
use Rattle.uda_packet.proofs.guest_end.encode_guest_end.Goals as goal

pub returns-clause-written : goal.returns-clause-written
returns-clause-written c = search (rules, writes_guest_end)
