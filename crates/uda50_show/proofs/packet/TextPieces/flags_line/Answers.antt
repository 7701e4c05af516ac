use Rattle.std.proofs.Common.{append_assoc}
use Rattle.uda50_show.proofs.packet.TextPieces.flags_line.Goals as goal

pub returns-clause-text : goal.returns-clause-text
returns-clause-text c =
    rw (
      c.push-4.ensures.text,
      c.push-3.ensures.text,
      c.protection_name.ensures.name,
      c.push-2.ensures.text,
      c.push.ensures.text,
    ) (simp append_assoc)
