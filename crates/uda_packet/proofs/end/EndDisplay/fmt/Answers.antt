use Rattle.std.proofs.Common.{append_assoc}
use Rattle.std.proofs.Output.{has_written_of_eq}
use Rattle.uda_packet.proofs.end.EndDisplay.fmt.Goals as goal

pub returns-clause-writes : goal.returns-clause-writes
returns-clause-writes g c plain ok =
    let written =
    rw (c.in_radix.ensures, c.laid_out.ensures, c.name-name.ensures.name) at c.write.ensures.writes in
    has_written_of_eq _ _ _ _ _ (simp append_assoc) (written plain ok)
