use Rattle.std.proofs.Common.{append_assoc}
use Rattle.std.proofs.Output.{has_written_of_eq}
use Rattle.uda_packet.proofs.end.EndBodyDisplay.fmt.Goals as goal

pub returns-in-Online-clause-writes : goal.returns-in-Online-clause-writes
returns-in-Online-clause-writes g c plain ok =
    let written =
    rw (
      c.in_radix-in-Online.ensures,
      c.laid_out-in-Online.ensures,
      c.name-name.ensures.name,
      c.in-Online.is,
    )
    at c.write-in-Online.ensures.writes in
    has_written_of_eq _ _ _ _ _ (rw c.in-Online.is (simp append_assoc)) (written plain ok)
