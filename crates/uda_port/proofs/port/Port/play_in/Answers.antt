use Rattle.uda_port.proofs.DeathLaws.{death_has_cause}
use Rattle.uda_port.proofs.port.Port.play_in.Goals as goal

pub returns-clause-fatal_cause : goal.returns-clause-fatal_cause
returns-clause-fatal_cause g c = death_has_cause _ _ _ _ _ c.play_all.ensures
