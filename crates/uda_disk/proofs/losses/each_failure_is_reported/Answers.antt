use Rattle.uda_disk.proofs.Errors.{losses_told}
use Rattle.uda_disk.proofs.losses.each_failure_is_reported.Goals as goal

pub returns : goal.returns
returns c = record { law = losses_told }
