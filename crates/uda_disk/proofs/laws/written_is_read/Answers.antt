use Rattle.uda_disk.proofs.Successes as Successes
use Rattle.uda_disk.proofs.laws.written_is_read.Goals as goal

pub returns : goal.returns
returns c = record { law = Successes.written_is_read }
