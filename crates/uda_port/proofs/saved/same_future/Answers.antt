use Rattle.uda_port.proofs.Saving.{same_future}
use Rattle.uda_port.proofs.saved.same_future.Goals as goal

pub returns : goal.returns
returns c = record { law = same_future }
