use Rattle.uda_port.proofs.Saving.{restored_is_saved}
use Rattle.uda_port.proofs.saved.restored_is_saved.Goals as goal

pub returns : goal.returns
returns c = record { law = restored_is_saved }
