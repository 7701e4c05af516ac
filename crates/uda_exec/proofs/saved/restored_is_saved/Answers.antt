use Rattle.uda_exec.proofs.Saving.{restored_is_saved}
use Rattle.uda_exec.proofs.saved.restored_is_saved.Goals as goal

pub returns : goal.returns
returns c = record { law = restored_is_saved }
