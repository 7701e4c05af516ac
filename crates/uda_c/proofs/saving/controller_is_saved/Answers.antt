use Rattle.uda_c.proofs.SavedUnits.{controller_is_saved}
use Rattle.uda_c.proofs.saving.controller_is_saved.Goals as goal

pub returns : goal.returns
returns c = record { law = controller_is_saved }
