use Rattle.uda_c.proofs.HandleCrosses.{handle_send}
use Rattle.uda_c.proofs.handle.methods.handle_crosses_threads.Goals as goal

pub returns : goal.returns
returns c = record { law = handle_send }
