use Rattle.uda_exec.proofs.BlockChangesLaw.{only_used_blocks_change}
use Rattle.uda_exec.proofs.laws.only_used_blocks_change.Goals as goal

pub returns : goal.returns
returns c = record { law = only_used_blocks_change }
