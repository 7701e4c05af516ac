use Rattle.uda_exec.proofs.BlockReadsLaw as BlockReadsLaw
use Rattle.uda_exec.proofs.laws.only_used_blocks_are_read.Goals as goal

pub returns : goal.returns
returns c = record { law = BlockReadsLaw.only_used_blocks_are_read }
