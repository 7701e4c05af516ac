use Rattle.std.proofs.Common.{sym, ◌∙◌}
use Rattle.uda_port.proofs.BlockUseLaws.{blocks_agree}
use Rattle.uda_port.proofs.port.Port.blocks_at.Goals as goal

pub returns-clause-by_descriptors : goal.returns-clause-by_descriptors
returns-clause-by_descriptors g c = λ other agrees.
    blocks_agree c.args.bus.now.missing c.args.self.now c.args.memory.now other c.args.bus.now.place agrees
    ∙ sym c.blocks_by.ensures.blocks
