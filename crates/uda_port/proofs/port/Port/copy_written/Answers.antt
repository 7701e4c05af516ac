use Rattle.std.proofs.Common.{◌*◌, arith}
use Rattle.uda_port.specs.BlockUse.{block_bytes_of}
use Rattle.uda_port.proofs.BlockUseLaws.{none_or_same}
use Rattle.uda_port.proofs.port.Port.copy_written.Goals as goal

pub returns-in-None-clause-bytes : goal.returns-in-None-clause-bytes
returns-in-None-clause-bytes g c =
    none_or_same c.asks_none.result c.args.to.now
    (block_bytes_of c.args.bus.now.missing c.args.self.now c.args.memory.now c.args.bus.now.place) (512 * c.args.skip)
    (λ asked. omega (arith, c.asks_none.ensures.0 asked))
