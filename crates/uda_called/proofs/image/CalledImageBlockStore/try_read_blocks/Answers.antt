use Rattle.uda_called.proofs.CalledLaws.{reads_many}
use Rattle.uda_called.proofs.image.CalledImageBlockStore.try_read_blocks.Goals as goal

pub returns-clause-reads : goal.returns-clause-reads
returns-clause-reads c =
    rw (c.use_up.ensures.used, c.copy_lent.ensures.same) (reads_many c.args.self.now c.args.n c.args.count c.requires.on_unit
    c.copy_lent.new.to c.copy_lent.ensures.value)
