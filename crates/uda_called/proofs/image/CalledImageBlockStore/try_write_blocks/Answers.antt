use Rattle.uda_called.proofs.CalledLaws.{written_keeps, writes_many}
use Rattle.uda_called.proofs.image.CalledImageBlockStore.try_write_blocks.Goals as goal

pub returns-clause-attributes : goal.returns-clause-attributes
returns-clause-attributes c = rw (c.note_written.ensures.written) (written_keeps c.args.self.now c.args.n c.args.count c.args.from.now)

pub returns-clause-writes : goal.returns-clause-writes
returns-clause-writes c =
    rw (c.note_written.ensures.written)
    (writes_many c.args.self.now c.args.n c.args.count c.requires.on_unit c.args.from.now c.requires.long)
