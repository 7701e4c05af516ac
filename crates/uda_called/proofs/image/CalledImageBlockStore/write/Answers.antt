use Rattle.uda_called.proofs.CalledLaws.{fails_to_write, written_keeps, writes_one}
use Rattle.uda_called.proofs.image.CalledImageBlockStore.write.Goals as goal

pub returns-then-not-has-clause-writes : goal.returns-then-not-has-clause-writes
returns-then-not-has-clause-writes c = rw (c.fail.ensures.failed) (fails_to_write c.args.self.now c.args.n c.requires)

pub returns-clause-attributes : goal.returns-clause-attributes
returns-clause-attributes c = rw (c.note_written.ensures.written) (written_keeps c.args.self.now c.args.n 1 c.args.from.now)

pub returns-clause-writes : goal.returns-clause-writes
returns-clause-writes c =
    rw (c.note_written.ensures.written) (writes_one c.args.self.now c.args.n c.requires c.args.from.now c.told-from)
