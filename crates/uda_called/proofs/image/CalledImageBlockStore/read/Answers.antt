use Rattle.uda_image.specs.Image.{block_of}
use Rattle.uda_mem.specs.Put.{part}
use Rattle.uda_called.proofs.CalledLaws.{reads_one}
use Rattle.uda_called.proofs.image.CalledImageBlockStore.read.Goals as goal

pub returns-clause-to : goal.returns-clause-to
unfolding part block_of
returns-clause-to c = c.copy_lent.ensures.value

pub returns-clause-reads : goal.returns-clause-reads
unfolding part block_of
returns-clause-reads c =
    rw (c.use_up.ensures.used, c.copy_lent.ensures.same) (reads_one c.args.self.now c.args.n c.requires c.copy_lent.new.to
    c.copy_lent.ensures.value)
