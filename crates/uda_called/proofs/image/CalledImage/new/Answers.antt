use Rattle.std.proofs.Common.{rules}
use Rattle.uda_called.proofs.CalledLaws.{kept_new, new_image}
use Rattle.uda_called.proofs.image.CalledImage.new.Goals as goal

pub invariant_of-result : goal.invariant_of-result
invariant_of-result c = rw (c.new.ensures, c.of.ensures) (kept_new c.args.blocks 0 (search rules))

pub returns-clause-image : goal.returns-clause-image
returns-clause-image c = rw (c.new.ensures, c.of.ensures) (new_image c.args.blocks)
