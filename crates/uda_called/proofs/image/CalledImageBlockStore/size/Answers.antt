use Rattle.std.proofs.Common.{arith}
use Rattle.uda_image.specs.StoreLaws.{block_count-le}
use Rattle.uda_called.specs.CalledImage.{image_by}
use Rattle.uda_called.proofs.image.CalledImageBlockStore.size.Goals as goal

pub returns-clause-within_limit : goal.returns-clause-within_limit
returns-clause-within_limit c =
    let inside = c.self.inside in
    let image = image_by inside.size inside.ready inside.lent inside.trace in
    omega (arith, c.self.invariant.size_is, block_count-le image.bytes)
