use Rattle.uda_called.specs.CalledImage.{bytes_in, image_by}
use Rattle.uda_called.proofs.CalledLaws.{kept_begun}
use Rattle.uda_called.proofs.image.CalledImage.start.Goals as goal

pub invariant_of-self : goal.invariant_of-self
invariant_of-self c =
    let inside = c.self.inside in
    let first = rw (← c.self.view_is, ← c.self.invariant.size_is) at c.requires.on_unit in
    kept_begun inside.size (bytes_in inside.lent) (image_by inside.size inside.ready inside.lent inside.trace) c.args.first
    c.self.invariant first
