use Rattle.uda_called.specs.CalledImage.{bytes_in, image_by}
use Rattle.uda_called.proofs.CalledLaws.{kept_used}
use Rattle.uda_called.proofs.image.CalledImage.use_up.Goals as goal

pub invariant_of-self : goal.invariant_of-self
invariant_of-self c =
    let inside = c.self.inside in
    let there = rw (← c.self.view_is) at c.requires.ordered in
    kept_used inside.size (bytes_in inside.lent) (image_by inside.size inside.ready inside.lent inside.trace) c.args.n c.self.invariant
    there
