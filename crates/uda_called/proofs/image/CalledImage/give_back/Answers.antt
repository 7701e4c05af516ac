use Rattle.uda_called.specs.CalledImage.{bytes_in, image_by}
use Rattle.uda_called.proofs.CalledLaws.{kept_none_lent}
use Rattle.uda_called.proofs.image.CalledImage.give_back.Goals as goal

pub invariant_of-self : goal.invariant_of-self
invariant_of-self c =
    let inside = c.self.inside in
    rw (c.take.ensures.after) (kept_none_lent inside.size (bytes_in inside.lent) (image_by inside.size inside.ready inside.lent inside.trace)
    c.self.invariant)
