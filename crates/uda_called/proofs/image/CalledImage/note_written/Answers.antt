use Rattle.uda_called.specs.CalledImage.{bytes_in, image_by}
use Rattle.uda_called.proofs.CalledLaws.{kept_written}
use Rattle.uda_called.proofs.image.CalledImage.note_written.Goals as goal

pub invariant_of-self : goal.invariant_of-self
invariant_of-self c =
    let inside = c.self.inside in
    let image = image_by inside.size inside.ready inside.lent inside.trace in
    rw (c.note.ensures)
    (kept_written inside.size (bytes_in inside.lent) image c.args.n c.args.count c.args.from.now c.self.invariant
    (rw (← c.self.view_is) at c.requires.ready))
