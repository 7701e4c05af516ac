use Rattle.std.proofs.Common.{◌≤◌, ◌*◌, ◌-◌, ◌∙◌, ap, arith}
use Rattle.uda_mem.specs.Put.{part}
use Rattle.uda_called.specs.CalledImage.{bytes_in, image_by, CalledBlocks}
use Rattle.uda_called.proofs.CalledLaws.{length_lent, lent_part}
use Rattle.uda_called.proofs.image.CalledImage.copy_lent.Goals as goal

pub copy_from-requires : goal.copy_from-requires
copy_from-requires c =
    let inside = c.self.inside in
    let image = image_by inside.size inside.ready inside.lent inside.trace in
    let long = length_lent inside.size (bytes_in inside.lent) image c.self.invariant in
    let begins = rw (← c.self.view_is) at c.requires.begins in
    let from : inside.ready.first ≤ c.args.n = omega (arith, begins, c.self.invariant.ordered) in
    let to = rw (← c.self.view_is) at c.requires.ends in
    record { within = omega (arith, long, from, to, c.requires.long) }

pub returns-clause-value : goal.returns-clause-value
returns-clause-value c =
    let inside = c.self.inside in
    let image = image_by inside.size inside.ready inside.lent inside.trace in
    let begins = rw (← c.self.view_is) at c.requires.begins in
    let from : inside.ready.first ≤ c.args.n = omega (arith, begins, c.self.invariant.ordered) in
    let to = rw (← c.self.view_is) at c.requires.ends in
    let at = 512 * (c.args.n - inside.ready.first) in
    c.copy_from.ensures.value
    ∙ ap (part (bytes_in inside.lent) at) c.requires.long
    ∙ lent_part inside.size (bytes_in inside.lent) image c.args.n c.args.count c.self.invariant from to
    ∙ ap (λ (i : CalledBlocks). part i.bytes (512 * c.args.n) (512 * c.args.count)) c.self.view_is
