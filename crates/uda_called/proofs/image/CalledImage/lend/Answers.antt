use Rattle.std.proofs.Common.{ap, ◌∙◌}
use Rattle.uda_called.specs.CalledImage.{called_state, bytes_in, with_blocks_lent, image_by, CalledBlocks}
use Rattle.uda_called.proofs.CalledLaws.{kept_lent, lent_blocks}
use Rattle.uda_called.proofs.image.CalledImage.lend.Goals as goal

pub invariant_of-self : goal.invariant_of-self
invariant_of-self c =
    let inside = c.self.inside in
    let image = image_by inside.size inside.ready inside.lent inside.trace in
    let can = rw (c.length_of-bytes.ensures.length) at (c.can_lend.ensures.within c.if-not-can_lend.false) in
    let first = rw (← c.self.view_is) at can.1 in
    let room = rw (first, ← c.self.view_is, ← c.self.invariant.size_is) at can.3 in
    rw (
      c.take-self-inside.ensures.value,
      c.note_lent.ensures.same,
      c.note_lent.ensures.noted,
      c.length_of-bytes.ensures.same,
      c.length_of-bytes.ensures.length,
      first,
    )
    (kept_lent inside.size (bytes_in inside.lent) image c.args.from.now c.self.invariant can.2 room)

pub returns-clause-blocks : goal.returns-clause-blocks
returns-clause-blocks c = λ _.
    let inside = c.self.inside in
    let image = image_by inside.size inside.ready inside.lent inside.trace in
    let from = c.args.from.now in
    let can = rw (c.length_of-bytes.ensures.length) at (c.can_lend.ensures.within c.if-not-can_lend.false) in
    let room = rw (← c.self.view_is) at can.3 in
    rw (
      c.take-self-inside.ensures.value,
      c.note_lent.ensures.same,
      c.note_lent.ensures.noted,
      c.length_of-bytes.ensures.same,
      c.length_of-bytes.ensures.length,
    )
    (lent_blocks image c.args.first from can.2 room)
    ∙ ap (λ (i : CalledBlocks). with_blocks_lent c.args.first from (called_state i)) c.self.view_is
