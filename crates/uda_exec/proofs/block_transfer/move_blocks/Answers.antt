use Rattle.std.proofs.Common.{◌∙◌, arith}
use Rattle.uda_exec.proofs.Changes.{changes_again}
use Rattle.uda_exec.proofs.Steps.{progress_stops, way_next, way_on}
use Rattle.uda_image.proofs.SoundLaws.{sound_before, stays_sound}
use Rattle.uda_exec.proofs.block_transfer.move_blocks.Goals as goal

pub returns-in_default-clause-changes : goal.returns-in_default-clause-changes
returns-in_default-clause-changes g c = changes_again _ _ _ _ _ c.loop-done.invariant.changes
    c.move_block.ensures.changes

pub returns-in_default-clause-moves_if_sound : goal.returns-in_default-clause-moves_if_sound
returns-in_default-clause-moves_if_sound g c called =
    let sound = called (omega arith) in
    let way = c.loop-done.invariant in
    let before = sound_before c.move_block.ensures.attributes sound in
    progress_stops _ _ _ _ _ _ (g.met.S.BlockStore.is_image_if_sound c.args.store.now
    (sound_before way.attributes before))
    c.requires.on_unit
    c.requires.in_memory
    (rw c.block_count.ensures at c.loop-done-test.true) (way.moves (λ some. before)) _ _
    (c.in_default.ensures.moves sound)

pub returns-in_default-clause-moves : goal.returns-in_default-clause-moves
returns-in_default-clause-moves g c called = returns-in_default-clause-moves_if_sound g c (λ some.
    stays_sound c.move_block.ensures.attributes
    (c.loop-done.invariant.attributes.faithful_stays ∙ called some))

pub loop-done-preserved-then-done-eq0 : goal.loop-done-preserved-then-done-eq0
loop-done-preserved-then-done-eq0 g c =
    let inside = rw c.block_count.ensures at c.loop-done-test.true in
    let next = way_next c.loop-done.invariant c.move_block.ensures.attributes
    (g.met.S.BlockStore.is_image_if_sound c.args.store.now) c.requires.on_unit
    c.requires.in_memory inside _ c.move_block.ensures.changes c.in-Ok.ensures.moves in
    way_on next c.move_pieces-done.ensures.attributes _ c.move_pieces-done.ensures.within
    (omega arith) c.move_pieces-done.ensures.moves

pub loop-done-preserved : goal.loop-done-preserved
loop-done-preserved g c =
    way_next c.loop-done.invariant c.move_block.ensures.attributes
    (g.met.S.BlockStore.is_image_if_sound c.args.store.now)
    c.requires.on_unit
    c.requires.in_memory (rw c.block_count.ensures at c.loop-done-test.true) _ c.move_block.ensures.changes
    c.in-Ok.ensures.moves
