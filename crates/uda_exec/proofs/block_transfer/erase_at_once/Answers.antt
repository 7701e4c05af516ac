use Rattle.std.proofs.Common.{◌*◌, refl, arith}
use Rattle.std.proofs.lemmas.List.{take-replicate}
use Rattle.uda_exec.proofs.AtOnce.{erased_none, erased_more}
use Rattle.uda_exec.proofs.Steps.{both_natures}
use Rattle.uda_image.proofs.SoundLaws.{sound_before}
use Rattle.uda_exec.proofs.block_transfer.erase_at_once.Goals as goal

pub loop-done-init : goal.loop-done-init
loop-done-init g c = record {
  attributes = record {
    size_stays = refl;
    faithful_stays = refl;
    honest_before = λ honest. honest;
    never_fails_stays = refl;
    lent_stays = refl;
  };
  within = omega arith;
  erased = λ sound. erased_none _ _;
}

pub loop-done-preserved : goal.loop-done-preserved
loop-done-preserved g c =
    let is = c.try_write_blocks.ensures.attributes in
    record {
      attributes = both_natures c.loop-done.invariant.attributes is;
      within = omega arith;
      erased = λ sound.
          let write = rw c.if-not-try_write_blocks.false at
          (c.try_write_blocks.ensures.writes_if_sound sound) in
          erased_more _ _ _ _ _ _ _ (take-replicate (512 * c.min-piece.result) 16384 0
          (omega (arith, c.min-piece.ensures))) (c.loop-done.invariant.erased (sound_before is sound)) write;
    }
