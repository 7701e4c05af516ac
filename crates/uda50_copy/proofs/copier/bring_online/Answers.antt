use Rattle.std.proofs.Common.{[], ◌∷◌, false, refl}
use Rattle.std.proofs.lemmas.List.Elements.{All-nil, All-cons}
use Rattle.uda_disk.specs.Request.{Request, Online}
use Rattle.uda_disk.specs.Values.{answer_values}
use Rattle.uda50_copy.specs.Copy.{WritesNothing}
use Rattle.uda50_copy.proofs.Pieces.{changes_no_block_by}
use Rattle.uda50_copy.proofs.copier.bring_online.Goals as goal

pub loop-answer-init : goal.loop-answer-init
loop-answer-init g c =
    let ran = c.in_ok-answer-items.ensures in
    let online : Request = record { unit = c.unit.result; act = Online false } in
    changes_no_block_by _ _ (online ∷ []) (answer_values c.in_ok-answer-items.answer-items.items)
    (All-cons WritesNothing online [] refl (All-nil WritesNothing)) ran.sound_before ran.well_formed_if_sound
    (λ sound. (ran.in_order_run_with_failures_if_sound sound).run)
