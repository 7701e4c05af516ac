use Rattle.std.proofs.Common.{◌≤◌, ◌∙◌, arith}
use Rattle.uda50_copy.proofs.Pieces.{changes_no_block_none}
use Rattle.uda50_copy.proofs.Gathered.{changes_only_none, changes_only_both, changes_only_wider}
use Rattle.uda50_copy.proofs.Ranges.{copies_nothing, step_then, step_last, copies_wider, finished_only_of, none_untried_of}
use Rattle.uda50_copy.proofs.range.copy_unfinished.Goals as goal

pub returns-then-last-blocks-clause-copies : goal.returns-then-last-blocks-clause-copies
returns-then-last-blocks-clause-copies g c = λ clean now.
    (copies_nothing _ _ _ c.args.notes.now _ c.if-last-blocks.true).0

pub returns-then-last-blocks-clause-copies_all : goal.returns-then-last-blocks-clause-copies_all
returns-then-last-blocks-clause-copies_all g c = λ clean.
    copies_nothing _ _ _ c.args.notes.now _ c.if-last-blocks.true

pub loop-next-init : goal.loop-next-init
loop-next-init g c = record {
  begun = omega arith;
  within = omega (arith, c.if-last-blocks.false);
  noted = λ clean. clean;
  changes = changes_only_none _ _ _ _ (changes_no_block_none _);
  copies = λ clean. copies_nothing _ _ _ c.args.notes.now _ (omega arith);
  loses = λ sound. omega arith;
}

pub loop-next-preserved : goal.loop-next-preserved
loop-next-preserved g c =
    let loop = c.loop-next in let kept = loop.invariant in
    let start = c.args.blocks.start in
    let from = c.in-Some.next.start in let end = c.in_ok-at.at in
    let next = c.in-Some.ensures in let step = c.in_ok-at.ensures in
    let past : from ≤ end = omega (arith, step.proceeds) in
    record {
      begun = omega (arith, kept.begun, next.later.0, past);
      within = omega (arith, step.within, next.within);
      noted = λ clean. step.noted (kept.noted clean);
      changes = changes_only_both start from end _ _ _ (omega (arith, kept.begun, next.later.0)) past
          (changes_only_wider start loop.at from _ _ next.later.0 kept.changes) step.changes_before;
      copies = λ clean.
          let two = step.copies_all (kept.noted clean) next.unfinished in
          let made = step_then start loop.at from end _ _ _ c.args.notes.now loop.notes c.copy_next.new.notes _ _
          kept.begun next.later.0 past kept.changes step.changes_before (kept.copies clean) next.finished two.0
          step.zeros_stay in
          (made.0, made.1 ∙ two.1 ∙ omega (arith, kept.begun, next.later.0, past));
      loses = λ sound. omega (
        arith,
        kept.loses (λ u. step.changes_before.stays_sound.sound_before u (sound u)),
        step.loses_failed sound,
      );
    }

pub returns-in_err-at-clause-changes_only : goal.returns-in_err-at-clause-changes_only
returns-in_err-at-clause-changes_only g c =
    let loop = c.loop-next in let kept = loop.invariant in let next = c.in-Some.ensures in
    let start = c.args.blocks.start in
    let from = c.in-Some.next.start in let end = c.in-Some.next.end in
    changes_only_wider start end c.args.blocks.end _ _ next.within
    (changes_only_both start from end _ _ _ (omega (arith, kept.begun, next.later.0)) (omega (arith, next.later.1))
    (changes_only_wider start loop.at from _ _ next.later.0 kept.changes) c.copy_next.ensures.changes_only)

pub returns-in_err-at-clause-copies : goal.returns-in_err-at-clause-copies
returns-in_err-at-clause-copies g c = λ clean now.
    let loop = c.loop-next in let kept = loop.invariant in let next = c.in-Some.ensures in
    let start = c.args.blocks.start in
    let from = c.in-Some.next.start in let end = c.in-Some.next.end in
    let step = c.copy_next.ensures in
    copies_wider start end c.args.blocks.end _ _ (omega (arith, kept.begun, next.later.0, next.later.1)) next.within
    (step_then start loop.at from end _ _ _ c.args.notes.now loop.notes c.copy_next.new.notes _ _ kept.begun
    next.later.0 (omega (arith, next.later.1)) kept.changes step.changes_only (kept.copies clean) next.finished
    (step.copies (kept.noted clean) now next.unfinished) step.zeros_stay).0

pub returns-clause-changes_only : goal.returns-clause-changes_only
returns-clause-changes_only g c =
    changes_only_wider _ c.loop-next.at _ _ _ c.loop-next.invariant.within c.loop-next.invariant.changes

pub returns-clause-copies : goal.returns-clause-copies
returns-clause-copies g c = λ clean now.
    let loop = c.loop-next in let kept = loop.invariant in
    (step_last _ loop.at _ _ _ c.args.notes.now loop.notes _ kept.begun kept.within kept.changes (kept.copies clean)
    c.in_default.ensures.all_finished).0

pub returns-clause-copies_all : goal.returns-clause-copies_all
returns-clause-copies_all g c = λ clean.
    let loop = c.loop-next in let kept = loop.invariant in
    step_last _ loop.at _ _ _ c.args.notes.now loop.notes _ kept.begun kept.within kept.changes (kept.copies clean)
    c.in_default.ensures.all_finished

pub returns-then-last-blocks-clause-finished_only : goal.returns-then-last-blocks-clause-finished_only
returns-then-last-blocks-clause-finished_only g c = λ clean now.
    finished_only_of _ _ _ _ (returns-then-last-blocks-clause-copies g c clean now)

pub returns-in_err-at-clause-finished_only : goal.returns-in_err-at-clause-finished_only
returns-in_err-at-clause-finished_only g c = λ clean now.
    finished_only_of _ _ _ _ (returns-in_err-at-clause-copies g c clean now)

pub returns-clause-finished_only : goal.returns-clause-finished_only
returns-clause-finished_only g c = λ clean now.
    finished_only_of _ _ _ _ (returns-clause-copies g c clean now)

pub returns-clause-none_untried : goal.returns-clause-none_untried
returns-clause-none_untried g c = λ clean. none_untried_of _ _ _ _ (returns-clause-copies_all g c clean)

pub returns-then-last-blocks-clause-loses_failed : goal.returns-then-last-blocks-clause-loses_failed
returns-then-last-blocks-clause-loses_failed g c = λ sound. omega arith

pub returns-in_err-at-clause-loses_failed : goal.returns-in_err-at-clause-loses_failed
returns-in_err-at-clause-loses_failed g c =
    λ sound. omega (
      arith,
      c.loop-next.invariant.loses (λ u. c.copy_next.ensures.changes_only.stays_sound.sound_before u (sound u)),
      c.copy_next.ensures.loses_failed sound,
    )

pub returns-clause-loses_failed : goal.returns-clause-loses_failed
returns-clause-loses_failed g c = c.loop-next.invariant.loses
