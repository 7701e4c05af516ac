use Rattle.std.proofs.Common.{ℕ, ◌≤◌, ◌<◌, ◌∙◌, arith}
use Rattle.uda50_copy.specs.Copy.{units_in}
use Rattle.uda50_copy.proofs.Ranges.{skip_part, skip_in_part, skipped_then, changes_only_of, copies_wider, unfinished_rest, copies_all_to}
use Rattle.uda50_copy.proofs.Losses.{skip_loses}
use Rattle.uda50_copy.proofs.range.copy_next.Goals as goal

pub returns-in_err-skip-clause-copies : goal.returns-in_err-skip-clause-copies
returns-in_err-skip-clause-copies g c = λ clean now unfinished.
    let from = c.args.blocks.start in let to = c.args.blocks.end in
    let start = c.next-start.result.start in let end = c.next-start.result.end in
    let found = c.next-start.ensures in
    let before = λ (n : ℕ) (low : from ≤ n) (high : n < start).
    unfinished n low (omega (arith, high, found.ordered, found.within)) in
    skip_in_part from start to _ c.args.notes.now c.skip.new.self _ found.later
    (omega (arith, found.ordered, found.within)) before c.skip.ensures.none c.skip.ensures.in_part found.zeros

pub returns-then-end-start-clause-copies : goal.returns-then-end-start-clause-copies
returns-then-end-start-clause-copies g c = λ clean now unfinished.
    let from = c.args.blocks.start in let to = c.args.blocks.end in
    let start = c.next-start.result.start in let end = c.next-start.result.end in
    let found = c.next-start.ensures in
    let before = λ (n : ℕ) (low : from ≤ n) (high : n < start).
    unfinished n low (omega (arith, high, found.ordered, found.within)) in
    copies_wider from start to _ _ found.later (omega (arith, found.ordered, found.within))
    (skip_part from start _ c.args.notes.now c.skip.new.self _ found.later before c.skip.ensures.none
    c.in_ok-skip.ensures.skipped c.in_ok-skip.ensures.reports found.zeros).0

pub returns-then-end-start-clause-copies_all : goal.returns-then-end-start-clause-copies_all
returns-then-end-start-clause-copies_all g c = λ clean unfinished.
    let from = c.args.blocks.start in let to = c.args.blocks.end in
    let start = c.next-start.result.start in let end = c.next-start.result.end in
    let found = c.next-start.ensures in
    let before = λ (n : ℕ) (low : from ≤ n) (high : n < start).
    unfinished n low (omega (arith, high, found.ordered, found.within)) in
    copies_all_to from start end _ _ (omega (arith, found.ordered, c.if-end-start.true))
    (skip_part from start _ c.args.notes.now c.skip.new.self _ found.later before c.skip.ensures.none
    c.in_ok-skip.ensures.skipped c.in_ok-skip.ensures.reports found.zeros)

pub returns-in_err-copy_given-clause-changes_only : goal.returns-in_err-copy_given-clause-changes_only
returns-in_err-copy_given-clause-changes_only g c =
    changes_only_of _ c.next-start.result.start c.next-start.result.end _ _ _ c.next-start.ensures.later
    c.next-start.ensures.within c.copy_given.ensures.changes_only

pub returns-clause-changes_only : goal.returns-clause-changes_only
returns-clause-changes_only g c =
    changes_only_of _ c.next-start.result.start c.next-start.result.end _ _ _ c.next-start.ensures.later
    c.next-start.ensures.within c.copy_given.ensures.changes_only

pub returns-clause-changes_before : goal.returns-clause-changes_before
returns-clause-changes_before g c =
    changes_only_of _ c.next-start.result.start c.next-start.result.end _ _ _ c.next-start.ensures.later (omega arith)
    c.copy_given.ensures.changes_only

pub returns-in_err-copy_given-clause-copies : goal.returns-in_err-copy_given-clause-copies
returns-in_err-copy_given-clause-copies g c = λ clean now unfinished.
    let from = c.args.blocks.start in let to = c.args.blocks.end in
    let start = c.next-start.result.start in let end = c.next-start.result.end in
    let found = c.next-start.ensures in
    let before = λ (n : ℕ) (low : from ≤ n) (high : n < start).
    unfinished n low (omega (arith, high, found.ordered, found.within)) in
    let mid_clean = c.skip.ensures.broken ∙ clean in
    let rest = unfinished_rest from start end c.args.notes.now.map c.skip.new.self.map found.later
    (λ n low high. unfinished n low (omega (arith, high, found.within))) c.in_ok-skip.ensures.skipped in
    copies_wider from end to _ _ (omega (arith, found.later, found.ordered)) found.within
    (skipped_then from start end _ _ c.args.notes.now c.skip.new.self c.copy_given.new.notes _ found.later found.ordered
    c.copy_given.ensures.changes_only
    (skip_part from start _ c.args.notes.now c.skip.new.self _ found.later before c.skip.ensures.none
    c.in_ok-skip.ensures.skipped c.in_ok-skip.ensures.reports found.zeros)
    (c.copy_given.ensures.copies mid_clean now rest)).0

pub returns-clause-copies : goal.returns-clause-copies
returns-clause-copies g c = λ clean now unfinished.
    let from = c.args.blocks.start in let to = c.args.blocks.end in
    let start = c.next-start.result.start in let end = c.next-start.result.end in
    let found = c.next-start.ensures in
    let before = λ (n : ℕ) (low : from ≤ n) (high : n < start).
    unfinished n low (omega (arith, high, found.ordered, found.within)) in
    let mid_clean = c.skip.ensures.broken ∙ clean in
    let rest = unfinished_rest from start end c.args.notes.now.map c.skip.new.self.map found.later
    (λ n low high. unfinished n low (omega (arith, high, found.within))) c.in_ok-skip.ensures.skipped in
    copies_wider from end to _ _ (omega (arith, found.later, found.ordered)) found.within
    (skipped_then from start end _ _ c.args.notes.now c.skip.new.self c.copy_given.new.notes _ found.later found.ordered
    c.copy_given.ensures.changes_only
    (skip_part from start _ c.args.notes.now c.skip.new.self _ found.later before c.skip.ensures.none
    c.in_ok-skip.ensures.skipped c.in_ok-skip.ensures.reports found.zeros)
    (c.copy_given.ensures.copies mid_clean now rest)).0

pub returns-clause-copies_all : goal.returns-clause-copies_all
returns-clause-copies_all g c = λ clean unfinished.
    let from = c.args.blocks.start in let to = c.args.blocks.end in
    let start = c.next-start.result.start in let end = c.next-start.result.end in
    let found = c.next-start.ensures in
    let before = λ (n : ℕ) (low : from ≤ n) (high : n < start).
    unfinished n low (omega (arith, high, found.ordered, found.within)) in
    let mid_clean = c.skip.ensures.broken ∙ clean in
    let rest = unfinished_rest from start end c.args.notes.now.map c.skip.new.self.map found.later
    (λ n low high. unfinished n low (omega (arith, high, found.within))) c.in_ok-skip.ensures.skipped in
    let two = c.in_ok-copy_given.ensures.copies_all mid_clean rest in
    let made = skipped_then from start end _ _ c.args.notes.now c.skip.new.self c.copy_given.new.notes _ found.later
    found.ordered c.copy_given.ensures.changes_only
    (skip_part from start _ c.args.notes.now c.skip.new.self _ found.later before c.skip.ensures.none
    c.in_ok-skip.ensures.skipped c.in_ok-skip.ensures.reports found.zeros)
    two.0 in
    (made.0, made.1 ∙ two.1 ∙ omega (arith, found.later, found.ordered))

pub returns-in_err-skip-clause-loses_failed : goal.returns-in_err-skip-clause-loses_failed
returns-in_err-skip-clause-loses_failed g c = skip_loses (units_in c.args.copier.now) c.args.notes.now c.skip.new.self _ _ c.skip.ensures.in_part

pub returns-then-end-start-clause-loses_failed : goal.returns-then-end-start-clause-loses_failed
returns-then-end-start-clause-loses_failed g c = skip_loses (units_in c.args.copier.now) c.args.notes.now c.skip.new.self _ _ c.skip.ensures.in_part

pub returns-in_err-copy_given-clause-loses_failed : goal.returns-in_err-copy_given-clause-loses_failed
returns-in_err-copy_given-clause-loses_failed g c =
    λ sound. omega (
      arith,
      skip_loses (units_in c.args.copier.now) c.args.notes.now c.skip.new.self _ _ c.skip.ensures.in_part
          (λ u. c.copy_given.ensures.changes_only.stays_sound.sound_before u (sound u)),
      c.copy_given.ensures.loses_failed sound,
    )

pub returns-clause-loses_failed : goal.returns-clause-loses_failed
returns-clause-loses_failed g c =
    λ sound. omega (
      arith,
      skip_loses (units_in c.args.copier.now) c.args.notes.now c.skip.new.self _ _ c.skip.ensures.in_part
          (λ u. c.copy_given.ensures.changes_only.stays_sound.sound_before u (sound u)),
      c.copy_given.ensures.loses_failed sound,
    )
