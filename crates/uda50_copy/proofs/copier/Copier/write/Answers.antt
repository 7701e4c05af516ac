use Rattle.uda_disk.specs.Values.{request_values, answer_values}
use Rattle.uda50_copy.proofs.Pieces.{writes_by}
use Rattle.uda50_copy.proofs.Gathered.{changes_written_by, changes_written_none, holds_written_by}
use Rattle.uda50_copy.proofs.Losses.{keeps_none, keeps_by}
use Rattle.uda50_copy.proofs.copier.Copier.write.Goals as goal

pub returns-clause-writes : goal.returns-clause-writes
returns-clause-writes g c =
    let ran = c.in_ok-answers.ensures in
    let requests = request_values c.args.writes.items in let answers = answer_values c.in_ok-answers.answers.items in
    rw (← c.self.view_is) (writes_by _ _ requests answers
    (rw (c.deref-2.ensures.value, c.deref-3.ensures.value) at c.in_ok-all_written.ensures.written)
    ran.sound_before ran.well_formed_if_sound
    (λ sound. rw c.deref.ensures.value at (ran.in_order_run_with_failures_if_sound sound).run))

pub returns-in_err-answers-clause-changes_written : goal.returns-in_err-answers-clause-changes_written
returns-in_err-answers-clause-changes_written g c =
    rw (← c.self.view_is, c.in_err-answers.ensures.unchanged) (changes_written_none _ _)

pub returns-in_err-all_written-clause-changes_written : goal.returns-in_err-all_written-clause-changes_written
returns-in_err-all_written-clause-changes_written g c =
    let ran = c.in_ok-answers.ensures in
    rw (← c.self.view_is) (changes_written_by _ _ (request_values c.args.writes.items)
    (answer_values c.in_ok-answers.answers.items) ran.sound_before ran.well_formed_if_sound
    (λ sound. rw c.deref.ensures.value at (ran.in_order_run_with_failures_if_sound sound).run))

pub returns-in_err-self-inside-clause-changes_written : goal.returns-in_err-self-inside-clause-changes_written
returns-in_err-self-inside-clause-changes_written g c =
    let ran = c.in_ok-answers.ensures in
    rw (← c.self.view_is) (changes_written_by _ _ (request_values c.args.writes.items)
    (answer_values c.in_ok-answers.answers.items) ran.sound_before ran.well_formed_if_sound
    (λ sound. rw c.deref.ensures.value at (ran.in_order_run_with_failures_if_sound sound).run))

pub returns-clause-changes_written : goal.returns-clause-changes_written
returns-clause-changes_written g c =
    let ran = c.in_ok-answers.ensures in
    rw (← c.self.view_is) (changes_written_by _ _ (request_values c.args.writes.items)
    (answer_values c.in_ok-answers.answers.items) ran.sound_before ran.well_formed_if_sound
    (λ sound. rw c.deref.ensures.value at (ran.in_order_run_with_failures_if_sound sound).run))

pub returns-clause-holds_written : goal.returns-clause-holds_written
returns-clause-holds_written g c =
    let ran = c.in_ok-answers.ensures in
    rw (← c.self.view_is) (holds_written_by _ _ (request_values c.args.writes.items)
    (answer_values c.in_ok-answers.answers.items)
    (rw (c.deref-2.ensures.value, c.deref-3.ensures.value) at c.in_ok-all_written.ensures.written) ran.sound_before
    (λ sound. rw c.deref.ensures.value at (ran.in_order_run_with_failures_if_sound sound).run))

pub returns-in_err-answers-clause-keeps_failures : goal.returns-in_err-answers-clause-keeps_failures
returns-in_err-answers-clause-keeps_failures g c =
    rw (← c.self.view_is, c.in_err-answers.ensures.unchanged) (keeps_none _)

pub returns-in_err-all_written-clause-keeps_failures : goal.returns-in_err-all_written-clause-keeps_failures
returns-in_err-all_written-clause-keeps_failures g c =
    let ran = c.in_ok-answers.ensures in
    rw (← c.self.view_is) (keeps_by _ _ _ (answer_values c.in_ok-answers.answers.items)
    (λ sound. (ran.in_order_run_with_failures_if_sound sound).told))

pub returns-in_err-self-inside-clause-keeps_failures : goal.returns-in_err-self-inside-clause-keeps_failures
returns-in_err-self-inside-clause-keeps_failures g c =
    let ran = c.in_ok-answers.ensures in
    rw (← c.self.view_is) (keeps_by _ _ _ (answer_values c.in_ok-answers.answers.items)
    (λ sound. (ran.in_order_run_with_failures_if_sound sound).told))

pub returns-clause-keeps_failures : goal.returns-clause-keeps_failures
returns-clause-keeps_failures g c =
    let ran = c.in_ok-answers.ensures in
    rw (← c.self.view_is) (keeps_by _ _ _ (answer_values c.in_ok-answers.answers.items)
    (λ sound. (ran.in_order_run_with_failures_if_sound sound).told))
