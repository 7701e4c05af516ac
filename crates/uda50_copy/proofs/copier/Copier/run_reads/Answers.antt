use Rattle.std.proofs.Common.{sym, ◌∙◌}
use Rattle.std.proofs.lemmas.List.{length-map}
use Rattle.uda_disk.specs.Values.{request_value, request_values, answer_value, answer_values}
use Rattle.uda50_copy.proofs.Pieces.{changes_no_block_by, changes_no_block_none, return_blocks}
use Rattle.uda50_copy.proofs.Losses.{keeps_none, keeps_by}
use Rattle.uda50_copy.proofs.copier.Copier.run_reads.Goals as goal

pub returns-in_err-run_reusing-clause-changes_no_block : goal.returns-in_err-run_reusing-clause-changes_no_block
returns-in_err-run_reusing-clause-changes_no_block g c =
    rw (← c.self.view_is, c.in_err-run_reusing.ensures.unchanged) (changes_no_block_none _)

pub returns-clause-changes_no_block : goal.returns-clause-changes_no_block
returns-clause-changes_no_block g c =
    let ran = c.in_ok-run_reusing.ensures in
    rw (← c.self.view_is) (changes_no_block_by _ _ (request_values c.args.requests.now)
    (answer_values c.in_ok-run_reusing.field-0.items) c.requires.writes_nothing ran.sound_before ran.well_formed_if_sound
    (λ sound. (ran.in_order_run_with_failures_if_sound sound).run))

pub returns-clause-counted : goal.returns-clause-counted
returns-clause-counted g c =
    sym (length-map c.in_ok-run_reusing.field-0.items answer_value) ∙ c.in_ok-run_reusing.ensures.answer_forms.counted
    ∙ length-map c.args.requests.now request_value

pub returns-clause-returns : goal.returns-clause-returns
returns-clause-returns g c =
    let ran = c.in_ok-run_reusing.ensures in
    rw (← c.self.view_is) (λ well_formed sound. return_blocks _ _ (request_values c.args.requests.now)
    (answer_values c.in_ok-run_reusing.field-0.items) c.requires.writes_nothing well_formed
    (λ u. ran.sound_before u (sound u)) (ran.in_order_run_with_failures_if_sound sound).run)

pub returns-in_err-run_reusing-clause-keeps_failures : goal.returns-in_err-run_reusing-clause-keeps_failures
returns-in_err-run_reusing-clause-keeps_failures g c =
    rw (← c.self.view_is, c.in_err-run_reusing.ensures.unchanged) (keeps_none _)

pub returns-clause-keeps_failures : goal.returns-clause-keeps_failures
returns-clause-keeps_failures g c =
    let ran = c.in_ok-run_reusing.ensures in
    rw (← c.self.view_is) (keeps_by _ _ (request_values c.args.requests.now)
    (answer_values c.in_ok-run_reusing.field-0.items) (λ sound. (ran.in_order_run_with_failures_if_sound sound).told))

pub returns-clause-failed : goal.returns-clause-failed
returns-clause-failed g c =
    let ran = c.in_ok-run_reusing.ensures in
    rw (← c.self.view_is) (λ sound. (ran.in_order_run_with_failures_if_sound sound).told 0)
