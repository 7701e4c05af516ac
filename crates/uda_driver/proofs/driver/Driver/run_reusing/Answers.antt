use Rattle.std.proofs.lemmas.Result.{err_from_is_err_and}
use Rattle.std.proofs.Common.{sym, ◌∙◌, rules}
use Rattle.std.proofs.lemmas.List.{length-map}
use Rattle.uda_disk.specs.Values.{request_value, answer_value}
use Rattle.uda_exec.proofs.Units.{all_sound}
use Rattle.uda_posting.proofs.Owing.{owes_end, owes_plain, owes_untold, owes_seems, owes_formed}
use Rattle.uda_driver.proofs.Told.{untold_errors}
use Rattle.uda_driver.proofs.driver.Driver.run_reusing.Goals as goal

pub invariant_of-self : goal.invariant_of-self
invariant_of-self g c = c.drive.ensures.ready

pub drive-requires : goal.drive-requires
drive-requires g c =
    let ready = c.in_ok-answers.ensures in
    (search rules, (c.self.invariant, (ready.few, (ready.counted, ready.blank))))

pub returns-clause-answer_forms : goal.returns-clause-answer_forms
returns-clause-answer_forms g c = record {
  counted = length-map c.drive.result.items answer_value ∙ c.drive.ensures.counted
      ∙ sym (length-map c.args.requests.now request_value);
  formed = owes_formed c.drive.ensures.owes c.drive.ensures.none_to_come;
}

pub returns-clause-sound_before : goal.returns-clause-sound_before
returns-clause-sound_before g c = rw (← c.self.view_is) c.drive.ensures.owes.sound_before

pub returns-clause-well_formed_if_sound : goal.returns-clause-well_formed_if_sound
returns-clause-well_formed_if_sound g c = rw (← c.self.view_is) c.drive.ensures.owes.well_formed_if_sound

pub returns-clause-in_order_run_if_sound : goal.returns-clause-in_order_run_if_sound
returns-clause-in_order_run_if_sound g c = rw (← c.self.view_is)
    (owes_plain c.drive.ensures.owes c.drive.ensures.none_to_come)

pub returns-clause-in_order_run_with_failures_if_sound : goal.returns-clause-in_order_run_with_failures_if_sound
returns-clause-in_order_run_with_failures_if_sound g c = rw (← c.self.view_is) (λ sound. record {
  run = owes_end c.drive.ensures.owes c.drive.ensures.none_to_come sound;
  told = (c.drive.ensures.owes.sound sound).errors;
  infallible = (c.drive.ensures.owes.sound sound).infallible;
})

pub returns-clause-in_order_run_if_sound_and_no_error : goal.returns-clause-in_order_run_if_sound_and_no_error
returns-clause-in_order_run_if_sound_and_no_error g c = rw (← c.self.view_is)
    (λ sound none. owes_untold c.drive.ensures.owes c.drive.ensures.none_to_come sound
    (λ u. untold_errors u _ _ none))

pub returns-clause-infallible_if_sound : goal.returns-clause-infallible_if_sound
returns-clause-infallible_if_sound g c = rw (← c.self.view_is) (λ sound.
    (c.drive.ensures.owes.sound sound).infallible)

pub returns-clause-in_order_run : goal.returns-clause-in_order_run
returns-clause-in_order_run g c faithful =
    returns-clause-in_order_run_if_sound g c (all_sound _ _ (search rules) faithful)

pub returns-clause-in_order_run_with_failures : goal.returns-clause-in_order_run_with_failures
returns-clause-in_order_run_with_failures g c faithful =
    returns-clause-in_order_run_with_failures_if_sound g c (all_sound _ _ (search rules) faithful)

pub returns-clause-in_order_run_if_no_error : goal.returns-clause-in_order_run_if_no_error
returns-clause-in_order_run_if_no_error g c faithful =
    returns-clause-in_order_run_if_sound_and_no_error g c (all_sound _ _ (search rules) faithful)

pub returns-clause-infallible : goal.returns-clause-infallible
returns-clause-infallible g c faithful =
    returns-clause-infallible_if_sound g c (all_sound _ _ (search rules) faithful)

pub returns-clause-in_order_run_up_to_data : goal.returns-clause-in_order_run_up_to_data
returns-clause-in_order_run_up_to_data g c = rw (← c.self.view_is)
    (owes_seems c.drive.ensures.owes c.drive.ensures.none_to_come)

pub returns-in_err-answers-clause-too_many : goal.returns-in_err-answers-clause-too_many
returns-in_err-answers-clause-too_many g c =
    let exit = err_from_is_err_and c.from_residual.result c.from_residual.ensures.1 in
    rw (exit.1, exit.2) c.in_err-answers.ensures.too_many

pub returns-in_err-answers-clause-well_formed : goal.returns-in_err-answers-clause-well_formed
returns-in_err-answers-clause-well_formed g c = rw (← c.self.view_is)
    (c.self.invariant.well_formed, c.self.invariant.well_formed)

pub returns-clause-well_formed : goal.returns-clause-well_formed
returns-clause-well_formed g c = rw (← c.self.view_is) (c.self.invariant.well_formed, c.drive.ensures.ready.well_formed)
