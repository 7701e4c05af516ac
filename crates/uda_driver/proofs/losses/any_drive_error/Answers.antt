use Rattle.std.proofs.Common.{sym, ◌∙◌}
use Rattle.uda_driver.proofs.Told.{told_values}
use Rattle.uda_driver.proofs.losses.any_drive_error.Goals as goal

pub returns : goal.returns
returns c = record { found = c.any_is_lost.ensures ∙ sym (told_values c.args.answers.now) }
