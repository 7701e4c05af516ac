use Rattle.std.proofs.Common.{true, false}
use Rattle.uda_script_run.proofs.Outcomes.{outcome_by}
use Rattle.uda_script_run.proofs.style.ScriptOutcome.of_answers.Goals as goal

pub returns-then-have_succeeded : goal.returns-then-have_succeeded
returns-then-have_succeeded c = record {
  outcome = outcome_by c.args.answers.now _ true c.have_succeeded.ensures c.if-have_succeeded.true;
}

pub returns-else-have_succeeded : goal.returns-else-have_succeeded
returns-else-have_succeeded c = record {
  outcome = outcome_by c.args.answers.now _ false c.have_succeeded.ensures c.if-have_succeeded.false;
}
