use Rattle.example.proofs.driver.Unknown.{told_unknown}
use Rattle.example.proofs.driver.promised.ask_unit_seven.Goals as goal

pub returns : goal.returns
returns g c = record {
  unknown = told_unknown _ _ _ c.in_ok-answers.ensures.four_units.0 c.in_ok-answers.ensures.answer_forms.counted
      c.in_ok-answers.ensures.in_order_run_up_to_data;
}
