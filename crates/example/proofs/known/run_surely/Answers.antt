use Rattle.uda_disk.specs.Values.{request_values, answer_values}
use Rattle.uda_driver.specs.Run.{units_of}
use Rattle.example.proofs.known.run_surely.Goals as goal

pub returns : goal.returns
returns g c = record {
  surely = c.sure_run.ensures.law (units_of c.args.driver.now) (units_of c.run.new.self)
      (request_values c.args.requests.now) (answer_values c.in_ok-answers.answers.items) c.requires.sure
      c.in_ok-answers.ensures.all_attributes c.in_ok-answers.ensures.infallible c.in_ok-answers.ensures.in_order_run;
}
