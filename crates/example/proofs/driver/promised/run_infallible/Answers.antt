use Rattle.example.proofs.driver.promised.run_infallible.Goals as goal

pub returns : goal.returns
returns g c = record {
  in_order_run = c.in_ok-answers.ensures.in_order_run c.requires.faithful
      (λ u. c.in_ok-answers.ensures.infallible c.requires.faithful u (c.requires.infallible u));
}
