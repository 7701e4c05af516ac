use Rattle.std.proofs.Common.{rules, arith, ◌≡◌, length, List, ◌∙◌, refl, ap, subst}
use Rattle.std.proofs.lemmas.Result.{err_from_is_err_and}
use Rattle.uda_disk.specs.Values.{answer_values}
use Rattle.uda_disk.specs.declared.answer.Answer.{Answer as Told}
use Rattle.uda_script_run.specs.Texts.{part_after}
use Rattle.uda_script_run.specs.Batches.{setting, Ran}
use Rattle.uda_script_run.proofs.Endings.{requests_few, serves_lent}
use Rattle.uda_script_run.proofs.Batching.{answers_few, answers_counted, ran_once, stops_unread, stops_unserved, stops_written}
use Rattle.uda_script_run.proofs.batch.run_batch.Goals as goal

pub returns-in_err-requests-clause-error : goal.returns-in_err-requests-clause-error
returns-in_err-requests-clause-error g c =
    let exit = err_from_is_err_and c.from_residual.result c.from_residual.ensures.1 in
    rw exit.1 (stops_unread c.args.progress.part c.args.lines.now
    (setting (g.R.Read.remaining c.args.channels.now.input) (g.W.Write.contents c.args.channels.now.out)
    (g.V.Write.contents c.args.channels.now.report) c.args.driver.now)
    (g.R.Read.remaining c.read_requests.new.input) _ _ exit.2 c.in_err-requests.ensures.error)

pub serve-requires : goal.serve-requires
serve-requires g c = (
  search rules,
  requests_few c.args.lines.now c.args.lines.now _ _ c.in_ok-requests.requests.items
      c.deref.result.now c.in_ok-requests.ensures.made c.deref.ensures.value refl c.requires.few,
)

pub returns-in_err-answers-clause-error : goal.returns-in_err-answers-clause-error
returns-in_err-answers-clause-error g c =
    let exit = err_from_is_err_and c.from_residual-in_err-answers.result
    c.from_residual-in_err-answers.ensures.1 in
    rw exit.1 (stops_unserved c.args.progress.part c.args.lines.now
    (setting (g.R.Read.remaining c.args.channels.now.input) (g.W.Write.contents c.args.channels.now.out)
    (g.V.Write.contents c.args.channels.now.report) c.args.driver.now)
    (g.R.Read.remaining c.read_requests.new.input) c.serve.new.driver _
    (exit.2 ∙ c.in_err-answers.ensures.error) c.in_err-answers.ensures.unchanged)

pub print-requires : goal.print-requires
print-requires g c =
    let h = answers_few c.args.progress.part.first c.args.lines.now _ _ c.in_ok-requests.requests.items
    c.deref.result.now c.in_ok-answers.answers.items c.deref-2.result.now _ _
    c.in_ok-requests.ensures.made c.deref.ensures.value c.deref-2.ensures.value
    c.in_ok-answers.ensures.answers c.requires.countable in
    record { countable = h }

pub returns-in_err-print-clause-error : goal.returns-in_err-print-clause-error
returns-in_err-print-clause-error g c =
    let exit = err_from_is_err_and c.from_residual-in_err-print.result
    c.from_residual-in_err-print.ensures.1 in
    let before = setting (g.R.Read.remaining c.args.channels.now.input)
    (g.W.Write.contents c.args.channels.now.out)
    (g.V.Write.contents c.args.channels.now.report) c.args.driver.now in
    let after = setting (g.R.Read.remaining c.read_requests.new.input) (g.W.Write.contents c.print.new.out)
    (g.V.Write.contents c.print.new.report) c.serve.new.driver in
    rw exit.1 (stops_written c.args.progress.part c.args.lines.now
    (answer_values c.deref-2.result.now) before after
    _ (exit.2 ∙ c.in_err-print.ensures.error)
    (ran_once c.args.lines.now _ _ before after c.serve.ensures.all_attributes c.in_ok-requests.ensures.made
    (serves_lent _ c.deref.result.now _ c.deref-2.result.now _ _ c.deref.ensures.value
    c.deref-2.ensures.value c.in_ok-answers.ensures.answers))
    c.in_err-print.ensures.begun)

pub after-requires : goal.after-requires
after-requires g c =
    let h = answers_counted c.args.lines.now _ _ c.in_ok-requests.requests.items c.deref.result.now
    c.in_ok-answers.answers.items c.in_ok-answers.answers.items _ _ c.in_ok-requests.ensures.made
    c.deref.ensures.value refl c.in_ok-answers.ensures.answers in
    omega (arith, h, c.len.ensures, c.requires.countable)

pub returns-clause-ran : goal.returns-clause-ran
returns-clause-ran g c =
    let before = setting (g.R.Read.remaining c.args.channels.now.input)
    (g.W.Write.contents c.args.channels.now.out)
    (g.V.Write.contents c.args.channels.now.report) c.args.driver.now in
    let after = setting (g.R.Read.remaining c.read_requests.new.input) (g.W.Write.contents c.print.new.out)
    (g.V.Write.contents c.print.new.report) c.serve.new.driver in
    let ran : Ran c.args.progress.part c.args.lines.now
    (answer_values c.deref-2.result.now) before after = record {
      lines_ran =
          ran_once c.args.lines.now _ _ before after c.serve.ensures.all_attributes c.in_ok-requests.ensures.made
          (serves_lent _ c.deref.result.now _ c.deref-2.result.now _ _ c.deref.ensures.value
          c.deref-2.ensures.value c.in_ok-answers.ensures.answers);
      out = c.in_ok-print.ensures.out;
      report = c.in_ok-print.ensures.report;
    } in
    subst (λ (told : List Told). Ran c.args.progress.part c.args.lines.now (answer_values told) before after)
    c.deref-2.ensures.value ran

pub returns-clause-part : goal.returns-clause-part
returns-clause-part g c =
    let h = answers_counted c.args.lines.now _ _ c.in_ok-requests.requests.items c.deref.result.now
    c.in_ok-answers.answers.items c.in_ok-answers.answers.items _ _ c.in_ok-requests.ensures.made
    c.deref.ensures.value refl c.in_ok-answers.ensures.answers in
    let count : c.len.result ≡ length c.args.lines.now = omega (arith, h, c.len.ensures) in
    c.after.ensures.part ∙ ap (part_after c.args.progress.part) count
