use Rattle.std.proofs.Common.{◌+◌, ◌<◌, ◌^◌, length, arith, rules, ◌∙◌, refl}
use Rattle.std.proofs.lemmas.Result.{err_from_is_err_and, on_ok_weaker}
use Rattle.uda_script_run.proofs.Endings.{requests_few, ends_whole, ends_broken, ends_unserved, reads_script, serves_lent}
use Rattle.uda_script_run.proofs.Batching.{answers_few}
use Rattle.uda_script_run.proofs.script.run_script.Goals as goal

pub serve-requires : goal.serve-requires
serve-requires g c = (
  search rules,
  requests_few _ c.args.script.now _ _ c.in_ok-requests.requests.items c.deref.result.now
      c.in_ok-requests.ensures.made c.deref.ensures.value c.lines.ensures.lines c.lines.ensures.few,
)

pub returns-in_err-answers-clause-error : goal.returns-in_err-answers-clause-error
returns-in_err-answers-clause-error g c =
    let exit = err_from_is_err_and c.from_residual-in_err-answers.result
    c.from_residual-in_err-answers.ensures.1 in
    rw exit.1 (ends_unserved _ _ _ _ _ _ (exit.2 ∙ c.in_err-answers.ensures.error)
    c.in_err-answers.ensures.unchanged refl refl)

pub returns-clause-whole : goal.returns-clause-whole
returns-clause-whole g c =
    ends_whole c.print.result c.args.script.now
    (record {
      input = g.R.Read.remaining c.args.input.now;
      out = g.W.Write.contents
          c.args.out.now;
      report = g.V.Write.contents c.args.report.now;
    })
    (record {
      input = g.R.Read.remaining c.read_requests.new.input;
      out = g.W.Write.contents
          c.print.new.out;
      report = g.V.Write.contents c.print.new.report;
    })
    _ _ c.args.driver.now c.serve.new.driver
    (reads_script _ _ _ _ _ c.lines.ensures.lines c.in_ok-requests.ensures.made)
    (serves_lent _ c.deref.result.now _ c.deref-2.result.now _ _ c.deref.ensures.value
    c.deref-2.ensures.value c.in_ok-answers.ensures.answers)
    c.print.ensures.out c.print.ensures.report

pub returns-clause-error : goal.returns-clause-error
returns-clause-error g c =
    ends_broken c.print.result c.args.script.now
    (record {
      input = g.R.Read.remaining c.args.input.now;
      out = g.W.Write.contents
          c.args.out.now;
      report = g.V.Write.contents c.args.report.now;
    })
    (record {
      input = g.R.Read.remaining c.read_requests.new.input;
      out = g.W.Write.contents
          c.print.new.out;
      report = g.V.Write.contents c.print.new.report;
    })
    _ _ c.args.driver.now c.serve.new.driver
    (reads_script _ _ _ _ _ c.lines.ensures.lines c.in_ok-requests.ensures.made)
    (serves_lent _ c.deref.result.now _ c.deref-2.result.now _ _ c.deref.ensures.value
    c.deref-2.ensures.value c.in_ok-answers.ensures.answers)
    c.print.ensures.begun c.print.ensures.error

pub print-requires : goal.print-requires
print-requires g c =
    let few = c.lines.ensures.few in
    let countable : 1 + length c.args.script.now < 2 ^ 64 = omega (arith, few) in
    let h = answers_few 1 c.args.script.now _ _ c.in_ok-requests.requests.items c.deref.result.now
    c.in_ok-answers.answers.items c.deref-2.result.now _ _
    (reads_script _ _ _ _ _ c.lines.ensures.lines c.in_ok-requests.ensures.made) c.deref.ensures.value
    c.deref-2.ensures.value c.in_ok-answers.ensures.answers countable in
    record { countable = h }

pub returns-clause-four_units : goal.returns-clause-four_units
returns-clause-four_units g c =
    on_ok_weaker c.print.result (λ done. c.in_ok-answers.ensures.four_units) c.print.ensures.out
