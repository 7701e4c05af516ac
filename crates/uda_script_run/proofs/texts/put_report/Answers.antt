use Rattle.std.proofs.lemmas.Result.{err_from_is_err_and}
use Rattle.uda_script_run.proofs.Texting.{report_goes_on, report_breaks}
use Rattle.uda_script_run.proofs.texts.put_report.Goals as goal

pub loop-place-preserved : goal.loop-place-preserved
loop-place-preserved g c =
    report_goes_on _ _ _ c.args.part c.args.answers.now c.loop-place.place c.index-answers-place.result
    c.loop-place-test.true c.index-answers-place.is c.loop-place.invariant
    c.in_ok-put_styled.ensures.whole

pub returns-in_err-put_styled-clause-begun : goal.returns-in_err-put_styled-clause-begun
returns-in_err-put_styled-clause-begun g c =
    let exit = err_from_is_err_and c.from_residual.result c.from_residual.ensures.1 in
    rw exit.1 (report_breaks _ _ _ c.args.part c.args.answers.now c.loop-place.place
    c.index-answers-place.result c.loop-place-test.true c.index-answers-place.is c.loop-place.invariant
    c.in_err-put_styled.ensures.begun)
