use Rattle.std.proofs.lemmas.Result.{err_from_is_err_and}
use Rattle.uda_script_run.proofs.Texting.{out_goes_on, out_breaks}
use Rattle.uda_script_run.proofs.texts.put_all_data.Goals as goal

pub loop-answer-preserved : goal.loop-answer-preserved
loop-answer-preserved g c =
    out_goes_on _ _ _ c.args.answers.now c.loop-answer.answer-index c.answer-item.result
    c.loop-answer-test.true c.answer-item.is c.loop-answer.invariant c.in_ok-put_data.ensures.whole

pub returns-in_err-put_data-clause-begun : goal.returns-in_err-put_data-clause-begun
returns-in_err-put_data-clause-begun g c =
    let exit = err_from_is_err_and c.from_residual.result c.from_residual.ensures.1 in
    rw exit.1 (out_breaks _ _ _ c.args.answers.now c.loop-answer.answer-index c.answer-item.result
    c.loop-answer-test.true c.answer-item.is c.loop-answer.invariant c.in_err-put_data.ensures.begun)
