use Rattle.std.proofs.Common.{sym}
use Rattle.uda_c.proofs.exports.uda50_run_mapped.Goals as goal

pub returns-in-Some-clause-runs : goal.returns-in-Some-clause-runs
returns-in-Some-clause-runs c =
    rw (sym c.in-Some.ensures.value)
    (c.run_mapped.result, c.code-answer.ensures, rw (← c.close.ensures.closed) c.run_mapped.ensures.runs)
