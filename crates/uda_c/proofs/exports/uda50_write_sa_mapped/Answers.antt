use Rattle.std.proofs.Common.{sym}
use Rattle.uda_c.proofs.exports.uda50_write_sa_mapped.Goals as goal

pub returns-in-Some-clause-effect : goal.returns-in-Some-clause-effect
returns-in-Some-clause-effect c =
    rw (sym c.in-Some.ensures.value)
    (c.write_sa_mapped.result, c.code-answer.ensures, rw (← c.close.ensures.closed) c.write_sa_mapped.ensures.effect)
