use Rattle.std.proofs.Common.{ap}
use Rattle.uda_called.specs.LendsBytes.{with_held}
use Rattle.uda_c.proofs.controller.length_of.Goals as goal

pub returns-clause-same : goal.returns-clause-same
returns-clause-same c = ap (with_held c.args.lent.now) c.bytes_mut.ensures.value
