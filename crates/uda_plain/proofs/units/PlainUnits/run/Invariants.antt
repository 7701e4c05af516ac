use Rattle.std.proofs.Common.{drop}
use Rattle.uda_disk.specs.Values.{request_values, answer_values}
use Rattle.uda_plain.proofs.Steps.{SoFar}
use Rattle.uda_plain.proofs.units.PlainUnits.run.Given as goal

abbrev pub invariant-loop-request : goal.invariant-loop-request
invariant-loop-request l = SoFar l.fn.self (request_values l.requests) (answer_values l.answers.items) l.self
    (drop l.request-index (request_values l.requests))
