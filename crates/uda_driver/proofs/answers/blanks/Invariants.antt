use Rattle.std.proofs.Common.{◌≡◌, length}
use Rattle.uda_disk.specs.Values.{request_values}
use Rattle.uda_driver.specs.Blank.{AreBlank}
use Rattle.uda_driver.proofs.answers.blanks.Given as goal

abbrev pub invariant-loop-request : goal.invariant-loop-request
invariant-loop-request l = record {
  counted : length l.answers.items ≡ l.request-index;
  blank : AreBlank (request_values l.requests) 0 l.answers.items;
}
