use Rattle.std.proofs.Common.{◌≡◌}
use Rattle.uda_disk.specs.Values.{request_values}
use Rattle.uda_script_run.specs.Requests.{taken}
use Rattle.uda_script_run.proofs.Readings.{ReadsLines}
use Rattle.uda_script_run.proofs.requests.read_requests.Given as goal

-- the requests of the lines before this one were made, and the reader isn't called if the lines use no data
abbrev pub invariant-loop-line : goal.invariant-loop-line
invariant-loop-line g l =
    (taken l.lines ≡ 0 → l.input ≡ l.initial.input)
    × ReadsLines l.lines l.line-index (g.R.Read.remaining l.initial.input) (g.R.Read.remaining l.input)
    (request_values l.requests.items)
