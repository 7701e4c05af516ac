-- The condition of a turn in a run, and the result of a run.
use Rattle.std.specs.Prelude.{◌≡◌, ℕ, ◌≤◌, List, length, Option}
use Rattle.uda_disk.specs.Units.{Units}
use Rattle.uda_disk.specs.Request.{Request}
use Rattle.uda_disk.specs.Values.{request_values, answer_values}
use Rattle.uda_disk.specs.declared.request.Request.{Request as CodeRequest}
use Rattle.uda_disk.specs.declared.answer.Answer.{Answer as CodeAnswer}
use Rattle.uda_posting.specs.Ledger.{NoneToCome}
use Rattle.uda_posting.specs.Outstanding.{UnexecutedInvariant}
use Rattle.uda_host.specs.Host.{HostState}
use Rattle.uda_driver.specs.Run.{HasTurnCounts}
use Rattle.uda_driver.specs.Driver.{DriverInvariant}
use Rattle.uda_driver.specs.RunInvariant.{RequestsInvariant}
use Rattle.uda_driver.specs.declared.outstanding.Outstanding.{Outstanding}

-- a run is in progress, for some requests so far, and some units at its start
pub record IsDriving (out : List (Option Outstanding)) (answers : List CodeAnswer) (host : HostState) : Type 0 where
  pub start : Units
  pub requests : List Request
  pub n : ℕ
  pub driving : RequestsInvariant start requests n out (answer_values answers) host
  pub room : length requests ≤ length answers
  pub low : n ≤ length requests

-- all requests are posted, and none is outstanding
pub record RunFinished (start : HostState) (requests : List CodeRequest) (answers : List CodeAnswer)
    (host : HostState) : Type 0 where
  pub ready : DriverInvariant host
  pub counted : length answers ≡ length requests
  pub owes : UnexecutedInvariant start.units (request_values requests) (answer_values answers) host.units
  pub none_to_come : NoneToCome (request_values requests) (answer_values answers)
  pub counts : HasTurnCounts (request_values requests) start host
