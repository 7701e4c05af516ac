use Rattle.std.proofs.Common.{ℕ, List, ◌≡◌, ◌<◌, Some}
use Rattle.std.specs.Prelude.{slice_get}
use Rattle.uda_disk.specs.Answer.{Answer}
use Rattle.uda_disk.specs.Values.{request_values, answer_values}
use Rattle.uda50_copy.specs.Copy.{write_of, IsSuccess}
use Rattle.uda50_copy.proofs.requests.all_written.Given as goal

abbrev pub invariant-loop-k : goal.invariant-loop-k
invariant-loop-k l = (j lbn : ℕ) (payload : List ℕ) → j < l.k → slice_get (request_values l.writes) j
    ≡ Some (write_of lbn payload)
    → (answer : Answer) × ((slice_get (answer_values l.answers) j ≡ Some answer) × IsSuccess answer)
