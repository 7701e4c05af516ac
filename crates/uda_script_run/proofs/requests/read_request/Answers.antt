use Rattle.std.proofs.Common.{◌≡◌, ◌∙◌, ◌*◌, List, ℕ, replicate, ap, sym}
use Rattle.uda_grammar.specs.declared.statement.Statement.TheVariants.{Fill}
use Rattle.uda_disk.specs.Request.{Write}
use Rattle.uda_script_run.specs.Requests.{asked_of, request_made}
use Rattle.uda_script_run.proofs.Readings.{reads_nothing}
use Rattle.uda_script_run.proofs.requests.read_request.Goals as goal

pub returns-in_ok-payload-in-Fill-clause-made : goal.returns-in_ok-payload-in-Fill-clause-made
returns-in_ok-payload-in-Fill-clause-made g c =
    let asked = request_made (Fill c.in-Fill.unit c.in-Fill.lbn c.in-Fill.count c.in-Fill.byte) in
    let made : c.in_ok-payload-in-Fill.payload.items ≡ replicate (512 * c.in-Fill.count) c.in-Fill.byte =
    c.in_ok-payload-in-Fill.ensures.bytes ∙ ap (λ (n : ℕ). replicate (512 * n) c.in-Fill.byte)
    c.from.ensures in
    rw c.in-Fill.is (reads_nothing asked _ _
    (λ later. ap (λ (payload : List ℕ). asked_of c.in-Fill.unit (Write c.in-Fill.lbn payload)) (sym made)))
