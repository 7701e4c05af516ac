-- Trace records of turns.
use Rattle.std.proofs.lemmas.Bool.Decides.{nat_tests}
use Rattle.std.proofs.Common.{arith}
use Rattle.std.proofs.Common.{◌≡◌}
use Rattle.uda_port.specs.declared.trace.Trace.{Trace}
use Rattle.uda_port.specs.declared.turn.Turn.{Turn}
use Rattle.uda_port.specs.declared.turn.Turn.TheVariants as turn
use Rattle.uda_port.specs.Port.{PortState}
use Rattle.uda_port.specs.Trace.{TracesAnswer, Reports}

-- a command that is ended at once was fetched
pub traces_answer : (old new : PortState) (trace : Trace) → TracesAnswer trace old.waiting new.waiting
    → Reports turn.Fetched trace old new
traces_answer old new trace it = grind (arith, nat_tests)

-- a report depends on the same
pub reports_from : (old other new : PortState) (taken : Turn) (trace : Trace) → other.exec ≡ old.exec
    → other.waiting ≡ old.waiting → Reports taken trace other new → Reports taken trace old new
reports_from old other new taken trace exec waiting it = grind (arith, nat_tests)
