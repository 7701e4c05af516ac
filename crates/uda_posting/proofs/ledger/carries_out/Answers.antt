use Rattle.uda_posting.proofs.LedgerSteps.{ledger_carries_out}
use Rattle.uda_posting.proofs.ledger.carries_out.Goals as goal

pub returns : goal.returns
returns c = record { law = ledger_carries_out }
