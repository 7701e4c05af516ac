use Rattle.uda_posting.proofs.LedgerSteps.{ledger_closes}
use Rattle.uda_posting.proofs.ledger.closes.Goals as goal

pub returns : goal.returns
returns c = record { law = ledger_closes }
