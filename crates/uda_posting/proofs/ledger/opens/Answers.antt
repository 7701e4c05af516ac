use Rattle.uda_posting.proofs.LedgerSteps.{ledger_opens}
use Rattle.uda_posting.proofs.ledger.opens.Goals as goal

pub returns : goal.returns
returns c = record { law = ledger_opens }
