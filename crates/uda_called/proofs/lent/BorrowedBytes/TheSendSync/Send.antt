-- Lent bytes may move to another thread.
use denote.Param.Send.{IsSend}
use Rattle.uda_called.proofs.Crosses.{lent_send}
use Rattle.uda_called.specs.contracts.lent.BorrowedBytes.{the_row}

pub send : IsSend the_row
send = lent_send
