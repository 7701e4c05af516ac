-- A handle may move to another thread, with its controller.
use denote.Param.Send.{IsSend}
use Rattle.uda_c.proofs.HandleCrosses.{handle_send}
use Rattle.uda_c.specs.contracts.handle.Handle.{the_row}

pub send : IsSend the_row
send = handle_send
