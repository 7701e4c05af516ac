use Rattle.std.proofs.Common.{arith}
use Rattle.uda_exec.proofs.AtOnce.{erases_on}
use Rattle.uda_exec.proofs.block_transfer.move_pieces.Goals as goal

pub returns-in-Erase-clause-moves : goal.returns-in-Erase-clause-moves
returns-in-Erase-clause-moves g c sound old memory memory_now h =
    erases_on _ _ _ _ _ _ _ h _ c.in-Erase.is (omega arith) (c.erase_at_once.ensures.erased sound)
