use Rattle.std.proofs.Common.{take}
use Rattle.std.specs.Fmt.{HasWritten, IsPlainFormatter}
use Rattle.uda50_show.specs.Pieces.{pieces_text}
use Rattle.uda50_show.proofs.packet.PacketDisplay.fmt.Given as goal

abbrev pub invariant-loop-piece : goal.invariant-loop-piece
invariant-loop-piece g l =
    IsPlainFormatter l.fn.f
    → HasWritten g.W.Write.write_str_gives l.fn.f (pieces_text (take l.piece-index l.piece-items)) l.f
