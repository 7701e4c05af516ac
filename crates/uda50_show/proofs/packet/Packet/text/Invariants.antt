use Rattle.std.proofs.Common.{◌≡◌, take}
use Rattle.uda50_show.specs.Pieces.{pieces_text}
use Rattle.uda50_show.proofs.packet.Packet.text.Given as goal

abbrev pub invariant-loop-piece : goal.invariant-loop-piece
invariant-loop-piece l = l.text.bytes ≡ pieces_text (take l.piece-index l.piece-items)
