use Rattle.std.proofs.Common.{length, ap, arith}
use Rattle.uda50_show.specs.declared.packet.TextPiece.{TextPiece}
use Rattle.uda50_show.proofs.Pieces.{piece_fits}
use Rattle.uda50_show.specs.Pieces.{pieces_text}
use Rattle.std.proofs.Common.{List, []}
use Rattle.uda50_show.specs.declared.packet.TextPiece.TheVariants.{Text}
use Rattle.uda50_show.proofs.packet.Packet.text.Goals as goal

pub append_to-requires : goal.append_to-requires
append_to-requires c =
    let shown = c.as_slice-piece-items.result.now in
    let fits = piece_fits shown c.loop-piece.piece-index (Text (record { ref_ptr = (0, 0); now = [] })) c.loop-piece-test.true in
    let same = ap (λ (pieces : List TextPiece). length (pieces_text pieces)) c.as_slice-piece-items.ensures.value in
    record {
      room = omega (arith, fits, same, ap length c.loop-piece.invariant, c.pieces-pieces.ensures.short);
    }
