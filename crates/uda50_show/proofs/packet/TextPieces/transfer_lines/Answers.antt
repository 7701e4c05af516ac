use Rattle.std.proofs.Common.{◌≡◌, ◌++◌, codes, sym, subst}
use Rattle.std.specs.Prelude.{Option}
use Rattle.std.specs.Fmt.{decimal}
use Rattle.uda_packet.specs.declared.transfer.Transfer.{Transfer}
use Rattle.uda_packet.specs.Transfer.{has_buffer}
use Rattle.uda50_show.specs.Pieces.{pieces_text}
use Rattle.uda50_show.specs.PacketText.{line, buffer_line, transfer_lines}
use Rattle.uda50_show.proofs.Pieces.{more}
use Rattle.uda50_show.proofs.packet.TextPieces.transfer_lines.Goals as goal

pub returns-in-Some : goal.returns-in-Some
returns-in-Some c =
    let old = pieces_text c.args.self.now.0.items in
    let t = c.in-Some.transfer in
    let count = line (codes "  byte count  ") (decimal t.bytes) in
    let buffer = buffer_line (has_buffer t.kind) t.buffer in
    let lbn = line (codes "  lbn         ") (decimal t.lbn) in
    record {
      text =
          subst (λ (transfer : Option Transfer). pieces_text c.line-in-Some.new.self.0.items ≡ old ++ transfer_lines transfer)
          (sym c.in-Some.is)
          (more old (count ++ buffer) lbn (more old count buffer c.line.ensures.text c.buffer_line.ensures.text) c.line-in-Some.ensures.text);
    }
