use Rattle.std.proofs.Common.{◌≡◌, ◌++◌, sym, subst}
use Rattle.uda_packet.specs.declared.end.EndBody.{EndBody}
use Rattle.uda50_show.specs.Pieces.{pieces_text}
use Rattle.uda50_show.specs.PacketText.{flags_line, size_line, result_lines}
use Rattle.uda50_show.proofs.Pieces.{more}
use Rattle.uda50_show.proofs.packet.TextPieces.result_lines.Goals as goal

pub returns-in-Online-clause-text : goal.returns-in-Online-clause-text
returns-in-Online-clause-text c =
    let old = pieces_text c.args.self.now.0.items in
    let flags = flags_line c.in-Online.flags in
    let size = size_line c.in-Online.size in
    subst (λ (body : EndBody). pieces_text c.size_line.new.self.0.items ≡ old ++ result_lines body)
    (sym c.in-Online.is) (more old flags size c.flags_line-in-Online.ensures.text c.size_line.ensures.text)

pub returns-in-Moved-clause-text : goal.returns-in-Moved-clause-text
returns-in-Moved-clause-text c =
    subst (λ (body : EndBody). pieces_text c.line.new.self.0.items ≡ pieces_text c.args.self.now.0.items ++ result_lines body)
    (sym c.in-Moved.is) c.line.ensures.text
