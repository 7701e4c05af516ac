use Rattle.std.proofs.Common.{codes, decimal}
use Rattle.uda50_show.specs.Pieces.{pieces_text}
use Rattle.uda50_show.specs.PacketText.{line}
use Rattle.uda50_show.proofs.Pieces.{more}
use Rattle.uda50_show.proofs.packet.TextPieces.request_lines.Goals as goal

pub returns-clause-text : goal.returns-clause-text
returns-clause-text c =
    let old = pieces_text c.args.self.now.0.items in
    let reference = line (codes "  reference   ") (decimal c.args.reference) in
    let unit = line (codes "  unit        ") (decimal c.args.unit) in
    more old reference unit c.line.ensures.text (rw c.from.ensures at c.line-2.ensures.text)
