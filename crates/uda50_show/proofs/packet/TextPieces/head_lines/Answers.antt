use Rattle.std.proofs.Common.{◌++◌, codes}
use Rattle.uda50_show.specs.Hex.{hex_byte, hex_word}
use Rattle.uda50_show.specs.Pieces.{pieces_text}
use Rattle.uda50_show.specs.PacketText.{line, request_lines}
use Rattle.uda50_show.proofs.Pieces.{more}
use Rattle.uda50_show.proofs.packet.TextPieces.head_lines.Goals as goal

pub returns-clause-text : goal.returns-clause-text
returns-clause-text c =
    let old = pieces_text c.args.self.now.0.items in
    let request = request_lines c.args.reference c.args.unit in
    let opcode = line (codes "  opcode      0x") (hex_byte c.args.opcode) in
    let modifiers = line (codes "  modifiers   0x") (hex_word c.args.modifiers) in
    more old (request ++ opcode) modifiers (more old request opcode c.request_lines.ensures.text c.line.ensures.text)
    c.line-2.ensures.text
