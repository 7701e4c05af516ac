use Rattle.std.proofs.Common.{◌≡◌, ◌<◌, ◌≤◌, ◌^◌, ℕ, List, length, subst, sym, rules}
use Rattle.uda50_show.specs.Pieces.{pieces_text}
use Rattle.uda50_show.specs.PacketText.{command_text}
use Rattle.uda50_show.proofs.PacketLengths.{command_short}
use Rattle.uda50_show.proofs.packet.TextPieces.of_command.Goals as goal

pub returns-clause-short : goal.returns-clause-short
returns-clause-short c =
    let command = c.args.command.now in
    let long : command.reference < 2 ^ 32 = search rules in
    let word : command.unit < 2 ^ 16 = search rules in
    let text : pieces_text c.parameter_lines.new.self.0.items ≡ command_text command c.args.modifiers = search rules in
    subst (λ (text : List ℕ). length text ≤ 256) (sym text) (command_short command c.args.modifiers long word c.parameter_lines.ensures.fits)
