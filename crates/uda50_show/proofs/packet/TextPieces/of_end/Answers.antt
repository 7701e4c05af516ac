use Rattle.std.proofs.Common.{◌<◌, ◌≤◌, ◌^◌, ℕ, List, length, append_assoc, subst, sym, rules}
use Rattle.uda50_show.proofs.PacketLengths.{end_short}
use Rattle.uda50_show.proofs.packet.TextPieces.of_end.Goals as goal

pub returns-clause-text : goal.returns-clause-text
returns-clause-text c =
    rw (
      c.result_lines.ensures.text,
      c.status_line.ensures.text,
      c.line-2.ensures.text,
      c.code.ensures.code,
      c.request_lines.ensures.text,
      c.line.ensures.text,
      c.name.ensures.name,
      c.new.ensures,
    ) (simp append_assoc)

pub returns-clause-short : goal.returns-clause-short
returns-clause-short c =
    let end = c.args.end.now in
    let long : end.reference < 2 ^ 32 = search rules in
    let word : end.unit < 2 ^ 16 = search rules in
    subst (λ (text : List ℕ). length text ≤ 256) (sym (returns-clause-text c)) (end_short end long word c.result_lines.ensures.fits)
