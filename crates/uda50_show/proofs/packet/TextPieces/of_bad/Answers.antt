use Rattle.std.proofs.Common.{◌<◌, ◌≤◌, ◌^◌, ℕ, List, ◌++◌, length, codes, subst, sym, rules}
use Rattle.uda_packet.specs.Bad.{bad_end}
use Rattle.uda_packet.specs.Display.{body_name, fault_display}
use Rattle.uda50_show.specs.PacketText.{line, named_status, head_lines, bad_title}
use Rattle.uda50_show.specs.Pieces.{pieces_text}
use Rattle.uda50_show.proofs.Pieces.{more}
use Rattle.uda50_show.proofs.PacketLengths.{bad_short}
use Rattle.uda50_show.proofs.packet.TextPieces.of_bad.Goals as goal

pub returns-clause-text : goal.returns-clause-text
returns-clause-text c =
    let bad = c.args.bad.now in
    let none = pieces_text c.new.result.items in
    let start = bad_title bad.kind (body_name bad.body) in
    let fault = fault_display bad.kind in
    let head = head_lines bad.reference bad.unit c.args.code c.args.modifiers in
    let status = line (codes "  rejected    status 0x") (named_status (bad_end bad).status) in
    let named = rw c.name.ensures.name at c.title.ensures.text in
    let faulted = rw c.fault_text.ensures.text at c.push.ensures.text in
    let ended = rw c.end.ensures.end at c.status_line.ensures.text in
    let titled = more none (start ++ fault) (codes "\n") (more none start fault named faulted) c.push-2.ensures.text in
    let all =
    more none (line start fault ++ head) status (more none (line start fault) head titled c.head_lines.ensures.text) ended in
    rw c.new.ensures at all

pub returns-clause-short : goal.returns-clause-short
returns-clause-short c =
    let bad = c.args.bad.now in
    let long : bad.reference < 2 ^ 32 = search rules in
    let word : bad.unit < 2 ^ 16 = search rules in
    subst (λ (text : List ℕ). length text ≤ 256) (sym (returns-clause-text c)) (bad_short bad c.args.code c.args.modifiers long word)
