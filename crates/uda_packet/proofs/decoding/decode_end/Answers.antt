use Rattle.std.proofs.Common.{rules}
use Rattle.uda_packet.specs.Text.{IsNoEnd}
use Rattle.uda_packet.proofs.TextLaws.{end_is_read, no_end_is_read}
use Rattle.uda_packet.proofs.decoding.decode_end.Goals as goal

pub returns-in_err-body-clause-read : goal.returns-in_err-body-clause-read
returns-in_err-body-clause-read c =
    let absent : IsNoEnd c.args.text.now = search rules in
    rw c.from_residual.ensures (no_end_is_read _ absent)

pub returns-clause-read : goal.returns-clause-read
returns-clause-read c = end_is_read _ _ (search rules)
