use Rattle.std.proofs.Common.{◌≡◌, None, rules, sym, ◌∙◌}
use Rattle.uda_packet.specs.Field.{number_in, code_field}
use Rattle.uda_packet.specs.Reply.{reply_named}
use Rattle.uda_packet.proofs.TextLaws.{reply_is_read, no_reply_is_read}
use Rattle.uda_packet.proofs.reply.decode_reply.Goals as goal

pub returns-in_err-body : goal.returns-in_err-body
returns-in_err-body c =
    let bytes = c.args.text.now in
    let absent : reply_named (number_in code_field bytes) bytes ≡ None = search rules in
    record { read = c.from_residual.ensures ∙ sym (no_reply_is_read bytes absent) }

pub returns : goal.returns
returns c = record { read = sym (reply_is_read _ _ (search rules)) }
