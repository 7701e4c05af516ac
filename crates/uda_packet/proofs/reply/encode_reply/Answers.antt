use Rattle.std.proofs.Common.{arith, rules}
use Rattle.uda_packet.proofs.WrittenLaws.{ReplyIsFit, writes_reply, written_reply_back}
use Rattle.uda_packet.proofs.reply.encode_reply.Goals as goal

pub returns-clause-written : goal.returns-clause-written
returns-clause-written c = search (rules, writes_reply)

pub returns-clause-back : goal.returns-clause-back
returns-clause-back c =
    let fits : ReplyIsFit c.args.reply.now = record {
      reference_fits = omega arith;
      unit_fits = omega arith;
      status_fits = omega arith;
      body_fits = c.put-2.ensures.fits;
    } in
    rw (returns-clause-written c) (written_reply_back c.args.reply.now fits)
