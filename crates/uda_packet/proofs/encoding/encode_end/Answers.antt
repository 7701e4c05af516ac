use Rattle.std.proofs.Common.{arith, rules}
use Rattle.uda_packet.proofs.TextLaws.{end_is_read}
use Rattle.uda_packet.proofs.WrittenLaws.{EndFits, writes_end, written_end_text}
use Rattle.uda_packet.proofs.encoding.encode_end.Goals as goal

pub returns-clause-written : goal.returns-clause-written
returns-clause-written c = search (rules, writes_end)

pub returns-clause-text : goal.returns-clause-text
returns-clause-text c =
    let fits : EndFits c.args.end.now = record {
      reference_fits = omega arith;
      unit_fits = omega arith;
      status_fits = omega arith;
      body_fits = c.put-2.ensures.fits;
    } in
    rw (returns-clause-written c) (written_end_text c.args.end.now fits)

pub returns-clause-back : goal.returns-clause-back
returns-clause-back c = end_is_read _ _ (returns-clause-text c)
