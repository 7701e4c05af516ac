use Rattle.std.proofs.Common.{arith, rules}
use Rattle.uda_packet.proofs.TextLaws.{command_is_read}
use Rattle.uda_packet.proofs.WrittenLaws.{CommandFits, writes_command, written_command_text}
use Rattle.uda_packet.proofs.encoding.encode_command.Goals as goal

pub returns-clause-written : goal.returns-clause-written
returns-clause-written c = search (rules, writes_command)

pub returns-clause-text : goal.returns-clause-text
returns-clause-text c =
    let fits : CommandFits c.args.command.now = record {
      reference_fits = omega arith;
      unit_fits = omega arith;
      op_fits = c.put.ensures.fits;
    } in
    rw (returns-clause-written c) (written_command_text c.args.command.now fits)

pub returns-clause-back : goal.returns-clause-back
returns-clause-back c = command_is_read _ _ (returns-clause-text c)
