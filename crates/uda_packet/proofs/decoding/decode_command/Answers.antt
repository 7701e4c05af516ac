use Rattle.std.proofs.Common.{rules, Ok, Err}
use Rattle.uda_packet.specs.Text.{CommandText, BadText}
use Rattle.uda_packet.proofs.TextLaws.{command_is_read, bad_is_read, only_command, only_fault}
use Rattle.uda_packet.proofs.decoding.decode_command.Goals as goal

pub returns-in_default : goal.returns-in_default
returns-in_default c =
    let at_fault : BadText c.args.text.now c.bad.result = search rules in
    record {
      grammar = at_fault;
      read = bad_is_read _ _ at_fault;
      command = only_command _ (Err _) at_fault;
      fault = only_fault _ (Err _) at_fault;
    }

pub returns-then-modifiers-row : goal.returns-then-modifiers-row
returns-then-modifiers-row c =
    let at_fault : BadText c.args.text.now c.bad-then-modifiers-row.result = search rules in
    record {
      grammar = at_fault;
      read = bad_is_read _ _ at_fault;
      command = only_command _ (Err _) at_fault;
      fault = only_fault _ (Err _) at_fault;
    }

pub returns-then-get-ne0 : goal.returns-then-get-ne0
returns-then-get-ne0 c =
    let at_fault : BadText c.args.text.now c.bad-then-get-ne0.result = search rules in
    record {
      grammar = at_fault;
      read = bad_is_read _ _ at_fault;
      command = only_command _ (Err _) at_fault;
      fault = only_fault _ (Err _) at_fault;
    }

pub returns : goal.returns
returns c =
    let good : CommandText c.args.text.now (record {
      reference = c.get-reference.result;
      unit = c.get-unit.result;
      op = c.in-Some.op;
    }) = search rules in
    record {
      grammar = good;
      read = command_is_read _ _ good;
      command = only_command _ (Ok _) good;
      fault = only_fault _ (Ok _) good;
    }
