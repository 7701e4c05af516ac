use Rattle.uda_c.proofs.Lending.{left_is_put, none_is_left}
use Rattle.uda_c.proofs.controller.Controller.lend_slot.Goals as goal

pub returns-in-Some-clause-taken : goal.returns-in-Some-clause-taken
returns-in-Some-clause-taken c =
    left_is_put c.lend_blocks-answer.result c.take-lent.result c.lend_blocks-answer.new.from c.in-Some.lent c.args.slot.now
    c.take-lent.new.self c.put.new.self c.take-lent.ensures.took c.lend_blocks-answer.ensures.taken c.in-Some.is
    c.put.ensures.value

pub returns-in_default-clause-taken : goal.returns-in_default-clause-taken
returns-in_default-clause-taken c =
    none_is_left c.lend_blocks-answer.result c.take-lent.result c.lend_blocks-answer.new.from c.args.slot.now
    c.take-lent.new.self c.take-lent.ensures.took c.lend_blocks-answer.ensures.taken c.in_default.is
