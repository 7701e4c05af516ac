use Rattle.std.proofs.Common.{◌<◌, ◌+◌, ◌*◌, ◌-◌, arith}
use Rattle.std.proofs.Math.ListN.{get_or}
use Rattle.uda_grammar.proofs.Numbers.{number_of-spill}
use Rattle.uda_grammar.proofs.number.number.Goals as goal

pub returns-in_err-checked_mul : goal.returns-in_err-checked_mul
returns-in_err-checked_mul c =
    let large : c.args.most < 10 * c.loop-digit.value +
    (get_or c.args.word.now c.loop-digit.digit-index 0 - 48) =
    omega (arith, c.in_err-checked_mul.ensures) in
    let refused = number_of-spill c.args.most c.loop-digit.value c.args.word.now c.loop-digit.digit-index
    (omega arith) large c.loop-digit.invariant.value in
    record { number = cc }

pub returns-in_err-value : goal.returns-in_err-value
returns-in_err-value c =
    let large : c.args.most < 10 * c.loop-digit.value +
    (get_or c.args.word.now c.loop-digit.digit-index 0 - 48) =
    omega (arith, c.in_err-value.ensures, c.in_ok-checked_mul.ensures) in
    let refused = number_of-spill c.args.most c.loop-digit.value c.args.word.now c.loop-digit.digit-index
    (omega arith) large c.loop-digit.invariant.value in
    record { number = cc }
