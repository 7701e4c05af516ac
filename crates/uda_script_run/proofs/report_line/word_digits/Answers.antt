use Rattle.std.proofs.Common.{◌≡◌, ◌/◌, ◌%◌, ◌<◌, sym, arith}
use Rattle.uda_script_run.proofs.WordDigits.{four_digits}
use Rattle.uda_script_run.proofs.report_line.word_digits.Goals as goal

pub returns : goal.returns
returns c =
    let small : c.args.word < 65536 = c.ranges.word.fits in
    let high : c.args.word / 4096 % 16 ≡ c.args.word / 4096 = omega arith in
    record {
      digits =
          rw (c.digit.ensures.value, c.digit-2.ensures.value, c.digit-3.ensures.value, c.digit-4.ensures.value, high)
          (sym (four_digits c.args.word small));
    }
