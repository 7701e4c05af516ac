use Rattle.std.proofs.Common.{◌≡◌, length, arith}
use Rattle.uda_c.proofs.SavedUnits.{all_fail}
use Rattle.uda_c.proofs.controller.Controller.set_failing_calls.Goals as goal

pub returns : goal.returns
returns c =
    let four : length c.args.calls ≡ 4 = omega arith in
    record {
      set = rw (
        c.set_call_of-4.ensures.set,
        c.set_call_of-3.ensures.set,
        c.set_call_of-2.ensures.set,
        c.set_call_of.ensures.set,
      ) (all_fail c.args.self.now c.args.calls four c.keep.ensures.valid.four_units);
    }
