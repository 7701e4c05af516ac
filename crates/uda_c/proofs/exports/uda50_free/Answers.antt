use Rattle.std.proofs.Common.{subst, sym, ◌∙◌}
use Rattle.uda_c.specs.Controllers.{HoldsValid}
use Rattle.uda_c.proofs.Lending.{stays_whole}
use Rattle.uda_c.proofs.exports.uda50_free.Goals as goal

pub returns-in_default : goal.returns-in_default
returns-in_default c =
    let whole = stays_whole c.args.handle.now.value c.args.images.now c.give_back.result c.give_back.new.handle.value
    c.give_back.new.images c.give_back.ensures.gives_back c.in_default.not-Done in
    record {
      frees = (c.give_back.result, c.code-in_default.ensures, whole.frees);
      done = λ zero. absurd (whole.not_zero (sym c.code-in_default.ensures ∙ zero));
      valid = (
        c.give_back.ensures.valid,
        subst HoldsValid (sym whole.same) c.give_back.ensures.valid,
      );
    }
