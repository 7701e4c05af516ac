use Rattle.std.proofs.Common.{length, ap, arith}
use Rattle.std.specs.Option.{option_copied}
use Rattle.uda_grammar.proofs.Cutting.{behind_nonempty}
use Rattle.uda_grammar.proofs.forms.only_word.Goals as goal

pub returns-in_default-Some-clause-more : goal.returns-in_default-Some-clause-more
returns-in_default-Some-clause-more c =
    let h = behind_nonempty 32 (option_copied c.cut.result.1) c.in_default-Some.field-0-1.now
    (ap option_copied c.in_default-Some.is-1) in
    omega (arith, h, ap length c.cut.ensures.parts)
