use Rattle.std.proofs.Common.{sym}
use Rattle.std.specs.Prelude.{◌==◌}
use Rattle.uda_grammar.proofs.Cutting.{slice_split_found, slice_split_absent}
use Rattle.uda_grammar.proofs.cut.cut.Goals as goal

pub returns-in-Some-clause-parts : goal.returns-in-Some-clause-parts
returns-in-Some-clause-parts c = slice_split_found (λ byte. byte == c.args.separator) c.args.text.now
    c.in-Some.end (sym c.in-Some.ensures.place)

pub returns-in-None-clause-parts : goal.returns-in-None-clause-parts
returns-in-None-clause-parts c = slice_split_absent (λ byte. byte == c.args.separator) c.args.text.now
    (sym c.in-None.ensures.place)
