use Rattle.std.proofs.Common.{◌∙◌, ap, sym, subst}
use Rattle.uda50_files.specs.Zeros.{SparseState, IsAsSupposed}
use Rattle.uda50_files.proofs.ZeroLaws.{zeros_held}
use Rattle.uda50_files.proofs.sparse.SparseFile.holds_zeros.Goals as goal

pub returns-in-Some : goal.returns-in-Some
returns-in-Some g c =
    let supposed : IsAsSupposed c.args.self.now = subst IsAsSupposed c.self.view_is c.self.invariant in
    let known = ap (λ (file : SparseState). file.zeros_from) (sym c.self.view_is) ∙ c.in-Some.is in
    record {
      holds = λ are. zeros_held c.args.self.now c.in-Some.at c.args.offset c.args.from.now supposed known
          c.if-at-offset.true (c.are_zeros.ensures.zeros are);
    }
