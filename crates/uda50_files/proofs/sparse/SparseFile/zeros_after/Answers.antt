use Rattle.std.proofs.Common.{◌∙◌, ap, sym, subst, arith}
use Rattle.uda50_files.specs.Zeros.{SparseState, IsAsSupposed}
use Rattle.uda50_files.proofs.ZeroLaws.{zeros_next}
use Rattle.uda50_files.proofs.sparse.SparseFile.zeros_after.Goals as goal

pub returns-in-Some-Some : goal.returns-in-Some-Some
returns-in-Some-Some g c =
    let supposed : IsAsSupposed c.args.self.now = subst IsAsSupposed c.self.view_is c.self.invariant in
    let known = ap (λ (file : SparseState). file.zeros_from) (sym c.self.view_is) ∙ c.in-Some-Some.is-0 in
    let end = c.in-Some-Some.ensures in
    record {
      zeros = zeros_next c.args.self.now c.in-Some-Some.start c.max.result c.args.offset c.args.from.now supposed known
          (omega (arith, c.max.ensures)) (omega (arith, c.max.ensures, end)) (omega (arith, end, c.if-end-self.true, ap (λ (file : SparseState). file.length) c.self.view_is));
    }
