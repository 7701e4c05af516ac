use Rattle.std.proofs.Common.{◌≡◌, ◌∷◌, [], ℕ, List, sym, ap, ◌∙◌}
use Rattle.std.proofs.lemmas.Bool.Decides.{Decides-eqb}
use Rattle.std.proofs.lemmas.Slice.Eq.{slice_eq-Decides}
use Rattle.uda_disk.specs.Answer.{Answer, Data}
use Rattle.uda_disk.specs.Status.{SUCCESS}
use Rattle.uda_disk.specs.Values.{answer_value}
use Rattle.uda50_copy.proofs.Pairs.{two_answers}
use Rattle.uda50_copy.proofs.copier.are_equal.Goals as goal

pub returns-in-Some-Some : goal.returns-in-Some-Some
returns-in-Some-Some c = record {
  equal = λ same.
      let a = c.in-Some-Some.a.now in let b = c.in-Some-Some.b.now in
      let bytes : a ≡ b = (slice_eq-Decides Decides-eqb a b c.eq.result c.eq.ensures).0 same in (
        a,
        two_answers c.args.pair.now c.source-item.result c.target-item.result c.in-len2.len_at_least c.in-len2.len_below
            c.source-item.is c.target-item.is
            ∙ ap (λ (x : Answer). x ∷ answer_value c.target-item.result ∷ []) c.in-Some-Some.ensures.read
            ∙ ap (λ (y : Answer). Data SUCCESS a ∷ y ∷ []) c.in-Some-Some.ensures'.read
            ∙ ap (λ (bs : List ℕ). Data SUCCESS a ∷ Data SUCCESS bs ∷ []) (sym bytes),
      );
}
