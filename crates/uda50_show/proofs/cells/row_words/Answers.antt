use Rattle.std.proofs.Common.{◌≡◌, ℕ, List, ◌+◌, ◌*◌, ◌<◌, ◌++◌, ◌∷◌, [], rules, refl, sym, ap, ◌∙◌, arith}
use Rattle.std.proofs.Common.{add-one, take, length}
use Rattle.std.specs.Prelude.{slice_set}
use Rattle.std.proofs.lemmas.List.{take_more_set}
use Rattle.uda50_show.specs.Block.{words, word_at_offset}
use Rattle.uda50_show.proofs.cells.row_words.Goals as goal

pub loop-n-init : goal.loop-n-init
unfolding words
loop-n-init c = record { long = refl; read = refl }

-- one word more
word_more : (array bytes : List ℕ) (word n : ℕ) → n < length array
    → take n array ≡ words n bytes → word ≡ word_at_offset (2 * n) bytes
    → take (n + 1) (slice_set array n word) ≡ words (n + 1) bytes
unfolding words
word_more array bytes word n less so_far is =
    take_more_set array n word less
    ∙ ap (λ (t : List ℕ). t ++ word ∷ []) so_far
    ∙ ap (λ (x : ℕ). words n bytes ++ x ∷ []) is
    ∙ ap (λ (k : ℕ). words k bytes) (sym (add-one n))

pub loop-n-preserved : goal.loop-n-preserved
loop-n-preserved c =
    let now = c.loop-n.invariant in
    record {
      long = search rules;
      read = word_more _ _ _ _ (omega (arith, now.long, c.loop-n-test.true)) now.read c.word_at_offset.ensures;
    }
