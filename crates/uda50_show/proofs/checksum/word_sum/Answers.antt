use Rattle.std.proofs.Common.{◌≡◌, ℕ, List, [], ◌∷◌, ◌++◌, ◌+◌, ◌%◌, add-one}
use Rattle.std.specs.List.{sum}
use Rattle.std.proofs.Math.Nat.{mod-add-mod}
use Rattle.std.proofs.lemmas.List.Sums.{sum_by_push}
use Rattle.uda50_show.specs.Block.{words}
use Rattle.uda50_show.proofs.checksum.word_sum.Goals as goal

-- One word more adds to the sum. Carries are left out before or after.
sum_more : (s w : ℕ) (xs : List ℕ) → s ≡ sum xs % 65536 → (s + w) % 65536 ≡ sum (xs ++ w ∷ []) % 65536
sum_more s w xs e = rw (e, sum_by_push (λ x. x) xs w) (mod-add-mod (sum xs) 65536 w)

pub loop-n-preserved : goal.loop-n-preserved
unfolding words
loop-n-preserved c =
    let before = words c.loop-n.n c.args.block.now in
    rw (add-one c.loop-n.n, c.word_at_offset-sum.ensures) (sum_more c.loop-n.sum _ before c.loop-n.invariant)
