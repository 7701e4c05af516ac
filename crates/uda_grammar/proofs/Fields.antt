-- A line with too many words.
use Rattle.std.proofs.Common.{◌≡◌, ◌<◌, ℕ, List, [], ◌∷◌, length, None, refl, arith}
use Rattle.uda_grammar.specs.Forms.{transfer_form}

pub transfer_form_more : (most : ℕ) (u l n : List ℕ) (more : List (List ℕ)) → 0 < length more
    → transfer_form most (u ∷ l ∷ n ∷ more) ≡ None
transfer_form_more most u l n [] h = absurd (omega arith)
transfer_form_more most u l n (x ∷ more) h = refl
