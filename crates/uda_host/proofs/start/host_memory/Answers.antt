use Rattle.std.specs.Prelude.{◌≡◌, ℕ, List, Result, Ok, Err, IfOk, length, replicate}
use Rattle.std.proofs.Common.{ap, ◌∙◌}
use Rattle.std.proofs.lemmas.List.{length-replicate}
use Rattle.uda_host.proofs.start.host_memory.Goals as goal
use Rattle.uda_host.specs.Layout.{memory_size}

sized : {E : Type 0} (r : Result (List ℕ) E) (n : ℕ) → IfOk r (λ m. m ≡ replicate n 0)
    → IfOk r (λ m. length m ≡ n)
sized (Ok m) n h = ap length h ∙ length-replicate {A = ℕ} n 0
sized (Err e) n h = tt

pub returns : goal.returns
returns c = record { size = sized c.new.result memory_size c.new.ensures.zeros }
