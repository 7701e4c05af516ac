use Rattle.std.proofs.Common.{List, ℕ, Some, sym, ap, ◌∙◌}
use Rattle.uda_called.specs.LendsBytes.{with_held}
use Rattle.uda_called.proofs.image.note_lent.Goals as goal

pub returns-in-Some-clause-same : goal.returns-in-Some-clause-same
returns-in-Some-clause-same c =
    ap (λ (bytes : List ℕ). Some (with_held c.in-Some.lent bytes)) c.bytes_mut.ensures.value ∙ sym c.in-Some.is
