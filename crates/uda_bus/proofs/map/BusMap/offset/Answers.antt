use Rattle.std.proofs.Common.{ℕ, ◌-◌, ap, ◌∙◌}
use Rattle.std.specs.Int.Bits.{bit_and}
use Rattle.std.proofs.lemmas.Nat.{and_mask}
use Rattle.uda_bus.proofs.map.BusMap.offset.Goals as goal

pub returns-clause-offset : goal.returns-clause-offset
returns-clause-offset c =
    ap (λ (size : ℕ). bit_and c.args.address (size - 1)) c.page_size.ensures.size ∙ and_mask c.args.address _
