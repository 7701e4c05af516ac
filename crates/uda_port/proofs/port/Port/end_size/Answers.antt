use Rattle.std.proofs.Common.{ℕ, ◌≤◌, subst, sym, ◌∙◌}
use Rattle.uda_packet.proofs.WrittenLaws.{length-written_end}
use Rattle.uda_port.proofs.EndSizes.{guest_end_size}
use Rattle.uda_port.proofs.port.Port.end_size.Goals as goal

pub returns-in-Strict-clause-size : goal.returns-in-Strict-clause-size
returns-in-Strict-clause-size g c = rw (← c.self.view_is, c.in-Strict.is) (sym (length-written_end _))

pub returns-in-Compatible-clause-size : goal.returns-in-Compatible-clause-size
returns-in-Compatible-clause-size g c =
    let short = subst (λ (n : ℕ). n ≤ 48) c.length.ensures.length c.length.ensures.within in
    rw (← c.self.view_is, c.in-Compatible.is) (c.length.ensures.length ∙ sym (guest_end_size _ _ short))
