use Rattle.std.proofs.Common.{sym, ◌∙◌}
use Rattle.uda_port.proofs.PortSteps.{takes_first}
use Rattle.uda_port.proofs.port.Port.first_word.Goals as goal

pub invariant_of-self : goal.invariant_of-self
invariant_of-self g c =
    let one = sym c.has_bit.ensures ∙ c.if-not-has_bit.false in
    let two = sym c.has_bit-2.ensures ∙ c.if-has_bit.false in
    rw (c.raised_by_step-self-inside.ensures, c.asked-asked.ensures)
    (takes_first c.self.inside c.args.word (rw (← c.self.view_is) at c.requires.step) one two c.self.invariant)
