use Rattle.std.proofs.Common.{arith}
use Rattle.std.proofs.Common.{sym, ◌∙◌}
use Rattle.uda_port.proofs.PortSteps.{enters_test, enters_step_4}
use Rattle.uda_port.proofs.port.Port.set_rings.Goals as goal

pub invariant_of-self : goal.invariant_of-self
invariant_of-self g c =
    let asks = sym c.asks_test.ensures ∙ c.if-asks_test.true in
    enters_test c.self.inside c.response_ring-self-inside.result c.command_ring-self-inside.result c.args.word
    (rw (← c.self.view_is) at c.requires.step) (grind (arith, c.self.view_is)) asks c.self.invariant

pub invariant_of-self-else-asks_test : goal.invariant_of-self-else-asks_test
invariant_of-self-else-asks_test g c =
    rw c.raised_by_step-self-inside.ensures
    (enters_step_4 c.self.inside c.response_ring-self-inside.result c.command_ring-self-inside.result
    (rw (← c.self.view_is) at c.requires.step) (grind (arith, c.self.view_is)) c.self.invariant)
