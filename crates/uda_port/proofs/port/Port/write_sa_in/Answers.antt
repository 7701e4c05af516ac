use Rattle.std.proofs.Common.{sym}
use Rattle.uda_port.proofs.PortSteps.{wraps_again, ignores_word}
use Rattle.uda_port.proofs.port.Port.write_sa_in.Goals as goal

pub invariant_of-self : goal.invariant_of-self
invariant_of-self g c = wraps_again c.self.inside _ c.args.word c.in-Wrap.is c.self.invariant

pub returns-in-PollTest : goal.returns-in-PollTest
returns-in-PollTest g c = record { effect = rw (← c.self.view_is) (sym (ignores_word c.self.inside.phase _ _ _ c.in-PollTest.is)) }
