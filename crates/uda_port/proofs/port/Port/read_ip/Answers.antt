use Rattle.std.proofs.Common.{refl, sym}
use Rattle.uda_port.proofs.PortSteps.{polls, passes_poll, ignores_read}
use Rattle.uda_port.proofs.port.Port.read_ip.Goals as goal

pub invariant_of-self : goal.invariant_of-self
invariant_of-self g c = polls c.self.inside c.in-Running.is c.self.invariant

pub invariant_of-self-in-PollTest : goal.invariant_of-self-in-PollTest
invariant_of-self-in-PollTest g c = rw c.raised_by_step-self-inside.ensures
    (passes_poll c.self.inside c.in-PollTest.is c.self.invariant)

pub returns-in_default : goal.returns-in_default
returns-in_default g c = record {
  reads_zero = refl;
  starts_polling = rw (← c.self.view_is)
      (sym (ignores_read c.self.inside.phase _ c.in_default.not-PollTest c.in_default.not-Running));
}
