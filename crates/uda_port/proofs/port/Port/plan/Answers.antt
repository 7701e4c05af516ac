use Rattle.std.proofs.Common.{sym, ◌∙◌}
use Rattle.uda_port.proofs.MemoryUseLaws.{plan_agrees}
use Rattle.uda_port.proofs.port.Port.plan.Goals as goal

pub returns-clause-by_descriptors : goal.returns-clause-by_descriptors
returns-clause-by_descriptors g c = λ other agrees. record {
  plan_is = c.plan_in.ensures.plan ∙ sym (plan_agrees c.args.self.now c.args.memory.now other agrees);
  short = c.plan_in.ensures.short;
}
