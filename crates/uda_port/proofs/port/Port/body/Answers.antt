use Rattle.std.proofs.Common.{sym, subst, ◌∙◌}
use Rattle.uda_port.specs.declared.plan.Plan.{Plan}
use Rattle.uda_port.specs.MemoryUse.{IsBody, use_by}
use Rattle.uda_port.proofs.MemoryUseLaws.{body_there, reads_there}
use Rattle.uda_port.proofs.port.Port.body.Goals as goal

pub returns-clause-body : goal.returns-clause-body
returns-clause-body g c =
    subst (λ (p : Plan). IsBody c.body_by.result (use_by c.args.self.now c.args.memory.now c.args.place p))
    c.requires.planned.plan_is c.body_by.ensures.body

pub returns-clause-by_descriptors : goal.returns-clause-by_descriptors
returns-clause-by_descriptors g c =
    let port = c.args.self.now in
    let here = returns-clause-body g c in
    λ other agrees. record {
      range_is = here.range_is ∙ sym (body_there port c.args.memory.now other c.args.place agrees);
      read_is = here.read_is ∙ sym (reads_there port c.args.memory.now other c.args.place agrees);
    }
