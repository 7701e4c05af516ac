use Rattle.std.proofs.Common.{ap, ap₂, ◌∙◌}
use Rattle.uda_port.specs.BlockUse.{memory_executed}
use Rattle.uda_port.specs.MemoryUse.{fate_in}
use Rattle.uda_port.specs.Turn.{may_fetch}
use Rattle.uda_port.specs.declared.plan.Plan.{Plan}
use Rattle.uda_port.specs.declared.turn_at.Fate.{Fate}
use Rattle.uda_port.proofs.port.Port.memory_for.Goals as goal

pub returns-clause-memory : goal.returns-clause-memory
returns-clause-memory g c =
    let port = c.args.self.now in
    let plan = c.requires.planned.plan_is in
    let fate = c.fate-fate.ensures ∙ ap (fate_in port.phase c.args.bus.now.missing (may_fetch port)) plan in
    c.memory_executed.ensures.memory
    ∙ ap₂ (λ (p : Plan) (f : Fate). memory_executed p f c.args.memory.now) plan fate
