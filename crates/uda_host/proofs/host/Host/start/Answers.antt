use Rattle.std.proofs.Common.{refl, ap, ◌∙◌}
use Rattle.uda_port.specs.Port.{PortState}
use Rattle.uda_host.specs.Starting.{port_running}
use Rattle.uda_host.proofs.Startings.{opened}
use Rattle.uda_host.proofs.Asking.{started}
use Rattle.uda_host.proofs.host.Host.start.Goals as goal

pub invariant_of-host : goal.invariant_of-host
invariant_of-host g c =
    opened c.args.exec c.in-Ok.memory c.initialise.new.memory c.open_all.new.memory _ _ c.in-Ok.ensures.size
    c.initialise.ensures.memory c.open_all.ensures.size c.open_all.ensures.responses
    c.open_all.ensures.commands
    (c.initialise.ensures.port ∙ ap port_running c.in-Ok-new.ensures.ok) c.new-in-Ok-new.ensures

pub returns-in-Ok-new-clause-started : goal.returns-in-Ok-new-clause-started
returns-in-Ok-new-clause-started g c =
    let is = c.initialise.ensures.port ∙ ap port_running c.in-Ok-new.ensures.ok in
    started (ap (λ (p : PortState). p.exec.units) is) refl
    (ap (λ (p : PortState). p.deliveries) is) c.execute.ensures.executed_alone
