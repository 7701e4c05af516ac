use Rattle.uda_bus.proofs.TurnLaws.{is_begun}
use Rattle.uda_bus.proofs.map.BusMap.begin.Goals as goal

pub returns-clause-begun : goal.returns-clause-begun
returns-clause-begun g c =
    let before = c.read_descriptors-missing in
    let read = c.read_body-whole in
    is_begun c.args.port.now c.args.self.now c.args.memory.now c.args.window.now c.plan-plan.result
    c.next_place-place.result before.new.window read.new.window c.body-body.result before.ensures.length
    before.ensures.agrees c.plan-plan.ensures.by_descriptors c.body-body.ensures.by_descriptors before.result.commands
    before.result.responses read.result c.next_place-place.ensures.place read.ensures.window before.ensures.commands
    before.ensures.responses read.ensures.whole
