use Rattle.uda_bus.proofs.TurnLaws.{descriptors_agree, told_at}
use Rattle.uda_bus.proofs.map.BusMap.read_descriptors.Goals as goal

pub returns-clause-agrees : goal.returns-clause-agrees
returns-clause-agrees g c =
    let first = c.read_pair-commands in
    let second = c.read_pair-responses in
    descriptors_agree c.args.port.now c.args.self.now c.args.memory.now c.args.window.now first.new.window
    second.new.window c.descriptor_ranges.result c.descriptor_ranges.ensures.ranges first.ensures.length
    second.ensures.length first.ensures.next first.ensures.before second.ensures.kept second.ensures.next
    second.ensures.before

pub returns-clause-commands : goal.returns-clause-commands
returns-clause-commands g c =
    let read = c.read_pair-commands in
    told_at c.args.self.now c.args.memory.now c.descriptor_ranges.result _ 0 read.result
    c.descriptor_ranges.ensures.ranges read.ensures.whole

pub returns-clause-responses : goal.returns-clause-responses
returns-clause-responses g c =
    let read = c.read_pair-responses in
    told_at c.args.self.now c.args.memory.now c.descriptor_ranges.result _ 2 read.result
    c.descriptor_ranges.ensures.ranges read.ensures.whole
