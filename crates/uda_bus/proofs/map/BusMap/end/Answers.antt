use Rattle.uda_bus.proofs.TurnLaws.{lie_in, turns_as_begun}
use Rattle.uda_bus.proofs.map.BusMap.end.Goals as goal

pub store-requires : goal.store-requires
store-requires g c =
    let taken = c.turn_at-taken in
    record {
      within = lie_in taken.result.written c.args.window.now taken.new.memory taken.auto.memory taken.ensures.within;
    }

pub returns-clause-effect : goal.returns-clause-effect
returns-clause-effect g c =
    let taken = c.turn_at-taken in
    turns_as_begun c.args.port.now c.args.self.now c.args.memory.now c.args.window.now c.args.bus.now c.args.window.now
    taken.new.memory taken.result (taken.new.self, c.store.new.memory) c.requires.begun taken.ensures.local
    taken.ensures.written c.store.ensures.stored
