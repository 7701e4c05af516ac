use Rattle.std.proofs.Math.Bool.{not}
use Rattle.uda_bus.proofs.TurnLaws.{tells_missing}
use Rattle.uda_bus.proofs.WordLaws.{word_through_map}
use Rattle.uda_bus.proofs.map.BusMap.write_sa_in.Goals as goal

pub returns-clause-effect : goal.returns-clause-effect
returns-clause-effect g c =
    let area = c.range_zeroed-area in
    let leads = c.leads-missing in
    let done = c.write_sa_at-written in
    word_through_map c.args.port.now c.args.self.now c.args.memory.now c.args.window.now c.args.word
    (not leads.result) area.result done.result done.new.memory (done.new.self, c.write_range.new.memory)
    area.ensures.range
    (tells_missing c.args.self.now c.args.memory.now area.result leads.result leads.ensures.all)
    done.ensures.range done.ensures.local done.auto.memory c.write_range.ensures.stored
