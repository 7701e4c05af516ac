use Rattle.uda_c.proofs.Lending.{put_back}
use Rattle.uda_c.proofs.slot.Slot.is_empty.Goals as goal

pub returns-in-Some-clause-same : goal.returns-in-Some-clause-same
returns-in-Some-clause-same c =
    put_back c.args.self.now c.put.new.self c.in-Some.lent c.put.ensures.value c.in-Some.ensures.took.0
