use Rattle.std.proofs.Common.{◌∙◌}
use Rattle.uda_c.proofs.Lending.{put_back}
use Rattle.uda_c.proofs.slot.Slot.length.Goals as goal

pub returns-in-Some-clause-same : goal.returns-in-Some-clause-same
returns-in-Some-clause-same c =
    put_back c.args.self.now c.put.new.self c.length_of-bytes.new.lent c.put.ensures.value
    (c.length_of-bytes.ensures.same ∙ c.in-Some.ensures.took.0)
