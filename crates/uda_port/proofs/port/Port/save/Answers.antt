use Rattle.std.proofs.Common.{ap, ◌∙◌}
use Rattle.uda_port.specs.Saved.{is_consistent}
use Rattle.uda_port.proofs.Saving.{consistent, is_saved}
use Rattle.uda_port.proofs.port.Port.save.Goals as goal

pub returns-clause-saved : goal.returns-clause-saved
returns-clause-saved g c = rw (← c.self.view_is)
    (is_saved c.self.inside c.queued.result.items c.save.result c.self.invariant c.queued.ensures.same
    c.save.ensures.saved)

pub returns-clause-consistent : goal.returns-clause-consistent
returns-clause-consistent g c =
    ap is_consistent (is_saved c.self.inside c.queued.result.items c.save.result c.self.invariant
    c.queued.ensures.same c.save.ensures.saved)
    ∙ consistent c.self.inside c.self.invariant
