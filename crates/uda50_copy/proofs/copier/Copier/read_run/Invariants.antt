use Rattle.std.proofs.Common.{◌≡◌, ◌+◌, ◌*◌, [], min, length}
use Rattle.uda_disk.specs.Values.{request_values}
use Rattle.uda50_copy.specs.Copy.{units_in, ChangesNoBlock}
use Rattle.uda50_copy.proofs.Pieces.{PreparedSoFar}
use Rattle.uda50_copy.specs.Reports.{stage_of, LosesFailed}
use Rattle.uda50_copy.specs.Changes.{IsSoundSource, AddsAllBut}
use Rattle.uda50_copy.proofs.copier.Copier.read_run.Given as goal

abbrev pub invariant-loop-answer : goal.invariant-loop-answer
invariant-loop-answer g l = (l.lbn ≡ min l.fn.blocks.end (l.fn.blocks.start + 32 * length l.yielded))
    × ((l.self.skips_lost ≡ l.fn.self.skips_lost)
    × (ChangesNoBlock (units_in l.initial.self) (units_in l.self)
    × (PreparedSoFar l.fn.self.skips_lost (record {
      old = [];
      new = request_values l.writes.items;
      from = l.fn.blocks.start;
      to = l.lbn;
    }) (units_in l.fn.self) (units_in l.self)
    × (AddsAllBut (record { skips_lost = l.fn.self.skips_lost; from = l.fn.blocks.start; to = l.lbn })
    (record { writes = []; reports = g.W.Observer.reports l.fn.observer })
    (record { writes = request_values l.writes.items; reports = g.W.Observer.reports l.observer })
    (IsSoundSource (units_in l.fn.self) (units_in l.self))
    × LosesFailed (stage_of l.fn.self (g.W.Observer.reports l.fn.observer))
    (stage_of l.self (g.W.Observer.reports l.observer))))))
