use Rattle.std.proofs.Common.{◌≡◌, ◌+◌, ◌*◌, ◌≤◌, min, length}
use Rattle.uda_disk.specs.Values.{request_values, answer_values}
use Rattle.uda50_copy.specs.Copy.{units_in}
use Rattle.uda50_copy.proofs.Pieces.{PreparedSoFar}
use Rattle.uda50_copy.specs.Reports.{lost_count}
use Rattle.uda50_copy.proofs.Losses.{error_count}
use Rattle.uda50_copy.specs.Changes.{IsSoundSource, AddsAllBut}
use Rattle.uda50_copy.proofs.copier.Copier.read_singly.Given as goal

abbrev pub invariant-loop-answer : goal.invariant-loop-answer
invariant-loop-answer g l = (l.lbn ≡ min l.fn.blocks.end (l.fn.blocks.start + 1 * length l.yielded))
    × (PreparedSoFar l.self.skips_lost (record {
      old = request_values l.fn.writes.items;
      new = request_values l.writes.items;
      from = l.fn.blocks.start;
      to = l.lbn;
    }) (units_in l.fn.self) (units_in l.self)
    × (AddsAllBut (record { skips_lost = l.fn.self.skips_lost; from = l.fn.blocks.start; to = l.lbn })
    (record { writes = request_values l.fn.writes.items; reports = g.W.Observer.reports l.fn.observer })
    (record { writes = request_values l.writes.items; reports = g.W.Observer.reports l.observer })
    (IsSoundSource (units_in l.fn.self) (units_in l.self))
    × (lost_count (g.W.Observer.reports l.observer)
    ≤ lost_count (g.W.Observer.reports l.fn.observer) + error_count (answer_values l.yielded))))
