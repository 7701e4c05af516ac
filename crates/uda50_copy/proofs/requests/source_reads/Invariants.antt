use Rattle.std.proofs.Common.{◌-◌}
use Rattle.uda_disk.specs.Values.{request_values}
use Rattle.uda50_copy.proofs.Pieces.{ReadsSoFar}
use Rattle.uda50_copy.proofs.requests.source_reads.Given as goal

abbrev pub invariant-loop-lbn : goal.invariant-loop-lbn
invariant-loop-lbn l = ReadsSoFar l.blocks.start l.blocks.end l.piece l.lbn (request_values l.requests.items)

abbrev pub decreases-loop-lbn : goal.decreases-loop-lbn
decreases-loop-lbn l = l.blocks.end - l.lbn
