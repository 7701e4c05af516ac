use Rattle.std.proofs.Common.{◌-◌, All}
use Rattle.uda_disk.specs.Values.{request_values}
use Rattle.uda50_copy.specs.Copy.{WritesNothing}
use Rattle.uda50_copy.proofs.Pairs.{ReadPairsSoFar}
use Rattle.uda50_copy.proofs.requests.paired_reads.Given as goal

abbrev pub invariant-loop-lbn : goal.invariant-loop-lbn
invariant-loop-lbn l = All WritesNothing (request_values l.requests.items)
    × ReadPairsSoFar l.blocks.start l.blocks.end l.piece l.lbn (request_values l.requests.items)

abbrev pub decreases-loop-lbn : goal.decreases-loop-lbn
decreases-loop-lbn l = l.blocks.end - l.lbn
