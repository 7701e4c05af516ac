use Rattle.std.proofs.Common.{take}
use Rattle.uda50_copy.specs.Record.{IsRunNoted}
use Rattle.uda50_copy.proofs.record.note.Given as goal

abbrev pub invariant-loop-block : goal.invariant-loop-block
invariant-loop-block l = IsRunNoted l.fn.blocks.start l.fn.blocks.end (take l.block-index l.lost) l.fn.map l.map
