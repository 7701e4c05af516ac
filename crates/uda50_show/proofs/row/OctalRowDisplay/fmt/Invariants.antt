use Rattle.std.proofs.Common.{◌++◌}
use Rattle.std.specs.Fmt.{HasWritten, IsPlainFormatter}
use Rattle.std.specs.List.{flat_map}
use Rattle.uda50_show.specs.Block.{words}
use Rattle.uda50_show.specs.Rows.{octal_offset, octal_cell}
use Rattle.uda50_show.proofs.row.OctalRowDisplay.fmt.Given as goal

abbrev pub invariant-loop-n : goal.invariant-loop-n
invariant-loop-n g l =
    IsPlainFormatter l.fn.f
    → HasWritten g.W.Write.write_str_gives l.fn.f
    (octal_offset l.self.offset ++ flat_map octal_cell (words l.n l.self.bytes)) l.f
