use Rattle.std.proofs.Common.{◌++◌, take, map}
use Rattle.std.specs.Prelude.{codes}
use Rattle.std.specs.Fmt.{HasWritten, IsPlainFormatter}
use Rattle.uda50_show.specs.Rows.{printable}
use Rattle.uda50_show.proofs.row.write_characters.Given as goal

abbrev pub invariant-loop-byte : goal.invariant-loop-byte
invariant-loop-byte g l =
    IsPlainFormatter l.fn.f
    → HasWritten g.W.Write.write_str_gives l.fn.f
    (codes "  |" ++ map printable (take l.byte-index l.bytes)) l.f
