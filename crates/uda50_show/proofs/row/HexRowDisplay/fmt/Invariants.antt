use Rattle.std.proofs.Common.{◌++◌, take}
use Rattle.std.specs.Fmt.{HasWritten, IsPlainFormatter}
use Rattle.std.specs.List.{flat_map}
use Rattle.uda50_show.specs.Rows.{hex_offset, hex_cell}
use Rattle.uda50_show.proofs.row.HexRowDisplay.fmt.Given as goal

abbrev pub invariant-loop-byte : goal.invariant-loop-byte
invariant-loop-byte g l =
    IsPlainFormatter l.fn.f
    → HasWritten g.W.Write.write_str_gives l.fn.f
    (hex_offset l.self.offset ++ flat_map hex_cell (take l.byte-index l.byte-items)) l.f
