use Rattle.std.proofs.Common.{◌≡◌, take, find, reverse}
use Rattle.uda50_show.specs.DriveTypes.{is_smaller}
use Rattle.uda50_show.proofs.drive_type.DriveTypeEntry.next_smaller.Given as goal

abbrev pub invariant-loop-drive : goal.invariant-loop-drive
invariant-loop-drive l = l.last ≡ find (is_smaller l.fn.blocks) (reverse (take l.drive-index l.types))
