use Rattle.std.proofs.Common.{◌≡◌, take, find}
use Rattle.uda50_show.specs.DriveTypes.{is_larger}
use Rattle.uda50_show.proofs.drive_type.DriveTypeEntry.next_larger.Given as goal

abbrev pub invariant-loop-drive : goal.invariant-loop-drive
invariant-loop-drive l = l.first ≡ find (is_larger l.fn.blocks) (take l.drive-index l.types)
