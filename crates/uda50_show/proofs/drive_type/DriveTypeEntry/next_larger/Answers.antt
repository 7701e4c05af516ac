use Rattle.std.proofs.Common.{arith}
use Rattle.std.proofs.lemmas.Grind.{common_steps}
use Rattle.std.proofs.lemmas.List.Folds.{find-append}
use Rattle.uda50_show.proofs.drive_type.DriveTypeEntry.next_larger.Goals as goal

pub loop-drive-preserved : goal.loop-drive-preserved
loop-drive-preserved c = grind (arith, common_steps, find-append)
