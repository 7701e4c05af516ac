-- Runs over units whose stores are sure. MSCP Basic Disk Functions Manual: status and event codes, drive error.
use Rattle.std.specs.Prelude.{◌≡◌, List}
use Rattle.uda_disk.specs.Units.{Units, AllFaithful, AllSound, AreSure, unit_attributes}
use Rattle.uda_disk.specs.Request.{Request}
use Rattle.uda_disk.specs.Answer.{Answer}
use Rattle.uda_driver.specs.Run.{IsInOrderRun, NoStoreFailed, InfallibleDidNotFail}

-- a run is the in-order run, no store failed, and all units are sound and sure afterwards
pub record RunsSurely (units : Units) (requests : List Request) (answers : List Answer) (units_after : Units)
    : Type 0 where
  pub in_order : IsInOrderRun units requests answers units_after
  pub none_failed : NoStoreFailed units units_after
  pub sound : AllSound units_after
  pub sure : AreSure units_after

-- so is what `Driver::run` promises over sure units
abbrev pub SureRun : Type 0
SureRun =
    (units units_after : Units) (requests : List Request) (answers : List Answer)
    → AreSure units → unit_attributes units_after ≡ unit_attributes units
    → (AllFaithful units → InfallibleDidNotFail units units_after)
    → (AllFaithful units → NoStoreFailed units units_after → IsInOrderRun units requests answers units_after)
    → RunsSurely units requests answers units_after
