-- A driver as its callers see it.
use Rattle.std.specs.Prelude.{◌≡◌, ◌<◌, length}
use Rattle.uda_disk.specs.Units.{AreWellFormed}
use Rattle.uda_exec.specs.Disks.{PENDING_LIMIT}
use Rattle.uda_port.specs.declared.phase.Phase.TheVariants.{Running}
use Rattle.uda_host.specs.Host.{IsIdle, IsConsistent}
use Rattle.uda_driver.specs.Run.{DriverState}

-- between two calls the port runs, no command is outstanding, and the driver holds all credits
pub record IsAtRest (driver : DriverState) : Type 0 where
  pub runs : driver.phase ≡ Running
  pub idle : IsIdle driver
  pub credits_are : driver.credits ≡ PENDING_LIMIT
  pub begun : 0 < driver.taken

-- the invariant of a driver
pub record DriverInvariant (driver : DriverState) : Type 0 where
  pub rest : IsAtRest driver
  pub four_units : length driver.units ≡ 4
  pub well_formed : AreWellFormed driver.units
  pub consistent : IsConsistent driver
