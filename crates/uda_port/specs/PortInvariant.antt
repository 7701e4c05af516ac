-- The invariant of a port's fields.
use Rattle.std.specs.Prelude.{◌≡◌, ◌+◌, ◌<◌, ◌≤◌, ◌↔◌, IsTrue, true, false, [], length}
use Rattle.uda_disk.specs.Units.{AreWellFormed}
use Rattle.uda_exec.specs.Disks.{PENDING_LIMIT}
use Rattle.uda_port.specs.Port.{credits_granted}
use Rattle.uda_port.specs.Possible.{has_run, has_phase, can_interrupt, rings_fit, guest_fits, queue_fits, HasNoWork}
use Rattle.uda_port.specs.declared.profile.Profile.TheVariants.{Strict}
use Rattle.uda_port.specs.declared.port.Port.TheInside.{Inside}

-- what the phase and the profile say about the other fields
pub record IsPossible {S : Type 0} (p : Inside S) : Type 0 where
  pub phase : has_phase p.profile p.phase ≡ true
  pub interrupts : can_interrupt p.profile p.phase p.interrupts ≡ true
  pub rings : rings_fit p.profile p.phase p.responses p.commands ≡ true
  pub guest : guest_fits p.profile p.phase p.guest ≡ true
  pub queue : queue_fits p.profile p.waiting.items ≡ true
  pub no_work : has_run p.phase ≡ false
      → HasNoWork p.polling p.deliveries p.exec.pending p.waiting.items p.exec.position

pub record PortInvariant {S : Type 0} (p : Inside S) : Type 0 where
  pub room : p.waiting.capacity ≡ PENDING_LIMIT
  pub credits : p.credits + p.fetches ≡ credits_granted p.deliveries
  pub conserved : p.fetches ≡ p.deliveries + (length p.exec.pending + length p.waiting.items)
  pub four_units : length p.exec.units ≡ 4
  pub well_formed : AreWellFormed p.exec.units
  pub ordered : p.responses.base ≤ p.commands.base
  pub begun : IsTrue p.begun ↔ (0 < p.deliveries)
  pub strict : p.profile ≡ Strict → p.exec.guest_ops ≡ []
  pub possible : IsPossible p
