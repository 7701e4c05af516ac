use Rattle.std.proofs.Common.{arith}
use Rattle.std.proofs.Common.{◌≡◌, Option, Some, None, refl}
use Rattle.std.specs.Prelude.{option_map, is_some}
use Rattle.uda_exec.specs.Drives.{drive_state}
use Rattle.uda_port.proofs.PossibleLaws.{drive_fits}
use Rattle.uda_port.proofs.port.Port.set_drive.Goals as goal

is_some-map : {A B : Type 0} (f : A → B) (x : Option A) → is_some x ≡ is_some (option_map f x)
is_some-map f None = refl
is_some-map f (Some a) = refl

pub invariant_of-self : goal.invariant_of-self
invariant_of-self g c =
    let due = rw (← c.self.view_is) at c.attention_due-due.ensures.due in
    grind (arith, c.self.invariant, c.set_drive-old.ensures.set, drive_fits)

pub returns-clause-set : goal.returns-clause-set
returns-clause-set g c =
    let read_only = rw (← c.self.view_is) at c.is_read_only-read_only.ensures in
    let due = rw (← c.self.view_is) at c.attention_due-due.ensures.due in
    rw (
      ← c.self.view_is,
      c.set_drive-old.ensures.set,
      c.protected.ensures,
      read_only,
      c.set_attention.ensures,
      due,
      c.is_some.ensures,
      is_some-map (drive_state g.S.BlockStore.state) c.args.drive,
    ) refl
