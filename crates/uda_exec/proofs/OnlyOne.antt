-- The only pending command.
use Rattle.std.proofs.Common.{◌≡◌, ℕ, zero, suc, List, [], ◌∷◌, Some, refl}
use Rattle.std.specs.Prelude.{slice_get}
use Rattle.uda_packet.specs.declared.command.Command.{Command}
use Rattle.uda_exec.specs.Execution.{TakesOut}
use Rattle.uda_exec.specs.Laws.{OnlyOneIsExecuted, OnlyGuestIsExecuted}

-- its index is 0
at_first : (c d : Command) (j : ℕ) → slice_get (c ∷ []) j ≡ Some d → (j ≡ 0) × (d ≡ c)
at_first c d zero is = (refl, cc)
at_first c d (suc j) is = absurd (cc)

none_left : (c d : Command) (j : ℕ) (old new : List Command) → old ≡ c ∷ [] → TakesOut old j d new
    → (j ≡ 0) × (d ≡ c) × (new ≡ [])
none_left c d j old new is taken =
    let place = at_first c d j (rw is at taken.stands) in (place.0, place.1, rw (taken.taken, is, place.0) refl)

pub only_one_is_executed : OnlyOneIsExecuted
only_one_is_executed j c old new memory memory_left e is it =
    let only = none_left c it.command j old.pending new.pending is it.taken in
    (only.2, rw only.1 at it.executes)

pub only_guest_is_executed : OnlyGuestIsExecuted
only_guest_is_executed j c old new memory memory_left r is it =
    let only = none_left c it.command j old.pending new.pending is it.taken in
    (only.2, rw (only.0, only.1) at it.executes)
