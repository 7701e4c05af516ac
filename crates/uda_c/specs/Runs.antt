-- Several turns.
use Rattle.std.specs.Prelude.{◌≡◌, ℕ, zero, suc, Bool, true, false, List}
use Rattle.uda_mem.specs.Slices.{IsMemory}
use Rattle.uda_port.specs.declared.turn.Turn.{Turn}
use Rattle.uda_port.specs.declared.turn.Turn.TheVariants as turn
use Rattle.uda_c.specs.declared.call_status.CallStatus.{CallStatus}
use Rattle.uda_c.specs.declared.call_status.CallStatus.TheVariants.{Done, RanTurn, OtherKind}
use Rattle.uda_c.specs.ControllerState.{ControllerState}
use Rattle.uda_c.specs.Controllers.{TakesTurn, RefusesMemory}

-- a controller, and the guest's memory
abbrev pub Machine : Type 0
Machine = ControllerState × List ℕ

-- the call is refused by a controller that has an image which C reads and writes, and nothing changes
pub record UnlessCalled (old : Machine) (answer : CallStatus) (new : Machine) (Does : Type 0) : Type 0 where
  pub refuses : old.0.called ≡ true → (answer ≡ OtherKind) × (new ≡ old)
  pub does : old.0.called ≡ false → Does

-- a turn of a port that is idle or dead
abbrev pub does_nothing : Turn → Bool
does_nothing turn.Idle = true
does_nothing turn.Dead = true
does_nothing _ = false

-- after such a turn the run is over, and after any other the rest of it follows
abbrev pub AfterTurn : Bool → Type 0 → Type 0 → Type 0
AfterTurn true over rest = over
AfterTurn false over rest = rest

-- At most `limit` turns, one after another. The status is that of the last turn, or the status before if
-- there is none.
abbrev pub TakesTurns : ℕ → CallStatus → Machine → CallStatus → Machine → Type 0
TakesTurns zero before old answer new = (answer ≡ before) × (new ≡ old)
TakesTurns (suc limit) before old answer new =
    (turn : Turn) × (next : Machine) × TakesTurn old.0 old.1 (RanTurn turn) next.0 next.1
    × AfterTurn (does_nothing turn) ((answer ≡ RanTurn turn) × (new ≡ next))
    (TakesTurns limit (RanTurn turn) next answer new)

-- the run happens in valid memory; invalid memory is rejected
pub record RunsWhereMemory (limit : ℕ) (old : Machine) (answer : CallStatus) (new : Machine) : Type 0 where
  pub runs : IsMemory old.1 → TakesTurns limit Done old answer new
  pub refuses : (IsMemory old.1 → ⊥) → RefusesMemory old.0 old.1 answer new.0 new.1
