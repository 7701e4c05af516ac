-- Several turns.
use Rattle.std.proofs.Common.{◌≡◌, ◌<◌, ◌-◌, ◌+◌, ℕ, suc, true, false, refl, arith}
use Rattle.uda_port.specs.declared.turn.Turn.{Turn}
use Rattle.uda_c.specs.declared.call_status.CallStatus.{CallStatus}
use Rattle.uda_c.specs.declared.call_status.CallStatus.TheVariants.{RanTurn}
use Rattle.uda_c.specs.Controllers.{TakesTurn}
use Rattle.uda_c.specs.declared.map.MappedBus.{MappedBus}
use Rattle.uda_c.specs.Maps.{TakesTurnThroughMap, TakesTurnsThroughMap}
use Rattle.uda_c.specs.Runs.{Machine, TakesTurns, does_nothing}

-- a turn, and then the rest of the run
pub run_on : (limit k : ℕ) (before : CallStatus) (old : Machine) (turn : Turn) (next : Machine)
    (answer : CallStatus) (new : Machine)
    → k < limit → does_nothing turn ≡ false → TakesTurn old.0 old.1 (RanTurn turn) next.0 next.1
    → TakesTurns (limit - (k + 1)) (RanTurn turn) next answer new → TakesTurns (limit - k) before old answer new
run_on limit k before old turn next answer new h goes takes rest =
    let left : limit - k ≡ suc (limit - (k + 1)) = omega (arith, h) in
    rw left (turn, next, takes, rw goes rest)

-- a turn that does nothing, and the run is over
pub run_over : (limit k : ℕ) (before : CallStatus) (old : Machine) (turn : Turn) (next : Machine)
    → k < limit → does_nothing turn ≡ true → TakesTurn old.0 old.1 (RanTurn turn) next.0 next.1
    → TakesTurns (limit - k) before old (RanTurn turn) next
run_over limit k before old turn next h over takes =
    let left : limit - k ≡ suc (limit - (k + 1)) = omega (arith, h) in
    rw left (turn, next, takes, rw over (refl, refl))

-- the same of turns over memory through map registers
module _ (bus : MappedBus) (limit k : ℕ) (before : CallStatus) (old : Machine) (turn : Turn) (next : Machine)
    (below : k < limit) (takes : TakesTurnThroughMap bus old (RanTurn turn) next) where
  pub run_on_through : (after : CallStatus × Machine) → does_nothing turn ≡ false
      → TakesTurnsThroughMap bus (limit - (k + 1)) (RanTurn turn) next after
      → TakesTurnsThroughMap bus (limit - k) before old after
  run_on_through after goes rest =
      let left : limit - k ≡ suc (limit - (k + 1)) = omega (arith, below) in
      rw left (turn, next, takes, rw goes rest)

  pub run_over_through : does_nothing turn ≡ true
      → TakesTurnsThroughMap bus (limit - k) before old (RanTurn turn, next)
  run_over_through over =
      let left : limit - k ≡ suc (limit - (k + 1)) = omega (arith, below) in
      rw left (turn, next, takes, rw over (refl, refl))
