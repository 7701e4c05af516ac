-- What a controller shows to C. C's struct says how many bytes it has.
use Rattle.std.specs.Prelude.{◌≡◌, ℕ, ◌<◌, ◌≤◌}
use Rattle.uda_c.specs.declared.call_status.CallStatus.{CallStatus}
use Rattle.uda_c.specs.declared.call_status.CallStatus.TheVariants.{Done, NoSuchUnit, BadLength}
use Rattle.uda_c.specs.declared.last.TurnRecord.{TurnRecord}
use Rattle.uda_c.specs.declared.snapshot.PortSnapshot.{PortSnapshot}
use Rattle.uda_c.specs.declared.snapshot.UnitSnapshot.{UnitSnapshot}
use Rattle.uda_c.specs.ControllerState.{ControllerState}
use Rattle.uda_c.specs.Last.{turn_record, TURN_RECORD_SIZE}
use Rattle.uda_c.specs.Snapshot.{port_snapshot, unit_snapshot, PORT_SNAPSHOT_SIZE, UNIT_SNAPSHOT_SIZE}

-- the struct gets the state of the port and keeps its size; one with fewer bytes stays as it was
pub record GetsState (c : ControllerState) (before : PortSnapshot) (answer : CallStatus) (after : PortSnapshot)
    : Type 0 where
  pub filled : PORT_SNAPSHOT_SIZE ≤ before.size
      → (answer ≡ Done) × (after ≡ record (port_snapshot c.port) { size = before.size })
  pub too_short : before.size < PORT_SNAPSHOT_SIZE → (answer ≡ BadLength) × (after ≡ before)

-- the same of the record of the last turn
pub record GetsLastTurn (c : ControllerState) (before : TurnRecord) (answer : CallStatus) (after : TurnRecord)
    : Type 0 where
  pub filled : TURN_RECORD_SIZE ≤ before.size
      → (answer ≡ Done) × (after ≡ record (turn_record c.last) { size = before.size })
  pub too_short : before.size < TURN_RECORD_SIZE → (answer ≡ BadLength) × (after ≡ before)

-- the same of the state of a unit, if there is such a unit
pub record GetsUnit (c : ControllerState) (unit : ℕ) (before : UnitSnapshot) (answer : CallStatus)
    (after : UnitSnapshot) : Type 0 where
  pub no_unit : 3 < unit → (answer ≡ NoSuchUnit) × (after ≡ before)
  pub filled : unit ≤ 3 → UNIT_SNAPSHOT_SIZE ≤ before.size
      → (answer ≡ Done) × (after ≡ record (unit_snapshot c.port unit) { size = before.size })
  pub too_short : unit ≤ 3 → before.size < UNIT_SNAPSHOT_SIZE → (answer ≡ BadLength) × (after ≡ before)
