-- Runs over memory through map registers by a controller with images that C reads and writes. A run stops before a turn
-- that uses blocks of such an image, and goes on when C has moved them.
-- PDP-11 UNIBUS map, VAX UNIBUS adapter, Q-bus map: map registers.
use Rattle.std.specs.Prelude.{◌≡◌, ◌≢◌, ℕ, ◌-◌, ◌<◌, zero, suc, true, false, List, length, ◌⊎◌}
use Rattle.uda_exec.specs.BlockChanges.{ChangesOnly}
use Rattle.uda_port.specs.BlockUse.{blocks_of, block_bytes_of}
use Rattle.uda_port.specs.MemoryUse.{Agrees}
use Rattle.uda_port.specs.declared.plan.Plan.{Plan}
use Rattle.uda_port.specs.declared.turn.Turn.{Turn}
use Rattle.uda_bus.specs.Turns.{bus_memory, stored_ranges, IsBegun}
use Rattle.uda_c.specs.declared.call_status.CallStatus.{CallStatus}
use Rattle.uda_c.specs.declared.call_status.CallStatus.TheVariants.{Done, RanTurn, BadLength, NeedsBlocks}
use Rattle.uda_c.specs.declared.map.MapRegisters.{MapRegisters}
use Rattle.uda_c.specs.declared.map.MappedBus.{MappedBus}
use Rattle.uda_c.specs.declared.turn_use.Step.TheVariants.{Filled}
use Rattle.uda_c.specs.declared.turn_use.TurnUse.{TurnUse}
use Rattle.uda_c.specs.BlockRange.{NO_BLOCKS, range_reported}
use Rattle.uda_c.specs.Controllers.{closed}
use Rattle.uda_c.specs.ControllerState.{ControllerState}
use Rattle.uda_c.specs.Maps.{IsBusOf, map_answer, TakesTurnThroughMap}
use Rattle.uda_c.specs.Runs.{Machine, does_nothing, AfterTurn}
use Rattle.uda_c.specs.Steps.{is_short, step_code, emptied, opened, TurnsAt}
use Rattle.uda_c.specs.TurnUse.{missing_of}

-- a run: the controller and the guest's memory, the window, and C's struct
pub record BusRun : Type 0 where
  pub machine : Machine
  pub window : List ℕ
  pub turn : TurnUse

-- One turn that uses no blocks of an image that C reads and writes. So none of these blocks changes.
pub record TakesUnblockedTurn (bus : MappedBus) (before : Machine) (answer : CallStatus) (after : Machine)
    : Type 0 where
  pub window : List ℕ
  pub takes : TakesTurnThroughMap bus before answer after
  pub agrees : Agrees before.0.port takes.goes.place window (bus_memory bus.map bus.size before.1)
  pub none : (range_reported before.0
      (blocks_of takes.goes.missing before.0.port window takes.goes.place)).count ≡ 0
  pub used_blocks : ChangesOnly (blocks_of takes.goes.missing before.0.port window takes.goes.place)
      (block_bytes_of takes.goes.missing before.0.port window takes.goes.place) before.0.port.exec.units
      after.0.port.exec.units

-- The run stops before a turn that uses blocks of such an image. The struct has these blocks, the command that the turn
-- executes, which addresses lead nowhere by three bits, and how many turns are left. The window has what the turn reads.
pub record StopsAtBlocks (bus : MappedBus) (left : ℕ) (before : Machine) (asked : TurnUse) (after : BusRun)
    : Type 0 where
  pub plan : Plan
  pub begun : IsBegun bus.map bus.size (before.0.port, before.1)
      (record { plan = plan; place = after.turn.place; missing = missing_of after.turn.missing }) after.window
  pub blocks_are : after.turn.blocks ≡ range_reported before.0
      (blocks_of (missing_of after.turn.missing) before.0.port after.window after.turn.place)
  pub some : after.turn.blocks.count ≢ 0
  pub few : after.turn.missing < 8
  pub stays : after.machine ≡ (opened before.0 asked, before.1)
  pub turn_is : after.turn ≡ record asked {
    count = (opened before.0 asked).count;
    step = step_code Filled;
    place = after.turn.place;
    missing = after.turn.missing;
    blocks = after.turn.blocks;
    ready = 0;
    lent = emptied asked.lent;
    turns = left;
  }

-- At most `limit` turns, one after another, up to one that uses blocks of such an image. The status is that of the last
-- turn, or the status before if there is none.
abbrev pub TurnsToBlocks : MappedBus → ℕ → CallStatus → Machine × TurnUse → CallStatus × BusRun → Type 0
TurnsToBlocks bus zero before old after =
    (after.0 ≡ before) × ((after.1.machine ≡ old.0) × (after.1.turn ≡ old.1))
TurnsToBlocks bus (suc limit) before old after =
    ((after.0 ≡ NeedsBlocks) × StopsAtBlocks bus (suc limit) old.0 old.1 after.1)
    ⊎ ((turn : Turn) × (next : Machine) × TakesUnblockedTurn bus old.0 (RanTurn turn) next
    × AfterTurn (does_nothing turn)
    ((after.0 ≡ RanTurn turn) × ((after.1.machine ≡ next) × (after.1.turn ≡ old.1)))
    (TurnsToBlocks bus limit (RanTurn turn) (next, old.1) after))

-- the struct after its turn was taken: without blocks, and with one turn less to run
abbrev pub turn_over : TurnUse → TurnUse
turn_over turn = record turn { blocks = NO_BLOCKS; turns = turn.turns - 1 }

-- after the struct's turn was taken the run goes on, and after a refusal it is over
abbrev pub AfterStep : CallStatus → Type 0 → (Turn → Type 0) → Type 0
AfterStep (RanTurn turn) refused goes = goes turn
AfterStep _ refused goes = refused

-- The struct's turn is taken over the window, with the blocks that C has moved. What it wrote is stored on the bus. Then
-- the run goes on.
pub record ResumesRun (bus : MappedBus) (before : BusRun) (answer : CallStatus) (after : BusRun) : Type 0 where
  pub taken : CallStatus
  pub filled : TurnUse
  pub controller : ControllerState
  pub window : List ℕ
  pub turn : TurnsAt (before.machine.0, before.window) before.turn taken filled (controller, window)
  pub goes : AfterStep taken
      ((answer ≡ taken)
      × (after ≡ record { machine = (controller, before.machine.1); window = window; turn = filled }))
      (λ t. AfterTurn (does_nothing t)
      ((answer ≡ taken) × ((after.machine
      ≡ (controller, stored_ranges bus.map filled.written window before.machine.1)) × (after.turn ≡ turn_over filled)))
      (TurnsToBlocks bus (turn_over filled).turns taken
      ((controller, stored_ranges bus.map filled.written window before.machine.1), turn_over filled) (answer, after)))

-- A run begins, if the struct has no blocks, or goes on.
pub record RunsOver (bus : MappedBus) (before : BusRun) (answer : CallStatus) (after : BusRun) : Type 0 where
  pub begins : before.turn.blocks.count ≡ 0
      → TurnsToBlocks bus before.turn.turns Done ((closed before.machine.0, before.machine.1), before.turn) (answer, after)
  pub resumes : before.turn.blocks.count ≢ 0 → ResumesRun bus before answer after

-- A run over a map. It is refused, and nothing changes, if the struct is too short, if the map is invalid, or if the window
-- hasn't as many bytes as the bus has addresses, in this order.
pub record RunsToBlocks (m : MapRegisters) (before : BusRun) (answer : CallStatus) (after : BusRun) : Type 0 where
  pub short : is_short before.turn ≡ true → (answer ≡ BadLength) × (after ≡ before)
  pub refuses : is_short before.turn ≡ false → map_answer m ≢ Done → (answer ≡ map_answer m) × (after ≡ before)
  pub runs : is_short before.turn ≡ false → map_answer m ≡ Done → (bus : MappedBus) × IsBusOf m bus
      × ((length before.window ≢ bus.size → (answer ≡ BadLength) × (after ≡ before))
      × (length before.window ≡ bus.size → RunsOver bus before answer after))
