-- The single steps of a turn, for C.
use Rattle.std.specs.Prelude.{◌≡◌, ◌≢◌, ℕ, ◌+◌, ◌*◌, ◌%◌, ◌^◌, ◌≤◌, ◌==◌, ◌&&◌, ◌↔◌, nat_lt, Bool, true, false}
use Rattle.std.specs.Prelude.{List, length, Option, Some, None, if◌then◌else◌}
use Rattle.uda_mem.specs.Ranges.{EMPTY_RANGE}
use Rattle.uda_image.specs.Store.{LentBytes}
use Rattle.uda_mem.specs.Put.{part}
use Rattle.uda_mem.specs.Slices.{IsMemory}
use Rattle.uda_exec.specs.declared.block_use.BlockAccess.{BlockAccess}
use Rattle.uda_exec.specs.declared.block_use.BlockAccess.TheVariants.{Reads, Checks, Writes}
use Rattle.uda_port.specs.BlockUse.{blocks_of, block_bytes_of}
use Rattle.uda_port.specs.MemoryUse.{NONE_WRITTEN, descriptor_ranges, use_of, IsPlace}
use Rattle.uda_c.specs.declared.block_range.Prepared.TheVariants.{Checked, Written}
use Rattle.uda_c.specs.declared.call_status.CallStatus.{CallStatus}
use Rattle.uda_c.specs.declared.call_status.CallStatus.TheVariants.{Done, BadLength, Stale}
use Rattle.uda_c.specs.declared.slot.Slot.{Slot}
use Rattle.uda_c.specs.declared.turn_use.Step.{Step}
use Rattle.uda_c.specs.declared.turn_use.Step.TheVariants.{Began, Filled}
use Rattle.uda_c.specs.declared.turn_use.TurnUse.{TurnUse}
use Rattle.uda_c.specs.BlockRange.{NO_BLOCKS, range_reported, access_numbered, blocks_dropped}
use Rattle.uda_c.specs.BlockRange.{LendsBlocks, AllowsBlocks}
use Rattle.uda_c.specs.ControllerState.{ControllerState}
use Rattle.uda_c.specs.Controllers.{memory_refusal, closed}
use Rattle.uda_c.specs.Slots.{is_empty, empty_slot, bytes_of_slot, slot_with}
use Rattle.uda_c.specs.TurnUse.{missing_of, missing_before_body, IsPlaceOf, TakesTurnAt}

-- the number of bytes of the struct in C
abbrev pub STRUCT_LENGTH : ℕ
STRUCT_LENGTH = 160

-- whether C has fewer bytes for the struct
abbrev pub is_short : TurnUse → Bool
is_short turn = nat_lt turn.size STRUCT_LENGTH

-- the number of a step in C
abbrev pub step_code : Step → ℕ
step_code Began = 1
step_code Filled = 2

-- whether the struct is of this controller's present turn, and this step was done last
abbrev pub is_current : Step → ControllerState → TurnUse → Bool
is_current step c turn =
    c.current && (turn.controller == c.number && (turn.count == c.count && turn.step == step_code step))

-- A step that follows this one. It is refused if the struct isn't of the controller's present turn or out of order, if
-- the struct is too short, and if the memory is invalid, in this order.
pub record StepFollows (step : Step) (before : ControllerState × TurnUse) (memory : List ℕ)
    (Refused : CallStatus → Type 0) (Goes : Type 0) : Type 0 where
  pub stale : is_current step before.0 before.1 ≡ false → Refused Stale
  pub short : is_current step before.0 before.1 ≡ true → is_short before.1 ≡ true → Refused BadLength
  pub refuses : is_current step before.0 before.1 ≡ true → is_short before.1 ≡ false → (IsMemory memory → ⊥)
      → Refused (memory_refusal memory)
  pub goes : is_current step before.0 before.1 ≡ true → is_short before.1 ≡ false → IsMemory memory → Goes

-- the status of a step that is refused so
pub record IsRefused (step : Step) (before : ControllerState × TurnUse) (memory : List ℕ) (answer : CallStatus)
    : Type 0 where
  pub stale : is_current step before.0 before.1 ≡ false → answer ≡ Stale
  pub short : is_current step before.0 before.1 ≡ true → is_short before.1 ≡ true → answer ≡ BadLength
  pub refuses : is_current step before.0 before.1 ≡ true → is_short before.1 ≡ false → (IsMemory memory → ⊥)
      × (answer ≡ memory_refusal memory)

-- the slot of an image without its bytes
abbrev pub emptied : Slot → Slot
emptied slot = if is_empty slot then slot else empty_slot

-- The controller after it began a turn of this struct. If nothing has changed it since a turn was begun last, this is the
-- same turn once more, and its count stays.
abbrev pub opened : ControllerState → TurnUse → ControllerState
opened c turn = record c {
  current = true;
  count = if c.current then c.count else (c.count + 1) % 2 ^ 64;
  number = turn.controller;
}

-- the struct of a turn that begins: its descriptors, and whose turn it is
abbrev pub turn_begun : ControllerState → List ℕ → TurnUse → TurnUse
turn_begun c memory turn = record {
  size = turn.size;
  controller = turn.controller;
  count = c.count;
  step = step_code Began;
  descriptors = descriptor_ranges c.port memory;
  body = EMPTY_RANGE;
  written = NONE_WRITTEN;
  place = 0;
  missing = 0;
  reads_body = 0;
  blocks = NO_BLOCKS;
  ready = 0;
  lent = emptied turn.lent;
  turns = turn.turns;
}

-- A turn begins: the struct is filled, and the controller has the struct's number. In a struct that is too short and in
-- invalid memory nothing changes.
pub record BeginsTurn (before : ControllerState × TurnUse) (memory : List ℕ) (answer : CallStatus)
    (after : ControllerState × TurnUse) : Type 0 where
  pub short : is_short before.1 ≡ true → (answer ≡ BadLength) × (after ≡ before)
  pub refuses : is_short before.1 ≡ false → (IsMemory memory → ⊥) → (answer ≡ memory_refusal memory) × (after ≡ before)
  pub done : is_short before.1 ≡ false → IsMemory memory → answer ≡ Done
  pub opens : is_short before.1 ≡ false → IsMemory memory
      → after.0 ≡ opened before.0 before.1
  pub filled : is_short before.1 ≡ false → IsMemory memory → after.1 ≡ turn_begun (opened before.0 before.1) memory before.1

-- The struct has the command that the next turn executes, if it executes one, and what the turn uses besides the
-- descriptors. It has the blocks that the turn uses of an image by calls, if no address of the body leads nowhere.
pub record IsFilled (c : ControllerState) (memory : List ℕ) (before after : TurnUse) : Type 0 where
  pub is_place : IsPlace c.port.exec.pending after.place
  pub body_is : after.body ≡ (use_of c.port memory after.place).body
  pub reads_is : after.reads_body ≡ (if (use_of c.port memory after.place).reads_body then 1 else 0)
  pub blocks_are : after.blocks
      ≡ range_reported c (blocks_of (missing_before_body before.missing) c.port memory after.place)
  pub rest : after
      ≡ record before {
        step = step_code Filled;
        place = after.place;
        body = after.body;
        reads_body = after.reads_body;
        blocks = after.blocks;
      }

abbrev pub GetsBody : ControllerState → List ℕ → TurnUse → CallStatus → TurnUse → Type 0
GetsBody c memory before answer after =
    StepFollows Began (c, before) memory (λ refusal. (answer ≡ refusal) × (after ≡ before))
    ((answer ≡ Done) × IsFilled c memory before after)

-- as many bytes are written to blocks after the first of them
abbrev pub HasPart : List ℕ → ℕ → ℕ → Type 0
HasPart bytes skip count = 512 * skip + count ≤ length bytes

-- the bytes that the turn with this command writes to blocks, after the first of them, if there are as many
pub record CopiesWritten (c : ControllerState) (memory : List ℕ) (asked : TurnUse × ℕ) (answer : CallStatus)
    (copied : List ℕ × List ℕ) : Type 0 where
  pub place : ℕ
  pub place_is : IsPlaceOf c asked.0 place
  pub fits : (answer ≡ Done)
      ↔ HasPart (block_bytes_of (missing_of asked.0.missing) c.port memory place) asked.1 (length copied.0)
  pub done : answer ≡ Done → copied.1
      ≡ part (block_bytes_of (missing_of asked.0.missing) c.port memory place) (512 * asked.1)
      (length copied.0)
  pub refused : answer ≢ Done → (answer ≡ BadLength) × (copied.1 ≡ copied.0)

abbrev pub GetsWritten : ControllerState → List ℕ → TurnUse × ℕ → CallStatus → List ℕ × List ℕ → Type 0
GetsWritten c memory asked answer copied =
    StepFollows Filled (c, asked.0) memory (λ refusal. (answer ≡ refusal) × (copied.1 ≡ copied.0))
    (CopiesWritten c memory asked answer copied)

-- ---- the blocks of a turn

-- the bytes that C has lent are those of the ready blocks, if the turn reads them
abbrev pub has_bytes : TurnUse → Bool
has_bytes turn = if turn.blocks.access == 1 then length turn.lent.held == 512 * turn.ready else true

-- the struct with bytes that C has lent, if there are any
abbrev pub with_lent_put_back : Option LentBytes → TurnUse → TurnUse
with_lent_put_back lent turn = record turn { lent = slot_with lent turn.lent }

-- the first `ready` blocks of the struct are made ready, in the way of this use, of an image of which none was
abbrev pub MakesBlocksReady : Option BlockAccess → ControllerState → TurnUse → CallStatus → ControllerState → Type 0
MakesBlocksReady (Some Reads) c turn answer new =
    LendsBlocks c (turn.blocks.unit, turn.blocks.first) (bytes_of_slot turn.lent) answer new
MakesBlocksReady (Some Checks) c turn answer new = AllowsBlocks c (turn.blocks.unit, turn.ready) Checked answer new
MakesBlocksReady (Some Writes) c turn answer new = AllowsBlocks c (turn.blocks.unit, turn.ready) Written answer new
MakesBlocksReady None c turn answer new = (answer ≡ Done) × (new ≡ c)

-- Only the first `ready` blocks of the struct are ready. That is refused if there are fewer, or other bytes.
pub record MakesReady (old : ControllerState) (turn : TurnUse) (answer : CallStatus) (new : ControllerState)
    : Type 0 where
  pub fewer : nat_lt turn.blocks.count turn.ready ≡ true → (answer ≡ BadLength) × (new ≡ old)
  pub other_bytes : nat_lt turn.blocks.count turn.ready ≡ false → has_bytes turn ≡ false
      → (answer ≡ BadLength) × (new ≡ old)
  pub no_blocks : nat_lt turn.blocks.count turn.ready ≡ false → has_bytes turn ≡ true
      → turn.blocks.count ≡ 0 → (answer ≡ Done) × (new ≡ old)
  pub made : nat_lt turn.blocks.count turn.ready ≡ false → has_bytes turn ≡ true → turn.blocks.count ≢ 0
      → MakesBlocksReady (access_numbered turn.blocks.access) (blocks_dropped old turn.blocks) turn answer new

-- A turn over a window. Before it the struct's first `ready` blocks are made ready. After it none of them is, and the
-- bytes that C has lent are in the struct, as they were. If the blocks can't be made ready, there is no turn, and the
-- struct stays.
pub record TurnsWithBlocks (before : ControllerState × List ℕ) (asked : TurnUse) (answer : CallStatus)
    (filled : TurnUse) (after : ControllerState × List ℕ) : Type 0 where
  pub made : CallStatus
  pub ready : ControllerState
  pub between : ControllerState
  pub makes : MakesReady before.0 asked made ready
  pub turns : made ≡ Done → TakesTurnAt (closed ready, before.1) asked answer filled (between, after.1)
  pub dropped : made ≡ Done → after.0 ≡ blocks_dropped between asked.blocks
  pub refused : made ≢ Done → (answer ≡ made) × ((filled ≡ asked) × (after ≡ (ready, before.1)))

abbrev pub TurnsAt : ControllerState × List ℕ → TurnUse → CallStatus → TurnUse → ControllerState × List ℕ → Type 0
TurnsAt before asked answer filled after =
    StepFollows Filled (before.0, asked) before.1
    (λ refusal. (answer ≡ refusal) × ((filled ≡ asked) × (after ≡ before)))
    (TurnsWithBlocks before asked answer filled after)
