-- Turns over memory through map registers, for C.
-- UDA50 Programmer's Documentation Kit: command ring polling, UNIBUS addresses.
use Rattle.std.specs.Prelude.{◌≡◌, ℕ, ◌/◌, ◌%◌, ◌==◌, Bool, false, List, Some, All}
use Rattle.uda_mem.specs.declared.range.ByteRange.{ByteRange}
use Rattle.uda_mem.specs.Ranges.{LiesIn}
use Rattle.uda_port.specs.declared.memory_use.Missing.{Missing}
use Rattle.uda_port.specs.declared.trace.Trace.{Trace}
use Rattle.uda_exec.specs.BlockChanges.{ChangesOnly}
use Rattle.uda_port.specs.BlockUse.{blocks_of, block_bytes_of}
use Rattle.uda_port.specs.MemoryUse.{newest_count, written_of, EffectWithout, IsLocal, IsPlace}
use Rattle.uda_port.specs.StartupUse.{range_written, WordEffect, WordIsLocal}
use Rattle.uda_port.specs.Trace.{turn_of, Traces}
use Rattle.uda_c.specs.declared.call_status.CallStatus.{CallStatus}
use Rattle.uda_c.specs.declared.call_status.CallStatus.TheVariants.{RanTurn}
use Rattle.uda_c.specs.declared.turn_use.TurnUse.{TurnUse}
use Rattle.uda_c.specs.ControllerState.{ControllerState}

-- which addresses lead nowhere, by the bits of a number
abbrev pub missing_of : ℕ → Missing
missing_of bits = record {
  commands = bits % 2 == 1;
  responses = bits / 2 % 2 == 1;
  body = bits / 4 % 2 == 1;
}

-- the same, as if all addresses of the body led somewhere
abbrev pub missing_before_body : ℕ → Missing
missing_before_body bits = record (missing_of bits) { body = false }

-- the index of a command: the one that the struct names, if that one may be executed next, or none is pending
pub record IsPlaceOf (c : ControllerState) (asked : TurnUse) (place : ℕ) : Type 0 where
  pub is_place : IsPlace c.port.exec.pending place
  pub asked_is : IsPlace c.port.exec.pending asked.place → place ≡ asked.place

-- A turn over a window. If it executes a command, that is the pending command at this index. Of each unit whose store
-- is sound afterwards, only the blocks that the turn uses change. They get the bytes that it writes, up to a block at
-- which the store fails.
pub record TakesTurnAt (before : ControllerState × List ℕ) (asked : TurnUse) (answer : CallStatus)
    (filled : TurnUse) (after : ControllerState × List ℕ) : Type 0 where
  pub trace : Trace
  pub place : ℕ
  pub answer_is : answer ≡ RanTurn (turn_of trace)
  pub last_is : after.0.last ≡ Some trace
  pub rest_stays : after.0 ≡ record before.0 { port = after.0.port; last = after.0.last }
  pub tells : Traces trace before.0.port after.0.port
  pub filled_is : filled ≡ record asked { written = filled.written }
  pub place_is : IsPlaceOf before.0 asked place
  pub goes : EffectWithout (missing_of asked.missing) place (before.0.port, before.1) (turn_of trace)
      (after.0.port, after.1)
  pub local : IsLocal (missing_of asked.missing) place (before.0.port, before.1)
      (record { turn = turn_of trace; written = filled.written }) (after.0.port, after.1)
  pub written_is : filled.written
      ≡ written_of (missing_of asked.missing) (before.0.port, before.1) place (newest_count after.0.port)
  pub within : All (LiesIn before.1) filled.written
  pub used_blocks : ChangesOnly (blocks_of (missing_of asked.missing) before.0.port before.1 place)
      (block_bytes_of (missing_of asked.missing) before.0.port before.1 place) before.0.port.exec.units
      after.0.port.exec.units

-- a word written to SA over a window, and the range that it zeroed
pub record WritesSaAt (missing : Bool) (before : ControllerState × List ℕ) (word : ℕ) (zeroed : ByteRange)
    (after : ControllerState × List ℕ) : Type 0 where
  pub steps : WordEffect missing (before.0.port, before.1) word (after.0.port, after.1)
  pub zeroed_is : zeroed ≡ range_written missing (before.0.port, before.1) word
  pub local : WordIsLocal missing (before.0.port, before.1) word zeroed (after.0.port, after.1)
  pub within : LiesIn before.1 zeroed
  pub rest_stays : after.0 ≡ record before.0 { port = after.0.port }
