-- The calls on an image file, and what came of them.
use Rattle.std.specs.Prelude.{ℕ, List}
use Rattle.uda_image.specs.declared.trace.Call.{Call}
use Rattle.uda_image.specs.declared.trace.Call.TheVariants as call

-- A read or a write of these bytes, from this block on. A read of several blocks that is asked for, and one that
-- is declined, with the bytes of its buffer then. A failed call that changed no block. A failed write of this block.
pub data FileCall : Type 0 where
  read : ℕ → List ℕ → FileCall
  written : ℕ → List ℕ → FileCall
  asked : List ℕ → FileCall
  declined : List ℕ → FileCall
  failed : FileCall
  failed_write : ℕ → FileCall

abbrev pub call_of : Call → FileCall
call_of (call.Read block bytes) = read block bytes.now
call_of (call.Written block bytes) = written block bytes.now
call_of (call.Asked bytes) = asked bytes.now
call_of (call.Declined bytes) = declined bytes.now
call_of call.Failed = failed
call_of (call.FailedWrite block) = failed_write block
