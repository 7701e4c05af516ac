-- What follows from the calls on an image file about the bytes that it holds. MSCP Basic Disk Functions Manual: a unit is an
-- array of logical blocks of 512 bytes, numbered from 0.
use Rattle.std.specs.Prelude.{◌≡◌, ℕ, ◌+◌, ◌*◌, ◌≤◌, Bool, true, ◌&&◌, List, [], ◌∷◌, ◌++◌, length, take, drop, replicate, bytes_eq}
use Rattle.std.specs.Prelude.{Option, Some, IfSome}
use Rattle.uda_mem.specs.Put.{part, put}
use Rattle.uda_image.specs.FileCall.{FileCall, read, written, asked, declined, failed, failed_write}

-- What follows from the calls on a file: the bytes that it holds, if it is honest; whether it is. How many calls
-- failed, and how many of those were writes. The bytes that were in the buffer of the last read of several blocks.
pub record Holding : Type 0 where
  pub bytes : List ℕ
  pub honest : Bool
  pub failures : ℕ
  pub failed_writes : ℕ
  pub buffer : List ℕ

-- the bytes of this many blocks: those of a longer list are cut off, and zeros follow those of a shorter one
unfoldable pub fitted : ℕ → List ℕ → List ℕ
fitted blocks bytes = take (512 * blocks) (bytes ++ replicate (512 * blocks) 0)

-- the block that the failed write with this number leaves
abbrev pub block_left : List ℕ → ℕ → List ℕ
block_left left k = fitted 1 (drop (512 * k) left)

-- A file is honest as long as each read returns the bytes that were last written there, or else the bytes that the
-- file held when it was opened. A failed read says nothing about the bytes. A failed write leaves some block, which
-- later reads must return. A read that is declined must leave its buffer unchanged.
abbrev pub after_call : List ℕ → FileCall → Holding → Holding
after_call left (read block bytes) old =
    record old { honest = old.honest && bytes_eq (part old.bytes (512 * block) (length bytes)) bytes }
after_call left (written block bytes) old = record old { bytes = put old.bytes (512 * block) bytes }
after_call left (asked bytes) old = record old { buffer = bytes }
after_call left (declined bytes) old = record old { honest = old.honest && bytes_eq old.buffer bytes }
after_call left failed old = record old { failures = old.failures + 1 }
after_call left (failed_write block) old = record old {
  bytes = put old.bytes (512 * block) (block_left left old.failed_writes);
  failures = old.failures + 1;
  failed_writes = old.failed_writes + 1;
}

-- what a file of this many blocks holds after these calls, the newest first
abbrev pub holding_after : ℕ → List ℕ → List ℕ → List FileCall → Holding
holding_after blocks held left [] =
    record { bytes = fitted blocks held; honest = true; failures = 0; failed_writes = 0; buffer = [] }
holding_after blocks held left (call ∷ earlier) = after_call left call (holding_after blocks held left earlier)

-- a read of bytes that are known: one within them that is done returns those bytes
abbrev pub ReadsAt : Option (List ℕ) → ℕ → List ℕ → Type 0 → Type 0
ReadsAt content at to done = IfSome content (λ bytes. at + length to ≤ length bytes
    → done → (to ≡ part bytes at (length to)))

-- a call on this many of the bytes that are known, from this offset on, is done
abbrev pub IsDoneAt : Option (List ℕ) → ℕ → ℕ → Type 0 → Type 0
IsDoneAt content at count done = IfSome content (λ bytes. at + count ≤ length bytes → done)

-- of bytes that are known, at most this many from this offset on have changed
abbrev pub ChangesAtMost : ℕ → ℕ → Option (List ℕ) → Option (List ℕ) → Type 0
ChangesAtMost at count content content_after = IfSome content (λ bytes. at + count ≤ length bytes
    → (left : List ℕ) × ((length left ≡ count) × (content_after ≡ Some (put bytes at left))))

-- a write over bytes that are known: one within them that is done replaces those bytes, and any other changes at
-- most those
pub record WritesAt (content : Option (List ℕ)) (at : ℕ) (from : List ℕ) (content_after : Option (List ℕ))
    (done : Type 0) : Type 0 where
  pub if_done : IfSome content (λ bytes. at + length from ≤ length bytes
      → done → (content_after ≡ Some (put bytes at from)))
  pub no_other : ChangesAtMost at (length from) content content_after
