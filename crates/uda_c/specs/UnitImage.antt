-- The image of a unit as a store: bytes that C has lent, or blocks that C reads and writes by calls of its own.
use Rattle.std.specs.Prelude.{◌≡◌, ◌⊎◌, ℕ, nat_le, ◌&&◌, not, Bool, true, false, List, Option, Some, None, is_none, option_map, Result, Ok, Err}
use Rattle.std.specs.Prelude.{if◌then◌else◌}
use Rattle.std.specs.List.{concat}
use Rattle.uda_image.specs.Store.{StoreState, ReadyBlocks, LentBytes, lent_bytes}
use Rattle.uda_disk.specs.Units.{UnitState}
use Rattle.uda_called.specs.CalledImage.{called_state, zero_image, none_ready, can_lend, with_blocks_lent}
use Rattle.uda_called.specs.declared.lent.BorrowedBytes.{BorrowedBytes}
use Rattle.uda_called.specs.CalledImage.{can_check, can_allow, ready_checked, ready_writable}
use Rattle.uda_c.specs.declared.call_status.CallStatus.{CallStatus}
use Rattle.uda_c.specs.declared.call_status.CallStatus.TheVariants.{Done, BadLength, OtherKind}
use Rattle.uda_c.specs.declared.block_range.Prepared.{Prepared}
use Rattle.uda_c.specs.declared.block_range.Prepared.TheVariants.{Checked, Written}
use Rattle.uda_c.specs.declared.unit_image.UnitImage.{UnitImage}
use Rattle.uda_c.specs.declared.unit_image.UnitImage.TheVariants.{Lent, Called}
use Rattle.uda_c.specs.BorrowedImage.{borrowed_state, failures_of, never_fails_by}

abbrev pub unit_state : UnitImage → StoreState
unit_state (Lent image) = borrowed_state image
unit_state (Called image) = called_state image

-- an image of lent bytes whose calls never fail
abbrev pub lent_state : List ℕ → StoreState
lent_state bytes = borrowed_state (record { bytes = bytes; left = None })

-- an image of this many blocks that C reads and writes by calls of its own: zeros until C lends others
abbrev pub zero_state : ℕ → StoreState
zero_state blocks = called_state (zero_image blocks)

-- C reads and writes the blocks: so it isn't known which call fails
abbrev pub is_called : StoreState → Bool
is_called store = not store.never_fails.reads && is_none store.failing_call

abbrev pub is_called_in : Option (Option UnitState) → Bool
is_called_in (Some (Some unit)) = is_called unit.store
is_called_in _ = false

-- the bytes that C has lent
abbrev pub bytes_of_store : StoreState → Option (List ℕ)
bytes_of_store store = if is_called store then None else Some (concat store.blocks)

-- the store whose call of this number from now on fails, and no other; one that C reads and writes stays as it is
abbrev pub store_failing : Option ℕ → StoreState → StoreState
store_failing call store = record store {
  never_fails = if is_called store then store.never_fails else never_fails_by call;
  failures = if is_called store then store.failures else failures_of call;
  failing_call = if is_called store then store.failing_call else call;
}

-- the store after these bytes were lent from this block on, if that was done
abbrev pub store_lent : Bool → ℕ → Option BorrowedBytes → StoreState → StoreState
store_lent true first from store = with_blocks_lent first from store
store_lent false first from store = store

abbrev pub status_of : Result Unit CallStatus → CallStatus
status_of (Ok done) = Done
status_of (Err status) = status

-- the status of a call that makes blocks ready, of an image that C reads and writes or of another
abbrev pub ReadyAnswer : Bool → CallStatus → Type 0
ReadyAnswer true answer = (answer ≡ Done) ⊎ (answer ≡ BadLength)
ReadyAnswer false answer = answer ≡ OtherKind

-- the status of a call on the ready blocks of an image, which is of another kind if nobody makes its blocks ready
abbrev pub by_ready : Option ReadyBlocks → (ReadyBlocks → CallStatus) → CallStatus
by_ready None answer = OtherKind
by_ready (Some ready) answer = answer ready

-- ---- the blocks that are ready of an image that C reads and writes

-- no block is ready, and the next that is made ready is this one, if the image has as many
abbrev pub store_begun : ℕ → StoreState → StoreState
store_begun first store =
    if nat_le first store.size then record store { ready = Some (none_ready first) } else store

-- the same of an image that C reads and writes; another one stays as it is
abbrev pub called_begun : ℕ → StoreState → StoreState
called_begun first store = if is_called store then store_begun first store else store

-- the bytes that C has lent for ready blocks of an image, if blocks can be made ready from this one on
abbrev pub lent_from : ℕ → StoreState → Option LentBytes
lent_from first store = if nat_le first store.size then lent_bytes store else None

-- the status of lending as many bytes from this block on
abbrev pub lend_answer : ℕ → ℕ → StoreState → CallStatus
lend_answer first bytes store = by_ready store.ready
    (λ ready. if can_lend ready store.size first bytes then Done else BadLength)

-- as many blocks follow those that C prepared in this way, in an image of this size
abbrev pub can_prepare : Prepared → ReadyBlocks → ℕ → ℕ → Bool
can_prepare Checked ready size count = can_check ready size count
can_prepare Written ready size count = can_allow ready size count

-- this many more blocks are ready that C prepared in this way
abbrev pub ready_prepared : Prepared → ℕ → ReadyBlocks → ReadyBlocks
ready_prepared Checked count ready = ready_checked count ready
ready_prepared Written count ready = ready_writable count ready

-- the status of making the next blocks ready which C prepared in this way
abbrev pub allow_answer : Prepared → ℕ → StoreState → CallStatus
allow_answer prepared count store = by_ready store.ready
    (λ ready. if can_prepare prepared ready store.size count then Done else BadLength)

-- the store after that, if it was done
abbrev pub store_prepared : Bool → Prepared → ℕ → StoreState → StoreState
store_prepared true prepared count store =
    record store { ready = option_map (ready_prepared prepared count) store.ready }
store_prepared false prepared count store = store
