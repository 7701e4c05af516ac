-- A store of the blocks of a unit as contracts see it, and the effect of one call on it. MSCP Basic Disk
-- Functions Manual: a unit is an array of logical blocks of 512 bytes, numbered from 0.
use Rattle.std.specs.Prelude.{◌≡◌, ℕ, ◌+◌, ◌-◌, ◌<◌, Bool, true, ◌||◌, ◌&&◌, List, length, Option, Some, Result}
use Rattle.std.specs.Prelude.{slice_get, slice_set, option_map, option_and_then, IfSome, MatchResult}
use Rattle.std.specs.List.{All}
use denote.RawPtr.{Ptr}
use Rattle.uda_image.specs.declared.store.StoreError.{StoreError}

-- whether no read of a store fails, and whether no write does
pub record NeverFails : Type 0 where
  pub reads : Bool
  pub writes : Bool

-- bytes that a program lends for ready blocks: their address, their number, and their values
pub record LentBytes : Type 0 where
  pub at : Ptr
  pub count : ℕ
  pub values : List ℕ

-- The blocks that a program made ready for the calls on its image, counted from one block on: the first of them, the
-- first that wasn't used yet, how many were read, how many are known to be readable, how many may be written, and the
-- bytes that the program has lent for those that were read, if there are any.
-- No effect of a call says which blocks are ready afterwards: that is the image's own. But no call changes the lent bytes
pub record ReadyBlocks : Type 0 where
  pub first : ℕ
  pub next : ℕ
  pub lent : ℕ
  pub checked : ℕ
  pub writable : ℕ
  pub bytes : Option LentBytes

-- a store: its blocks, their number, whether it is faithful, whether it has been honest until now, which calls
-- never fail, how many of its calls have failed, and, if it is known, which call will fail: 1 is the next one,
-- and 0 means none. Last the blocks that are ready, if a program makes them ready
pub record StoreState : Type 0 where
  pub blocks : List (List ℕ)
  pub size : ℕ
  pub faithful : Bool
  pub honest : Bool
  pub never_fails : NeverFails
  pub failures : ℕ
  pub failing_call : Option ℕ
  pub ready : Option ReadyBlocks

-- the bytes that a program has lent for the ready blocks of a store
abbrev pub lent_bytes : StoreState → Option LentBytes
lent_bytes store = option_and_then (λ ready. ready.bytes) store.ready

-- a sound store: it is faithful, or it has been honest until now
abbrev pub is_sound : StoreState → Bool
is_sound store = store.faithful || store.honest

-- a store that is sure to read: it is faithful, and no read fails
abbrev pub is_sure_to_read : StoreState → Bool
is_sure_to_read store = store.faithful && store.never_fails.reads

-- a store that is sure to write: it is faithful, and no write fails
abbrev pub is_sure_to_write : StoreState → Bool
is_sure_to_write store = store.faithful && store.never_fails.writes

-- this many calls succeed: the call that is to fail is not among them, and is now that many calls nearer
pub record CallsSucceed (calls : ℕ) (old new : Option ℕ) : Type 0 where
  pub before : IfSome old (λ left. 0 < left → calls < left)
  pub sooner : new ≡ option_map (λ left. left - calls) old

-- this many calls succeed and the next one fails. If it is known which call is to fail, it is that one, and
-- no other fails afterwards
pub record FailsAtCall (calls : ℕ) (old new : Option ℕ) : Type 0 where
  pub now : IfSome old (λ left. left ≡ calls + 1)
  pub over : new ≡ option_map (λ left. 0) old

-- a well-formed image of this size: that number of blocks, each of 512 bytes
pub record HasWholeBlocks (size : ℕ) (blocks : List (List ℕ)) : Type 0 where
  pub counted : length blocks ≡ size
  pub whole : All (λ block. length block ≡ 512) blocks

-- the attributes that no call changes: the number of blocks, what the store promises, and the bytes that are lent for
-- its ready blocks. A store that is no longer honest is never honest again
pub record KeepsAttributes (old new : StoreState) : Type 0 where
  pub size_stays : new.size ≡ old.size
  pub faithful_stays : new.faithful ≡ old.faithful
  pub honest_before : new.honest ≡ true → old.honest ≡ true
  pub never_fails_stays : new.never_fails ≡ old.never_fails
  pub lent_stays : lent_bytes new ≡ lent_bytes old

-- a read of block n that succeeded: the bytes are the block's, and nothing changed except that one call was
-- made, and perhaps which blocks are ready
pub record ReadsBlock (old : StoreState) (n : ℕ) (new : StoreState) (to : List ℕ) : Type 0 where
  pub value : slice_get old.blocks n ≡ Some to
  pub state_stays : new ≡ record old { failing_call = new.failing_call; ready = new.ready }
  pub calls : CallsSucceed 1 old.failing_call new.failing_call

-- a read that failed: one more failure, nothing else changed except perhaps which blocks are ready, and nothing
-- is known of the bytes
pub record FailsToRead (old new : StoreState) : Type 0 where
  pub counted : new ≡ record old { failures = old.failures + 1; failing_call = new.failing_call; ready = new.ready }
  pub calls : FailsAtCall 0 old.failing_call new.failing_call

-- the effect of a read of block n, by its result
abbrev pub Reads : StoreState → ℕ → StoreState → List ℕ → Result Unit StoreError → Type 0
Reads old n new to result =
    MatchResult result (λ _. ReadsBlock old n new to) (λ _. FailsToRead old new)

-- a write of block n that succeeded: block n holds those bytes, and no other block changed
pub record WritesBlock (old : StoreState) (n : ℕ) (new : StoreState) (from : List ℕ) : Type 0 where
  pub written : new
      ≡ record old { blocks = slice_set old.blocks n from; failing_call = new.failing_call; ready = new.ready }
  pub calls : CallsSucceed 1 old.failing_call new.failing_call

-- a write of block n that failed: one more failure, block n holds some 512 bytes, and nothing else changed except
-- perhaps which blocks are ready
pub record FailsToWrite (old : StoreState) (n : ℕ) (new : StoreState) : Type 0 where
  pub left : List ℕ
  pub whole : length left ≡ 512
  pub written : new ≡ record old {
    blocks = slice_set old.blocks n left;
    failures = old.failures + 1;
    failing_call = new.failing_call;
    ready = new.ready;
  }
  pub calls : FailsAtCall 0 old.failing_call new.failing_call

-- the effect of a write of block n, by its result
abbrev pub Writes : StoreState → ℕ → StoreState → List ℕ → Result Unit StoreError → Type 0
Writes old n new from result =
    MatchResult result (λ _. WritesBlock old n new from) (λ _. FailsToWrite old n new)
