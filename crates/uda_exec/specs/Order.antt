-- Eligibility of pending commands, and the effect of a list of commands in order and out of order.
-- MSCP Basic Disk Functions Manual: command ordering.
use Rattle.std.specs.Prelude.{◌≡◌, ℕ, ◌<◌, Bool, true, false, ◌&&◌, ◌||◌, not, nat_eq, List, [], ◌∷◌, ◌++◌}
use Rattle.std.specs.Prelude.{length, map, Some, slice_get, All, AllPairs, if◌then◌else◌}
use Rattle.uda_mem.specs.Put.{put, Overlap}
use Rattle.uda_packet.specs.declared.command.Command.{Command}
use Rattle.uda_packet.specs.declared.end.End.{End}
use Rattle.uda_disk.specs.Disk.{Disks}
use Rattle.uda_disk.specs.Request.{Request}
use Rattle.uda_disk.specs.RequestEffect.{TransferOutcome}
use Rattle.uda_disk.specs.Runs.{runs, runs_first}
use Rattle.uda_disk.specs.Order.{clash}
use Rattle.uda_exec.specs.Commands.{is_controller, is_transfer, act_of, request_asked, buffer_start, buffer_length}
use Rattle.uda_exec.specs.Effect.{World, effect}

-- two commands are for one unit; Set Controller Characteristics commands count as commands for a unit of
-- their own
abbrev pub same_unit : Command → Command → Bool
same_unit c d =
    if is_controller c.op then is_controller d.op else not (is_controller d.op) && nat_eq c.unit d.unit

-- a command may overtake an older one of another unit, and a transfer may overtake a transfer
abbrev pub command_may_overtake : Command → Command → Bool
command_may_overtake older c = not (same_unit older c) || (is_transfer older.op && is_transfer c.op)

-- the command at index j is eligible: it may overtake every older one
pub record IsEligible (pending : List Command) (j : ℕ) : Type 0 where
  pub stands : j < length pending
  pub may_overtake : (i : ℕ) (older c : Command) → i < j → slice_get pending i ≡ Some older
      → slice_get pending j ≡ Some c → command_may_overtake older c ≡ true

-- two commands are independent: whatever memory contains, their requests don't conflict; and their buffers
-- share no byte
pub record AreIndependent (c d : Command) : Type 0 where
  pub no_clash : (memory : List ℕ) (r s : Request) → request_asked c memory ≡ Some r
      → request_asked d memory ≡ Some s → clash r s ≡ false
  pub no_overlap : Overlap (buffer_start c.op) (buffer_length c.op) (buffer_start d.op) (buffer_length d.op) → ⊥

-- a command with a fixed outcome
pub record FixedCommand : Type 0 where
  pub command : Command
  pub outcome : TransferOutcome

abbrev pub commands_of : List FixedCommand → List Command
commands_of xs = map (λ x. x.command) xs

abbrev pub effect_of : FixedCommand → World → End × World
effect_of x w = effect x.outcome x.command w

-- the effect of a list of commands in order: each end message at its command's index, and the world
-- afterwards
abbrev pub effects : List FixedCommand → World → List End × World
effects xs w = runs effect_of xs w

-- the same with this x, which is at index j, executed first
abbrev pub effects_first : ℕ → FixedCommand → List FixedCommand → World → List End × World
effects_first j x xs w = runs_first effect_of j x xs w

-- whichever eligible command is executed first, each end message, the units and memory are the same
abbrev pub OrderIsIrrelevant : Type 0
OrderIsIrrelevant =
    (xs : List FixedCommand) (j : ℕ) (x : FixedCommand) (w : World)
    → AllPairs AreIndependent (commands_of xs) → IsEligible (commands_of xs) j → slice_get xs j ≡ Some x
    → effects_first j x xs w ≡ effects xs w

-- executing a list and then one more command is executing the longer list
abbrev pub OneMore : Type 0
OneMore =
    (xs : List FixedCommand) (x : FixedCommand) (w : World)
    → effects (xs ++ x ∷ []) w
    ≡ ((effects xs w).0 ++ (effect_of x (effects xs w).1).0 ∷ [], (effect_of x (effects xs w).1).1)

-- bytes at this address overlap no buffer of the commands
abbrev pub IsBeside : ℕ → ℕ → List FixedCommand → Type 0
IsBeside at n xs = All (λ x. Overlap at n (buffer_start x.command.op) (buffer_length x.command.op) → ⊥) xs

abbrev pub with_bytes : World → ℕ → List ℕ → World
with_bytes w at bytes = record w { memory = put w.memory at bytes }

-- bytes written to memory outside all buffers of a list don't affect the list
abbrev pub PassesThrough : Type 0
PassesThrough =
    (xs : List FixedCommand) (at : ℕ) (bytes : List ℕ) (w : World) → IsBeside at (length bytes) xs
    → effects xs (with_bytes w at bytes) ≡ ((effects xs w).0, with_bytes (effects xs w).1 at bytes)

-- in two memories of one length the commands of a list have the same requests
pub record SameData (xs : List FixedCommand) (memory other : List ℕ) : Type 0 where
  pub same_length : length memory ≡ length other
  pub same_acts : All (λ x. act_of x.command.op memory ≡ act_of x.command.op other) xs

-- the end messages and the units of a list depend on no byte of memory outside its Writes' buffers
abbrev pub DependsOnDataAlone : Type 0
DependsOnDataAlone =
    (xs : List FixedCommand) (memory other : List ℕ) (disks : Disks) → SameData xs memory other
    → (((effects xs (record { memory = memory; disks = disks })).0
    ≡ (effects xs (record { memory = other; disks = disks })).0)
    × ((effects xs (record { memory = memory; disks = disks })).1.disks
    ≡ (effects xs (record { memory = other; disks = disks })).1.disks))
