-- The state of a host for its callers, and the effect of a post and of a turn.
-- UDA50 Programmer's Documentation Kit: command and response rings, credits.
use Rattle.std.specs.Prelude.{◌≡◌, ℕ, ◌+◌, ◌-◌, ◌*◌, ◌<◌, ◌≤◌, List, [], ◌∷◌, ◌++◌, length, Option, Some}
use Rattle.std.specs.Prelude.{None}
use Rattle.uda_packet.specs.declared.command.Command.{Command}
use Rattle.uda_packet.specs.declared.end.End.{End}
use Rattle.uda_disk.specs.Units.{UnitState}
use Rattle.uda_exec.specs.Disks.{PENDING_LIMIT, basic_exec}
use Rattle.uda_exec.specs.Execution.{Executes, ExecutesAt}
use Rattle.uda_exec.specs.Transfers.{ChangesAt}
use Rattle.uda_port.specs.declared.phase.Phase.{Phase}
use Rattle.uda_port.specs.declared.phase.Phase.TheVariants.{Running}
use Rattle.uda_port.specs.Port.{next_grant}
use Rattle.uda_host.specs.Layout.{buffers_start, memory_size}

-- The port's phase. The memory, of which callers know the buffers. The units. The posted commands that aren't
-- executed yet, in the order of their posts. The end messages that the host hasn't received yet, the next one
-- first. The credits. Then four counts since initialization: turns, fetched commands, received end messages,
-- and the load.
pub record HostState : Type 0 where
  pub phase : Phase
  pub memory : List ℕ
  pub units : List (Option UnitState)
  pub due : List Command
  pub waiting : List End
  pub credits : ℕ
  pub turns : ℕ
  pub fetches : ℕ
  pub taken : ℕ
  pub load : ℕ

-- the number of outstanding commands: posted, and their end messages not received
abbrev pub outstanding_count : HostState → ℕ
outstanding_count host = length host.due + length host.waiting

-- the turns until every end message is received: three for each posted command, less those that were run
abbrev pub turns_left : HostState → ℕ
turns_left host = 3 * (host.taken + outstanding_count host) - host.turns

-- every buffer is unchanged: all writes are below them
pub record BuffersStay (memory after : List ℕ) : Type 0 where
  pub below : ChangesAt memory 0 buffers_start after

-- a command is posted
pub record Posts (c : Command) (old new : HostState) : Type 0 where
  pub buffers : BuffersStay old.memory new.memory
  pub is : new ≡ record old { memory = new.memory; due = old.due ++ c ∷ []; credits = old.credits - 1 }

-- ---- a turn

-- the port fetches a command, and nothing else changes
pub record Fetches (old new : HostState) : Type 0 where
  pub buffers : BuffersStay old.memory new.memory
  pub is : new ≡ record old { memory = new.memory; turns = old.turns + 1; fetches = old.fetches + 1 }

-- one of the posted commands is executed, and its end message is queued last
pub record ExecutesPending (old new : HostState) : Type 0 where
  pub place : ℕ
  pub end : End
  pub executes :
      ExecutesAt place (basic_exec old.units old.due) old.memory end (basic_exec new.units new.due) new.memory
  pub is :
      new
      ≡ record old {
        memory = new.memory;
        units = new.units;
        due = new.due;
        waiting = old.waiting ++ end ∷ [];
        turns = old.turns + 1;
        load = old.load + length old.due;
      }

-- every posted command is executed, and the first queued end message is received: it grants credits
pub record TakesEnd (old : HostState) (end : End) (new : HostState) : Type 0 where
  pub none_due : old.due ≡ []
  pub waited : old.waiting ≡ end ∷ new.waiting
  pub buffers : BuffersStay old.memory new.memory
  pub is :
      new
      ≡ record old {
        memory = new.memory;
        waiting = new.waiting;
        credits = old.credits + next_grant old.taken;
        turns = old.turns + 1;
        taken = old.taken + 1;
      }

-- a turn without an end message
pub data TurnWithoutEnd (old new : HostState) : Type 0 where
  OneFetched : Fetches old new → TurnWithoutEnd old new
  OneDone : ExecutesPending old new → TurnWithoutEnd old new

-- the effect of a turn, by the received end message
abbrev pub StepEffect : HostState → Option End → HostState → Type 0
StepEffect old None new = TurnWithoutEnd old new
StepEffect old (Some end) new = TakesEnd old end new

-- ---- the counts

-- The invariant of a host's counts. Each used credit belongs to an outstanding command. A command was fetched
-- before it was executed. Each turn was a fetch, an execution or a received end message.
pub record IsConsistent (host : HostState) : Type 0 where
  pub runs : host.phase ≡ Running
  pub size : length host.memory ≡ memory_size
  pub credits_are : 0 < host.taken → host.credits + outstanding_count host ≡ PENDING_LIMIT
  pub done_were_fetched : host.taken + length host.waiting ≤ host.fetches
  pub fetched_were_posted : host.fetches ≤ host.taken + outstanding_count host
  pub turns_are : host.turns ≡ host.fetches + (host.taken + length host.waiting) + host.taken

-- no command is outstanding
pub record IsIdle (host : HostState) : Type 0 where
  pub none_due : host.due ≡ []
  pub none_wait : host.waiting ≡ []

-- a host right after initialization with these units: its own command has ended, and it has all credits
pub record IsStarted (units : List (Option UnitState)) (host : HostState) : Type 0 where
  pub idle : IsIdle host
  pub units_are : host.units ≡ units
  pub credits_are : host.credits ≡ PENDING_LIMIT
  pub one_taken : host.taken ≡ 1

-- one command was executed, and nothing else
pub record ExecutedAlone (old : HostState) (c : Command) (end : End) (new : HostState) : Type 0 where
  pub before : List ℕ
  pub after : List ℕ
  pub buffers_before : BuffersStay old.memory before
  pub executes : Executes c old.units before end new.units after
  pub buffers_after : BuffersStay after new.memory
  pub idle : IsIdle new
  pub credits_are : new.credits ≡ old.credits - 1 + next_grant old.taken
  pub one_taken : new.taken ≡ old.taken + 1
