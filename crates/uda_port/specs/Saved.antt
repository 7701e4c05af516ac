-- The state of a port as a plain value, without its stores and counts, and a port that continues from one.
-- UDA50 Programmer's Documentation Kit: port registers, communication area, credits.
use Rattle.std.specs.Prelude.{◌≡◌, ℕ, ◌+◌, ◌==◌, nat_le, nat_lt, Bool, true, false, ◌&&◌, ◌||◌, List, ◌∷◌, length}
use Rattle.std.specs.Prelude.{if◌then◌else◌, not, Result, Ok, Err}
use Rattle.uda_packet.specs.declared.guest_command.GuestOp.{GuestOp}
use Rattle.uda_exec.specs.Disks.{ExecState, PENDING_LIMIT}
use Rattle.uda_exec.specs.Drives.{drives_in}
use Rattle.uda_exec.specs.Saved.{saved_exec, exec_fits, exec_restored}
use Rattle.uda_port.specs.declared.play.HostEvent.{HostEvent}
use Rattle.uda_port.specs.declared.profile.Profile.{Profile}
use Rattle.uda_port.specs.declared.profile.Profile.TheVariants.{Strict}
use Rattle.uda_port.specs.declared.turn.Turn.{Turn}
use Rattle.uda_port.specs.declared.saved.Saved.{Saved}
use Rattle.uda_port.specs.declared.saved.RestoreError.{RestoreError}
use Rattle.uda_port.specs.declared.saved.RestoreError.TheVariants.{Inconsistent, OtherDrives}
use Rattle.uda_port.specs.Port.{PortState}
use Rattle.uda_port.specs.Possible.{has_run, has_phase, can_interrupt, rings_fit, guest_fits, queue_fits, is_first_position}
use Rattle.uda_port.specs.Turn.{TurnEffect}
use Rattle.uda_port.specs.Events.{EventsEffect}

-- the whole state, without the stores and the counts; of the counts only whether an end message was delivered
abbrev pub saved_port : PortState → Saved
saved_port port = record {
  profile = port.profile;
  phase = port.phase;
  begun = nat_lt 0 port.deliveries;
  responses = port.responses;
  commands = port.commands;
  waiting = record { items = port.waiting };
  polling = port.polling;
  credits = port.credits;
  interrupts = port.interrupts;
  guest = port.guest;
  exec = saved_exec port.exec;
}

-- the number of pending commands and queued end messages
abbrev pub outstanding : Saved → ℕ
outstanding saved = length saved.exec.pending.items + length saved.waiting.items

-- the credits of a host that has nothing outstanding: 15 if an end message has granted them, and before that
-- 1
abbrev pub credits_due : Bool → ℕ
credits_due begun = if begun then PENDING_LIMIT else 1

-- a strict port lists no additional operations
abbrev pub lists_ops : Profile → List GuestOp → Bool
lists_ops Strict (op ∷ more) = true
lists_ops profile ops = false

-- the profile has the operations that are listed, and the end messages that are queued
abbrev pub profile_fits : Saved → Bool
profile_fits saved =
    not (lists_ops saved.profile saved.exec.guest_ops.items)
    && queue_fits saved.profile saved.waiting.items

-- until it runs, a port doesn't poll, and nothing was fetched
abbrev pub has_no_work : Saved → Bool
has_no_work saved =
    not saved.polling && (not saved.begun && ((outstanding saved == 0) && is_first_position saved.exec.position))

-- each granted credit is the host's or was used for an outstanding command, and only a port that ran has work
abbrev pub work_fits : Saved → Bool
work_fits saved =
    (saved.credits + outstanding saved == credits_due saved.begun)
    && (has_run saved.phase || has_no_work saved)

-- a port can have this state
abbrev pub is_consistent : Saved → Bool
is_consistent saved =
    has_phase saved.profile saved.phase
    && (can_interrupt saved.profile saved.phase saved.interrupts
    && (rings_fit saved.profile saved.phase saved.responses saved.commands
    && (guest_fits saved.profile saved.phase saved.guest && (work_fits saved && profile_fits saved))))

-- what every port has: a state that is accepted
abbrev pub HasPossibleState : PortState → Type 0
HasPossibleState port = is_consistent (saved_port port) ≡ true

-- the deliveries that the credits require, at least
abbrev pub least_deliveries : Bool → ℕ
least_deliveries begun = if begun then 1 else 0

-- The port that continues from the saved state, with the drives of an executor. Its counts are the least that
-- agree with its credits.
abbrev pub port_restored : Saved → ExecState → PortState
port_restored saved exec = record {
  profile = saved.profile;
  phase = saved.phase;
  exec = exec_restored saved.exec exec;
  responses = saved.responses;
  commands = saved.commands;
  waiting = saved.waiting.items;
  polling = saved.polling;
  credits = saved.credits;
  interrupts = saved.interrupts;
  turns = 0;
  fetches = least_deliveries saved.begun + outstanding saved;
  deliveries = least_deliveries saved.begun;
  load = 0;
  guest = saved.guest;
}

-- a port with these drives can continue from the saved state
pub record IsRestorable (saved : Saved) (exec : ExecState) : Type 0 where
  pub consistent : is_consistent saved ≡ true
  pub drives : exec_fits saved.exec exec ≡ true

-- the reason why it can't
abbrev pub IsNotRestorable : RestoreError → Saved → ExecState → Type 0
IsNotRestorable Inconsistent saved exec = is_consistent saved ≡ false
IsNotRestorable OtherDrives saved exec =
    (is_consistent saved ≡ true) × (exec_fits saved.exec exec ≡ false)

-- the effect of a restore: the first check that fails decides, and then nothing changes
abbrev pub RestoreEffect : Saved → PortState → Result Unit RestoreError → PortState → Type 0
RestoreEffect saved old (Ok done) new = IsRestorable saved old.exec × (new ≡ port_restored saved old.exec)
RestoreEffect saved old (Err cause) new = IsNotRestorable cause saved old.exec × (new ≡ old)

-- ---- the law

-- the counts of a port since initialization, which only contracts read
pub record Counts : Type 0 where
  pub turns : ℕ
  pub fetches : ℕ
  pub deliveries : ℕ
  pub load : ℕ

abbrev pub with_counts : Counts → PortState → PortState
with_counts k port =
    record port { turns = k.turns; fetches = k.fetches; deliveries = k.deliveries; load = k.load }

-- two ports differ only in their counts, and both have delivered an end message or neither has
pub record SameButCounts (a b : PortState) : Type 0 where
  pub counts : Counts
  pub same : b ≡ with_counts counts a
  pub begun : nat_lt 0 counts.deliveries ≡ nat_lt 0 a.deliveries

-- with the drives that it had, a port is restored as it was saved, except for its counts
pub record RestoresPort (port : PortState) (exec : ExecState) : Type 0 where
  pub drives : exec_fits (saved_port port).exec exec ≡ true
  pub same : SameButCounts port (port_restored (saved_port port) exec)

abbrev pub RestoredIsSaved : Type 0
RestoredIsSaved =
    (port : PortState) (exec : ExecState)
    → nat_le (length port.exec.guest_ops) (length port.exec.pending) ≡ true
    → drives_in exec.units ≡ drives_in port.exec.units → RestoresPort port exec

-- another port can take the same turn, and leaves the same memory
pub record TakesSameTurn (b : PortState) (memory : List ℕ) (turn : Turn) (new : PortState)
    (memory_after : List ℕ) : Type 0 where
  pub left : PortState
  pub effect : TurnEffect b.phase b memory turn left memory_after
  pub same : SameButCounts new left

-- the same of a list of events
pub record HasSameEffect (events : List HostEvent) (b : PortState) (memory : List ℕ) (new : PortState)
    (memory_after : List ℕ) : Type 0 where
  pub left : PortState
  pub effect : EventsEffect events b memory left memory_after
  pub same : SameButCounts new left

-- ports that differ only in their counts have the same future
pub record SameFuture : Type 0 where
  pub turns : (a b : PortState) (memory : List ℕ) (turn : Turn) (new : PortState) (memory_after : List ℕ)
      → SameButCounts a b → TurnEffect a.phase a memory turn new memory_after
      → TakesSameTurn b memory turn new memory_after
  pub events : (events : List HostEvent) (a b : PortState) (memory : List ℕ) (new : PortState)
      (memory_after : List ℕ) → SameButCounts a b → EventsEffect events a memory new memory_after
      → HasSameEffect events b memory new memory_after
