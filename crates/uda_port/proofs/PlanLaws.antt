-- A turn is one of the cases of its plan.
use Rattle.std.proofs.lemmas.Bool.Decides.{nat_tests}
use Rattle.std.proofs.Common.{◌≡◌, ℕ, ◌<◌, false, List, length, Result, refl, sym, ap, subst, ◌∙◌, arith}
use Rattle.uda_packet.specs.declared.guest_command.GuestCommand.{GuestCommand}
use Rattle.uda_packet.specs.declared.reply.Reply.{Reply}
use Rattle.uda_disk.specs.Units.{Units}
use Rattle.uda_port.specs.MemoryUse.{TurnsAt}
use Rattle.uda_port.specs.Events.{Delivers}
use Rattle.uda_port.specs.Port.{PortState}
use Rattle.uda_port.specs.Fetch.{IsNext}
use Rattle.uda_port.specs.Startup.{failed_port}
use Rattle.uda_port.specs.declared.phase.Fatal.{Fatal}
use Rattle.uda_port.specs.declared.phase.Phase.{Phase}
use Rattle.uda_port.specs.declared.phase.Phase.TheVariants.{Running}
use Rattle.uda_port.specs.declared.turn.Turn.{Turn}
use Rattle.uda_port.specs.declared.plan.Plan.{Plan}
use Rattle.uda_port.specs.declared.phase.Fatal.TheVariants as fatal
use Rattle.uda_port.specs.declared.turn.Turn.TheVariants as did
use Rattle.uda_port.specs.declared.plan.Plan.TheVariants.{ToFetch, ToExecute, NoMessage, ToWait, ToDeliver}
use Rattle.uda_port.specs.Plan.{plan_of, Step, counted, stopped_polling, is_execution, is_executed, rest_turn, TurnIs, TurnCase, Rests, CommandRingLost, Unreadable, Exceeds, BadConnection, Fetches, Executes, DeliversEnd, Notifies, Waits, ResponseRingLost, NoRoom}
use Rattle.uda_port.specs.Turn.{Unchanged, TurnEffect, RunningTurn, NothingToFetch, NothingToDeliver, ExecutesOne, Fails, InFetch, InRest, port_with_message}
use Rattle.uda_port.proofs.TurnLaws.{attention_first, first_text}

-- ---- a turn is one of its cases

-- the effect of a turn in a phase
abbrev Goes : Step → Turn → Phase → Type 0
Goes s turn phase = TurnEffect phase s.old s.memory turn s.new s.memory_after

module _ (Is : ℕ → Type 0) (s : Step) where
  -- the pending command that a turn executed, of those that it may execute
  abbrev Picks : Turn → Type 0
  Picks turn = (j : ℕ) → ExecutesOne j (stopped_polling s) s.memory s.new s.memory_after → turn ≡ did.Executed
      → (k : ℕ) × (Is k × ExecutesOne k (stopped_polling s) s.memory s.new s.memory_after)

  -- the port failed, and nothing else changed
  failed : {cause : Fatal} (old : PortState) {before : PortState} → s.new ≡ failed_port before cause
      → Unchanged old s.memory before s.memory_after
      → Unchanged (failed_port old cause) s.memory s.new s.memory_after
  failed {cause = cause} old is same = record {
    state = is ∙ ap (λ (p : PortState). failed_port p cause) same.state;
    memory_stays = same.memory_stays;
  }

  died : (cause : Fatal) (before : PortState) → s.old.phase ≡ Running
      → Fails cause (counted s) s.memory before s.memory_after → s.new ≡ failed_port before cause
      → TurnCase Is did.Dead s
  died fatal.RingRead before runs (InFetch rule) is = CommandRingLost (assumption) rule.0 (failed _ is rule.1)
  died fatal.PacketRead before runs (InFetch rule) is = Unreadable (assumption) rule.0 (failed _ is rule.1)
  died fatal.CreditsExceeded before runs (InFetch rule) is = Exceeds (assumption) before rule is
  died fatal.InvalidConnection before runs (InFetch rule) is = BadConnection (assumption) before rule is
  died fatal.RingRead before runs (InRest goes) is =
      ResponseRingLost (assumption) (assumption) goes.rest.1.0 (failed _ is goes.rest.1.1)
  died fatal.PacketWrite before runs (InRest goes) is =
      NoRoom (assumption) (assumption) goes.rest.1.0 (failed _ is goes.rest.1.1)
  died _ before runs (InFetch rule) is = absurd rule
  died _ before runs (InRest goes) is = absurd goes.rest.1

  ran : (turn : Turn) → s.old.phase ≡ Running → RunningTurn s.old s.memory turn s.new s.memory_after → Picks turn
      → TurnCase Is turn s
  ran did.Fetched runs goes pick = Fetches (assumption) goes
  ran did.Executed runs goes pick =
      let k = pick goes.rest.0 goes.rest.1 refl in
      Executes (assumption) goes.nothing_to_fetch k.0 k.1.0 k.1.1
  ran did.Delivered runs goes pick = DeliversEnd (assumption) (assumption) goes.rest.1
  ran did.Notified runs goes pick = Notifies (assumption) (assumption) goes.rest.1
  ran did.Idle runs goes pick = Waits (assumption) (assumption) goes.rest.1.0 goes.rest.1.1
  ran did.Dead runs goes pick = died goes.cause goes.before runs goes.fails goes.died

  rested : (phase : Phase) (turn : Turn) → s.old.phase ≡ phase → Goes s turn phase → Picks turn
      → TurnCase Is turn s
  rested Running turn is goes pick = ran turn is goes pick
  rested _ turn is goes pick = Rests (λ runs. absurd (cc)) (goes.answer ∙ sym (ap rest_turn is)) goes.unchanged

  case_by : (turn : Turn) → Goes s turn s.old.phase → Picks turn → TurnCase Is turn s
  case_by turn goes pick = rested s.old.phase turn refl goes pick

-- any turn
abbrev pub AnyCase : Turn → Step → Type 0
AnyCase turn s = TurnCase (λ j. Unit {0}) turn s

pub case_of : (turn : Turn) (s : Step) → TurnEffect s.old.phase s.old s.memory turn s.new s.memory_after
    → AnyCase turn s
case_of turn s goes = case_by _ s turn goes (λ j x is. (j, (tt, x)))

-- ---- and each case is a turn

module _ (Is : ℕ → Type 0) (turn : Turn) (s : Step) where
  at_rest : (phase : Phase) → (phase ≡ Running → ⊥) → turn ≡ rest_turn phase
      → Unchanged s.old s.memory s.new s.memory_after → Goes s turn phase
  at_rest phase rests answer same = grind (arith, nat_tests)

  running : {wanted : Turn} → TurnIs wanted turn s.old → RunningTurn s.old s.memory wanted s.new s.memory_after
      → Goes s turn s.old.phase
  running {wanted = wanted} d goes = rw d.answer (subst (Goes s wanted) (sym d.runs) goes)

  dead : {cause : Fatal} (before : PortState) → TurnIs did.Dead turn s.old
      → Fails cause (counted s) s.memory before s.memory_after → s.new ≡ failed_port before cause
      → Goes s turn s.old.phase
  dead before d fails is = grind (arith, nat_tests)

  pub effect_of : TurnCase Is turn s → TurnEffect s.old.phase s.old s.memory turn s.new s.memory_after
  effect_of (Rests rests answer same) = at_rest s.old.phase rests answer same
  effect_of (CommandRingLost d line same) = dead (counted s) d (InFetch (assumption)) same.state
  effect_of (Unreadable d line same) = dead (counted s) d (InFetch (assumption)) same.state
  effect_of (Exceeds d before line is) = dead before d (InFetch line) is
  effect_of (BadConnection d before line is) = dead before d (InFetch line) is
  effect_of (Fetches d line) = running d line
  effect_of (Executes d nothing j is line) = running d (record { nothing_to_fetch = nothing; rest = (j, line) })
  effect_of (DeliversEnd d reaches line) = running d (assumption)
  effect_of (Notifies d reaches line) = running d (assumption)
  effect_of (Waits d reaches none same) = running d (assumption)
  effect_of (ResponseRingLost d reaches line same) = dead (stopped_polling s) d (InRest (assumption)) same.state
  effect_of (NoRoom d reaches line same) = dead (stopped_polling s) d (InRest (assumption)) same.state

-- ---- the plan of a turn

-- a command was pending that is executed
pub some_executed : (old : PortState) (memory : List ℕ) (j : ℕ) (new : PortState) (memory_after : List ℕ)
    → ExecutesOne j old memory new memory_after → 0 < length old.exec.pending
some_executed old memory j new memory_after x = grind (arith, nat_tests)

module _ (port : PortState) (memory : List ℕ) where
  pub plan_executes : port.phase ≡ Running → NothingToFetch port memory → 0 < length port.exec.pending
      → plan_of port memory ≡ ToExecute
  plan_executes runs nothing pending = grind arith

  module _ (runs : port.phase ≡ Running) (waits : Delivers port memory) where
    -- nothing is delivered: there is no message, or it waits
    pub data IsQuiet : Type 0 where
      NoneWaits : plan_of port memory ≡ NoMessage → IsQuiet
      Waiting : plan_of port memory ≡ ToWait → IsQuiet

    pub plan_quiet : NothingToDeliver port memory → IsQuiet
    plan_quiet nothing = grind (arith, nat_tests)

-- ---- a turn executes a command exactly if that is the plan

-- a message changes only the executor and the queue
pub message_keeps : (old : PortState) (m : Result GuestCommand Reply) → port_with_message old m
    ≡ record old { exec = (port_with_message old m).exec; waiting = (port_with_message old m).waiting }
message_keeps old m = grind arith

-- a message changes no unit
pub units_with : (old : PortState) (message : Result GuestCommand Reply)
    → (port_with_message old message).exec.units ≡ old.exec.units
units_with old message = grind arith

abbrev pub units_of : PortState → Units
units_of port = port.exec.units

-- a turn executed a command, as planned, or it didn't, and changed no unit
pub data Outcome (Is : ℕ → Type 0) (turn : Turn) (s : Step) : Type 0 where
  Executing : plan_of s.old s.memory ≡ ToExecute → turn ≡ did.Executed → (j : ℕ) → Is j
      → ExecutesOne j (stopped_polling s) s.memory s.new s.memory_after → Outcome Is turn s
  Other : is_execution (plan_of s.old s.memory) ≡ false → is_executed turn ≡ false → units_of s.new ≡ units_of s.old
      → Outcome Is turn s

module _ (Is : ℕ → Type 0) (turn : Turn) (s : Step) where
  pub outcome : TurnCase Is turn s → Outcome Is turn s
  outcome (Executes d nothing j is line) =
      Executing (plan_executes s.old s.memory d.runs nothing (some_executed _ _ _ _ _ line)) d.answer j is line
  outcome (Rests rests answer same) = Other (grind arith) (grind arith) (rw same.state)
  outcome (CommandRingLost d line same) = Other (grind arith) (rw d.answer) (rw same.state)
  outcome (Unreadable d line same) = Other (grind arith) (rw d.answer) (rw same.state)
  outcome (Exceeds d before line is) = Other (grind arith) (rw d.answer) (rw (is, line.taken.others))
  outcome (BadConnection d before line is) = Other (grind arith) (rw d.answer) (rw (is, line.taken.others))
  outcome (Fetches d line) = Other (grind arith) (rw d.answer) (rw line.others (units_with (counted s) _))
  outcome (DeliversEnd d reaches line) = Other (grind (arith, first_text)) (rw d.answer) (rw line.others)
  outcome (Notifies d reaches line) = Other (grind (arith, attention_first)) (rw d.answer) (rw line.others)
  outcome (Waits d reaches none same) = elim (plan_quiet _ _ d.runs reaches none) [
    | NoneWaits plan ↦ Other (rw plan) (rw d.answer) (rw same.state)
    | Waiting plan ↦ Other (rw plan) (rw d.answer) (rw same.state)
  ]
  outcome (ResponseRingLost d reaches line same) = Other (grind arith) (rw d.answer) (rw same.state)
  outcome (NoRoom d reaches line same) = Other (grind arith) (rw d.answer) (rw same.state)

-- ---- a turn that executes the command at an index, if it executes one

abbrev pub step_of : PortState × List ℕ → PortState × List ℕ → Step
step_of before after = record { old = before.0; memory = before.1; new = after.0; memory_after = after.1 }

pub case_at : (place : ℕ) (before : PortState × List ℕ) (turn : Turn) (after : PortState × List ℕ)
    → TurnsAt place before turn after → TurnCase (λ k. k ≡ place) turn (step_of before after)
case_at place before turn after it =
    case_by _ _ turn it.goes (λ k x is. (place, (refl, it.executes is)))

pub turns_at : (place : ℕ) (before : PortState × List ℕ) (turn : Turn) (after : PortState × List ℕ)
    → TurnCase (λ k. k ≡ place) turn (step_of before after) → TurnsAt place before turn after
turns_at place before turn after c = record {
  goes = effect_of _ _ _ c;
  executes = λ executed. elim (outcome _ _ _ c) [
    | Executing plan is j at x ↦ rw at at x
    | Other none never units ↦ absurd (cc)
  ];
}

-- ---- what follows from a plan

-- the port runs, and a command is pending
pub record IsExecution (port : PortState) : Type 0 where
  pub runs : port.phase ≡ Running
  pub pending : 0 < length port.exec.pending

abbrev pub Follows : PortState → List ℕ → Plan → Type 0
Follows port memory (ToFetch d) = IsNext port.commands memory d
Follows port memory ToExecute = IsExecution port
Follows port memory (ToDeliver d n) = IsNext port.responses memory d
Follows port memory _ = Unit {0}

module _ (port : PortState) (memory : List ℕ) where
  abbrev Here : Plan → Type 0
  Here plan = Follows port memory plan

  pub follows : Here (plan_of port memory)
  follows = grind (arith, nat_tests)

  pub execution : plan_of port memory ≡ ToExecute → IsExecution port
  execution is = subst Here is follows
