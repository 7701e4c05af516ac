-- The causes of fatal errors, from the effect of each event.
use Rattle.std.proofs.lemmas.Bool.Decides.{nat_tests}
use Rattle.std.proofs.Common.{◌≡◌, ◌≢◌, ℕ, ◌⊎◌, inl, inr, List, [], ◌∷◌, refl, ap, arith}
use Rattle.std.proofs.lemmas.List.Elements.{All-nil, All-cons, All-head, All-tail}
use Rattle.uda_port.specs.declared.phase.Phase.{Phase}
use Rattle.uda_port.specs.declared.phase.Fatal.{Fatal}
use Rattle.uda_port.specs.declared.turn.Turn.{Turn}
use Rattle.uda_port.specs.declared.play.HostEvent.{HostEvent}
use Rattle.uda_port.specs.declared.phase.Phase.TheVariants.{Running, Dead}
use Rattle.uda_port.specs.declared.play.HostEvent.TheVariants.{WriteIp, WriteSa, Turn as TurnEvent}
use Rattle.uda_port.specs.Port.{PortState}
use Rattle.uda_port.specs.Startup.{after_sa_write}
use Rattle.uda_port.specs.Plan.{Step, counted}
use Rattle.uda_port.proofs.PlanLaws.{AnyCase, case_of, step_of}
use Rattle.uda_port.specs.Events.{EventEffect, EventsEffect, FatalTurn, FatalWord, MeetsCause, LeavesIp, DiedAtEvent, StaysDead, DeathHasCause}

-- ---- a word of initialization

module _ (cause : Fatal) (word : ℕ) (old new : PortState) (memory : List ℕ) (dead : new.phase ≡ Dead cause) where
  abbrev IsFatal : Type 0
  IsFatal = FatalWord cause word old memory

  -- a port that is dead after a word was dead before it, or the word was fatal
  fatal_word : (p : Phase) {after : List ℕ} → old.phase ≡ p → (new, after) ≡ after_sa_write p old memory word
      → (old.phase ≡ Dead cause) ⊎ IsFatal
  fatal_word p x1 is = grind (arith, nat_tests)

-- ---- a turn

module _ (cause : Fatal) (turn : Turn) (s : Step) (dead : s.new.phase ≡ Dead cause) where
  abbrev Met : Type 0
  Met = (s.old.phase ≡ Dead cause) ⊎ ((s.old.phase ≡ Running) × FatalTurn cause (counted s) s.memory)

  -- a port that is dead after a turn was dead before it, or the turn met a cause
  fatal_turn : AnyCase turn s → Met
  fatal_turn x0 = grind (arith, nat_tests)

-- ---- an event, and events

module _ (cause : Fatal) (old new : PortState) (memory memory_after : List ℕ) where
  -- A port that is dead after an event met a cause in it, or was dead before and the event isn't a write to IP.
  fatal_event : (event : HostEvent) → EventEffect event old memory new memory_after → new.phase ≡ Dead cause
      → ((event ≢ WriteIp) × (old.phase ≡ Dead cause)) ⊎ MeetsCause cause event old memory
  fatal_event (WriteSa word) goes dead =
      elim (fatal_word cause word old new memory dead old.phase refl goes)
      [ inl was ↦ inl ((λ is. cc), was) | inr met ↦ inr met ]
  fatal_event TurnEvent goes dead =
      let s = step_of (old, memory) (new, memory_after) in
      elim (fatal_turn cause goes.0 s dead (case_of goes.0 s goes.1))
      [ inl was ↦ inl ((λ is. cc), was) | inr met ↦ inr met ]
  fatal_event _ goes dead = grind arith

  -- a dead port remains dead until IP is written
  dead_event : (event : HostEvent) → EventEffect event old memory new memory_after → event ≢ WriteIp
      → old.phase ≡ Dead cause → new.phase ≡ Dead cause
  dead_event event goes other dead = grind (arith, nat_tests)

module _ (cause : Fatal) (new : PortState) (memory_after : List ℕ) where
  dies : (events : List HostEvent) (old : PortState) (memory : List ℕ)
      → EventsEffect events old memory new memory_after → new.phase ≡ Dead cause
      → StaysDead cause events old ⊎ DiedAtEvent cause events (old, memory) (new, memory_after)
  dies [] old memory played dead = inl (record { was = rw played.state at dead; leaves_ip = All-nil _ })
  dies (event ∷ rest) old memory played dead = elim (dies rest played.0.0 played.0.1 played.2 dead) [
    | inl later ↦ elim (fatal_event cause old played.0.0 memory played.0.1 event played.1 later.was) [
      | inl was ↦ inl (record { was = was.1; leaves_ip = All-cons (λ e. e ≢ WriteIp) event rest was.0 later.leaves_ip })
      | inr met ↦ inr (record {
        before = [];
        fatal = event;
        rest = rest;
        are = refl;
        found = (old, memory);
        led_there = record { state = refl; memory_stays = refl };
        left = played.0;
        kills = record { meets = met; goes = played.1; dead = later.was };
        led_on = played.2;
        leaves_ip = later.leaves_ip;
      })
    ]
    | inr later ↦ inr (record {
      before = event ∷ later.before;
      fatal = later.fatal;
      rest = later.rest;
      are = ap (λ (events : List HostEvent). event ∷ events) later.are;
      found = later.found;
      led_there = (played.0, played.1, later.led_there);
      left = later.left;
      kills = later.kills;
      led_on = later.led_on;
      leaves_ip = later.leaves_ip;
    })
  ]

  stays : (events : List HostEvent) (old : PortState) (memory : List ℕ)
      → EventsEffect events old memory new memory_after → old.phase ≡ Dead cause → LeavesIp events
      → new.phase ≡ Dead cause
  stays [] old memory played dead leaves = rw played.state dead
  stays (event ∷ rest) old memory played dead leaves =
      stays rest played.0.0 played.0.1 played.2
      (dead_event cause old played.0.0 memory played.0.1 event played.1
      (All-head (λ e. e ≢ WriteIp) event rest leaves) dead)
      (All-tail (λ e. e ≢ WriteIp) event rest leaves)

pub death_has_cause : (events : List HostEvent) (old : PortState) (memory : List ℕ) (new : PortState)
    (memory_after : List ℕ) → EventsEffect events old memory new memory_after
    → DeathHasCause events old memory new memory_after
death_has_cause events old memory new memory_after played = record {
  dies = λ cause dead. dies cause new memory_after events old memory played dead;
  stays = λ cause was. stays cause new memory_after events old memory played was.was was.leaves_ip;
}
