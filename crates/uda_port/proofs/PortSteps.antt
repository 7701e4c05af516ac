-- The invariant of a port after a change of its phase.
use Rattle.std.proofs.lemmas.Bool.Decides.{nat_tests}
use Rattle.std.proofs.Common.{◌≡◌, ◌≢◌, ℕ, ◌+◌, ◌*◌, ◌≤◌, ◌<◌, ◌⊎◌, true, false, List, Option, None, arith}
use Rattle.uda_packet.specs.declared.guest_end.Identity.{Identity}
use Rattle.uda_port.specs.declared.interrupt.Interrupts.{Interrupts}
use Rattle.uda_port.specs.declared.phase.Fatal.{Fatal}
use Rattle.uda_port.specs.declared.phase.Fatal.TheVariants.{RingWrite, InitializationError, RingRead, CreditsExceeded}
use Rattle.uda_port.specs.declared.phase.Phase.{Phase}
use Rattle.uda_port.specs.declared.phase.Phase.TheVariants.{Step1, Step2, Step3, Wrap, PurgeTest, PollTest, Step4, Running, Dead}
use Rattle.uda_port.specs.declared.port.Port.TheInside.{Inside}
use Rattle.uda_port.specs.declared.profile.Profile.{Profile}
use Rattle.uda_port.specs.declared.profile.Profile.TheVariants.{Strict, Compatible}
use Rattle.uda_port.specs.Interrupt.{raised_by_step, raised, interrupts_asked, noted}
use Rattle.uda_port.specs.PortInvariant.{PortInvariant, IsPossible}
use Rattle.uda_port.specs.Port.{PortState, port_after_ip_read}
use Rattle.uda_port.specs.Possible.{has_run, CanDie, is_step_3, can_interrupt, rings_fit, addresses_by, guest_fits, queue_fits, HasNoWork}
use Rattle.uda_port.specs.Ring.{RingState}
use Rattle.uda_port.specs.Startup.{has_bit, refuses_second, refuses_third, asks_test, after_sa_write}
use Rattle.uda_port.proofs.PossibleLaws.{same_guest, by_death, by_step, by_indicator, rings_move}

-- ---- death

pub dies : {S : Type 0} (p : Inside S) (cause : Fatal) → CanDie p.profile p.phase cause → PortInvariant p
    → PortInvariant (record p { phase = Dead cause; interrupts = raised p.profile p.interrupts })
dies p cause can is =
    grind (arith, by_death)

-- ---- the first word

pub takes_first : {S : Type 0} (p : Inside S) (word : ℕ) → p.phase ≡ Step1 → has_bit word 15 ≡ true
    → has_bit word 14 ≡ false → PortInvariant p
    → PortInvariant (record p {
      phase = Step2 word;
      interrupts = raised_by_step p.profile (interrupts_asked p.profile p.interrupts word);
    })
takes_first p word step one two is = grind (arith, nat_tests)

pub wraps : {S : Type 0} (p : Inside S) (word : ℕ) (identity : Identity) → p.phase ≡ Step1
    → p.profile ≡ Compatible identity → PortInvariant p
    → PortInvariant (record p { phase = Wrap word })
wraps p word identity step guest is = grind (arith, nat_tests)

pub wraps_again : {S : Type 0} (p : Inside S) (before word : ℕ) → p.phase ≡ Wrap before → PortInvariant p
    → PortInvariant (record p { phase = Wrap word })
wraps_again p before word step is = grind (arith, nat_tests)

-- ---- the second word

pub takes_second : {S : Type 0} (p : Inside S) (first word : ℕ) → p.phase ≡ Step2 first
    → refuses_second p.profile word ≡ false → PortInvariant p
    → PortInvariant (record p { phase = Step3 first word; interrupts = raised_by_step p.profile p.interrupts })
takes_second p first word step taken is = grind (arith, nat_tests)

-- ---- the tests

pub passes_purge : {S : Type 0} (p : Inside S) → p.phase ≡ PurgeTest → PortInvariant p
    → PortInvariant (record p { phase = PollTest })
passes_purge p step is = grind (arith, nat_tests)

pub passes_poll : {S : Type 0} (p : Inside S) → p.phase ≡ PollTest → PortInvariant p
    → PortInvariant (record p { phase = Step4; interrupts = raised_by_step p.profile p.interrupts })
passes_poll p step is = grind (arith, nat_tests)

-- ---- before the third word a strict port can die of a feature that it doesn't have, and any port of its rings

pub second_refused : (profile : Profile) (phase : Phase) (first word : ℕ) → phase ≡ Step2 first
    → refuses_second profile word ≡ true → CanDie profile phase InitializationError
second_refused profile phase first word step refused = grind (arith, nat_tests)

pub third_refused : (profile : Profile) (phase : Phase) (first second word : ℕ) → phase ≡ Step3 first second
    → refuses_third profile word ≡ true → CanDie profile phase InitializationError
third_refused profile phase first second word step refused = grind (arith, nat_tests)

pub area_refused : (profile : Profile) (phase : Phase) (first second : ℕ) → phase ≡ Step3 first second
    → CanDie profile phase RingWrite
area_refused profile phase first second step = grind (arith, nat_tests)

-- ---- the third word sets the rings

third_interrupts : (profile : Profile) (phase : Phase) (i : Interrupts) → is_step_3 phase ≡ true
    → can_interrupt profile phase i ≡ true → can_interrupt profile Step4 i ≡ true
third_interrupts profile phase i step is = grind (arith, nat_tests)

not_run_in_3 : (phase : Phase) → is_step_3 phase ≡ true → has_run phase ≡ false
not_run_in_3 phase step = grind (arith, nat_tests)

-- two rings that follow the third word
pub record AreSet (profile : Profile) (responses commands : RingState) : Type 0 where
  pub above : 4 ≤ responses.base
  pub within : responses.base < addresses_by profile
  pub next : commands.base ≡ responses.base + 4 * responses.count
  pub first : responses.place ≡ 0
  pub second : commands.place ≡ 0

set_fit : (profile : Profile) (responses commands : RingState) → AreSet profile responses commands
    → rings_fit profile Step4 responses commands ≡ true
set_fit profile responses commands set = grind (arith, nat_tests)

pub enters_step_4 : {S : Type 0} (p : Inside S) (responses commands : RingState) → is_step_3 p.phase ≡ true
    → AreSet p.profile responses commands → PortInvariant p
    → PortInvariant (record p {
      phase = Step4;
      interrupts = raised_by_step p.profile p.interrupts;
      responses = responses;
      commands = commands;
    })
enters_step_4 p responses commands step set is =
    grind (arith, not_run_in_3, same_guest, by_step, third_interrupts, set_fit)

pub enters_test : {S : Type 0} (p : Inside S) (responses commands : RingState) (word : ℕ)
    → is_step_3 p.phase ≡ true → AreSet p.profile responses commands → asks_test p.profile word ≡ true
    → PortInvariant p
    → PortInvariant (record p { phase = PurgeTest; responses = responses; commands = commands })
enters_test p responses commands word step set asks is =
    grind (arith, not_run_in_3, same_guest, third_interrupts, set_fit)

-- ---- a running port

-- A port that goes on running moves the indices of its rings only, and a ring transition may raise a request.
pub runs_on : {S : Type 0} {p : Inside S} (indicator : Option ℕ) → PortInvariant p → p.phase ≡ Running
    → (q : Inside S) → q.profile ≡ p.profile → q.phase ≡ p.phase → q.interrupts ≡ noted indicator p.profile p.interrupts
    → q.responses.base ≡ p.responses.base → q.responses.count ≡ p.responses.count
    → q.commands.base ≡ p.commands.base → guest_fits p.profile p.phase q.guest ≡ true
    → queue_fits p.profile q.waiting.items ≡ true → IsPossible q
runs_on {p = p} indicator is runs q profile phase notes base count other guest queue =
    grind (arith, by_indicator, rings_move)

pub polls : {S : Type 0} (p : Inside S) → p.phase ≡ Running → PortInvariant p
    → PortInvariant (record p { polling = true })
polls p runs is = search (runs_on None is runs)

unpolled : {S : Type 0} (p : Inside S) → IsPossible p → has_run p.phase ≡ false
    → HasNoWork false p.deliveries p.exec.pending p.waiting.items p.exec.position
unpolled p is rests = grind (arith, nat_tests)

pub stops_polling : {S : Type 0} (p : Inside S) → PortInvariant p → PortInvariant (record p { polling = false })
stops_polling p is = search (unpolled p is.possible)

pub goes : {S : Type 0} (p : Inside S) → p.phase ≡ Step4 → PortInvariant p
    → PortInvariant (record p { phase = Running })
goes p step is = grind (arith, nat_tests)

-- ---- a read of IP that changes nothing

pub ignores_read : (phase : Phase) (old : PortState) → phase ≢ PollTest → phase ≢ Running
    → port_after_ip_read phase old ≡ old
ignores_read phase old not_poll not_running = grind (arith, nat_tests)

-- ---- a word that changes nothing

abbrev TakesNoWord : Phase → Type 0
TakesNoWord phase = (phase ≡ PollTest) ⊎ ((phase ≡ Running) ⊎ ((cause : Fatal) × (phase ≡ Dead cause)))

pub ignores_word : (phase : Phase) (old : PortState) (memory : List ℕ) (word : ℕ) → TakesNoWord phase
    → after_sa_write phase old memory word ≡ (old, memory)
ignores_word phase old memory word is = grind (arith, nat_tests)

-- ---- the fatal errors of a turn

pub reads_no_ring : (profile : Profile) (phase : Phase) → phase ≡ Running → CanDie profile phase RingRead
reads_no_ring profile phase runs = grind (arith, nat_tests)

pub exceeds_credits : (profile : Profile) (phase : Phase) → phase ≡ Running → profile ≡ Strict
    → CanDie profile phase CreditsExceeded
exceeds_credits profile phase runs strict = grind (arith, nat_tests)
