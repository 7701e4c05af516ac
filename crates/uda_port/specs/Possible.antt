-- What a port's state says about its other parts: the phase and the profile decide which interrupts, rings and commands
-- it can have.
-- UDA50 Programmer's Documentation Kit: initialization, interrupts, communication area.
use Rattle.std.specs.Prelude.{◌≡◌, ℕ, ◌+◌, ◌*◌, ◌%◌, ◌^◌, ◌==◌, nat_le, nat_lt, Bool, true, false, ◌&&◌, ◌||◌, not}
use Rattle.std.specs.Prelude.{List, [], ◌∷◌, if◌then◌else◌}
use Rattle.uda_packet.specs.declared.command.Command.{Command}
use Rattle.uda_packet.specs.declared.reply.Reply.{Reply}
use Rattle.uda_packet.specs.declared.reply.ReplyBody.{ReplyBody}
use Rattle.uda_packet.specs.declared.reply.ReplyBody.TheVariants.{Basic}
use Rattle.uda_packet.specs.GuestEnd.{addresses_of}
use Rattle.uda_exec.specs.Disks.{FIRST_POSITION}
use Rattle.uda_exec.specs.Saved.{same_flag}
use Rattle.uda_exec.specs.declared.scheduler.Position.{Position}
use Rattle.uda_port.specs.declared.guest.Guest.{Guest}
use Rattle.uda_port.specs.declared.interrupt.Interrupts.{Interrupts}
use Rattle.uda_port.specs.declared.phase.Fatal.{Fatal}
use Rattle.uda_port.specs.declared.phase.Fatal.TheVariants.{RingWrite, CreditsExceeded, InitializationError}
use Rattle.uda_port.specs.declared.phase.Phase.{Phase}
use Rattle.uda_port.specs.declared.phase.Phase.TheVariants.{Step1, Step2, Step3, Wrap, PurgeTest, PollTest, Step4}
use Rattle.uda_port.specs.declared.phase.Phase.TheVariants.{Running, Dead}
use Rattle.uda_port.specs.declared.profile.Profile.{Profile}
use Rattle.uda_port.specs.declared.profile.Profile.TheVariants.{Strict, Compatible}
use Rattle.uda_port.specs.Interrupt.{has_vector}
use Rattle.uda_port.specs.Ring.{RingState}
use Rattle.uda_port.specs.Startup.{has_bit}

-- ---- phases

-- a turn meets this fatal error; a word of initialization meets the others
abbrev pub is_of_turn : Fatal → Bool
is_of_turn RingWrite = false
is_of_turn InitializationError = false
is_of_turn cause = true

-- the port runs, or ran until a turn met a fatal error
abbrev pub has_run : Phase → Bool
has_run Running = true
has_run (Dead cause) = is_of_turn cause
has_run phase = false

-- the third word has set the rings
abbrev pub has_rings : Phase → Bool
has_rings PurgeTest = true
has_rings PollTest = true
has_rings Step4 = true
has_rings phase = has_run phase

-- step 1 accepts the word: bit 15 is set, and bit 14, which asks for wrap mode, isn't
abbrev pub is_first_word : ℕ → Bool
is_first_word word = has_bit word 15 && not (has_bit word 14)

-- the phases of a strict port
abbrev pub is_strict_phase : Phase → Bool
is_strict_phase (Step2 first) = is_first_word first
is_strict_phase (Step3 first second) = is_first_word first && not (has_bit second 0)
is_strict_phase (Wrap word) = false
is_strict_phase PurgeTest = false
is_strict_phase PollTest = false
is_strict_phase phase = true

-- the fatal errors of a compatible port
abbrev pub is_guest_cause : Fatal → Bool
is_guest_cause CreditsExceeded = false
is_guest_cause InitializationError = false
is_guest_cause cause = true

-- the phases of a compatible port
abbrev pub is_guest_phase : Phase → Bool
is_guest_phase (Step2 first) = is_first_word first
is_guest_phase (Step3 first second) = is_first_word first
is_guest_phase (Dead cause) = is_guest_cause cause
is_guest_phase phase = true

abbrev pub has_phase : Profile → Phase → Bool
has_phase Strict phase = is_strict_phase phase
has_phase (Compatible identity) phase = is_guest_phase phase

-- a port of this profile and in this phase can die of the fatal error
pub record CanDie (profile : Profile) (phase : Phase) (cause : Fatal) : Type 0 where
  pub fatal : has_phase profile (Dead cause) ≡ true
  pub ran : has_run phase ≡ is_of_turn cause
  pub rings : has_rings phase ≡ is_of_turn cause

abbrev pub is_step_3 : Phase → Bool
is_step_3 (Step3 first second) = true
is_step_3 phase = false

-- ---- interrupts

-- neither a vector nor a request
abbrev pub is_silent : Interrupts → Bool
is_silent i = not i.enabled && ((i.vector == 0) && not i.requested)

-- a vector address is four times a number of seven bits
abbrev pub is_vector : ℕ → Bool
is_vector vector = (vector % 4 == 0) && nat_le vector 0x1FC

-- the first word asks for these settings
abbrev pub are_asked_by : ℕ → Interrupts → Bool
are_asked_by first i = same_flag i.enabled (has_bit first 7) && (i.vector == 4 * (first % 0x80))

-- the settings of a compatible port; before the first word it has none
abbrev pub settings_fit : Phase → Interrupts → Bool
settings_fit Step1 i = is_silent i
settings_fit (Wrap word) i = is_silent i
settings_fit (Step2 first) i = are_asked_by first i
settings_fit (Step3 first second) i = are_asked_by first i
settings_fit phase i = is_vector i.vector

-- a ring transition or a fatal error may have raised a request
abbrev pub is_past_steps : Phase → Bool
is_past_steps Running = true
is_past_steps (Dead cause) = true
is_past_steps phase = false

-- a request can be pending: there is a vector, and a step of initialization or a later event has raised the request
abbrev pub may_request : Phase → Interrupts → Bool
may_request phase i = has_vector i && (i.enabled || is_past_steps phase)

-- the interrupts of a port
abbrev pub can_interrupt : Profile → Phase → Interrupts → Bool
can_interrupt Strict phase i = is_silent i
can_interrupt (Compatible identity) phase i =
    settings_fit phase i && (not i.requested || may_request phase i)

-- ---- rings

-- initialization hasn't set the ring
abbrev pub is_unset : RingState → Bool
is_unset r = (r.base == 0) && ((r.count == 1) && (r.place == 0))

-- the number of addresses of the profile's bus
abbrev pub addresses_by : Profile → ℕ
addresses_by Strict = 2 ^ 18
addresses_by (Compatible identity) = addresses_of identity.bus

-- four bytes fit below the ring base, and the base is an address of the bus
abbrev pub is_base_by : Profile → ℕ → Bool
is_base_by profile base = nat_le 4 base && nat_lt base (addresses_by profile)

-- the command ring follows the response ring
abbrev pub is_next_to : RingState → RingState → Bool
is_next_to responses commands = commands.base == responses.base + 4 * responses.count

-- no descriptor of the rings was used
abbrev pub are_unused : RingState → RingState → Bool
are_unused responses commands = (responses.place == 0) && (commands.place == 0)

-- the rings of a port after the third word
abbrev pub are_set : Profile → Phase → RingState → RingState → Bool
are_set profile phase responses commands =
    is_base_by profile responses.base
    && (is_next_to responses commands && (has_run phase || are_unused responses commands))

-- the rings of a port
abbrev pub rings_fit : Profile → Phase → RingState → RingState → Bool
rings_fit profile phase responses commands =
    if has_rings phase then are_set profile phase responses commands
    else is_unset responses && is_unset commands

-- ---- what only a compatible port has, and only after it ran

abbrev pub none_due : List Bool → Bool
none_due [] = true
none_due (due ∷ more) = not due && none_due more

abbrev pub is_guest_running : Profile → Phase → Bool
is_guest_running Strict phase = false
is_guest_running (Compatible identity) phase = has_run phase

-- the controller flags and the due attention messages of a port
abbrev pub guest_fits : Profile → Phase → Guest → Bool
guest_fits profile phase guest =
    is_guest_running profile phase || ((guest.flags == 0) && none_due guest.attentions)

-- the end message is one of the strict profile
abbrev pub is_basic_body : ReplyBody → Bool
is_basic_body (Basic body) = true
is_basic_body body = false

abbrev pub are_basic : List Reply → Bool
are_basic [] = true
are_basic (r ∷ more) = is_basic_body r.body && are_basic more

-- the queued end messages of a port
abbrev pub queue_fits : Profile → List Reply → Bool
queue_fits Strict replies = are_basic replies
queue_fits (Compatible identity) replies = true

-- the start of the last transfer, if there was none
abbrev pub is_first_position : Position → Bool
is_first_position position = (position.unit == 0) && (position.lbn == 0)

-- a port that hasn't run doesn't poll, has delivered nothing, and no command was fetched
pub record HasNoWork (polling : Bool) (deliveries : ℕ) (pending : List Command) (waiting : List Reply)
    (position : Position) : Type 0 where
  pub not_polling : polling ≡ false
  pub none_delivered : deliveries ≡ 0
  pub none_pending : pending ≡ []
  pub none_waiting : waiting ≡ []
  pub at_first : position ≡ FIRST_POSITION
