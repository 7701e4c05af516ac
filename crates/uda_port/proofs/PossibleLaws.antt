-- What keeps a port's state possible.
use Rattle.std.proofs.lemmas.Bool.Decides.{nat_tests}
use Rattle.std.proofs.Common.{◌≡◌, ℕ, zero, suc, Bool, true, false, ◌&&◌, List, [], ◌∷◌, ◌++◌, refl, arith}
use Rattle.std.specs.Prelude.{set, Option, Some, None, IfSome, is_some, Result, Err}
use Rattle.uda_exec.specs.declared.scheduler.Position.{Position}
use Rattle.uda_exec.specs.Disks.{FIRST_POSITION, ExecState}
use Rattle.uda_packet.specs.declared.reply.Reply.{Reply}
use Rattle.uda_packet.specs.declared.guest_command.GuestCommand.{GuestCommand}
use Rattle.uda_packet.specs.declared.guest_end.Identity.{Identity}
use Rattle.uda_exec.specs.GuestExecution.{ExecutesGuestAt}
use Rattle.uda_port.specs.AtOnce.{replies_at_once}
use Rattle.uda_port.specs.declared.packet.Fetched.{Fetched}
use Rattle.uda_port.specs.Message.{message_in, flags_kept}
use Rattle.uda_port.specs.Port.{expects_attention}
use Rattle.uda_port.specs.Report.{attention_by, available_text, unit_report}
use Rattle.uda_packet.specs.declared.guest_end.UnitReport.{UnitReport}
use Rattle.uda_disk.specs.Units.{Units}
use Rattle.uda_port.specs.declared.guest.Guest.{Guest}
use Rattle.uda_port.specs.declared.interrupt.Interrupts.{Interrupts}
use Rattle.uda_port.specs.declared.phase.Fatal.{Fatal}
use Rattle.uda_port.specs.declared.phase.Phase.{Phase}
use Rattle.uda_port.specs.declared.phase.Phase.TheVariants.{Step1, Running, Dead}
use Rattle.uda_port.specs.declared.profile.Profile.{Profile}
use Rattle.uda_port.specs.declared.profile.Profile.TheVariants.{Strict, Compatible}
use Rattle.uda_port.specs.Guest.{guest_restarted, attention_set, guest_after, first_due}
use Rattle.uda_port.specs.Interrupt.{NO_INTERRUPTS, raised, raised_by_step, noted, served, vector_of, IsVectorAddress}
use Rattle.uda_port.specs.Possible.{has_run, can_interrupt, rings_fit, none_due, guest_fits, is_basic_body, are_basic, queue_fits, HasNoWork, is_first_position}
use Rattle.uda_port.specs.PortInvariant.{IsPossible}
use Rattle.uda_port.specs.declared.port.Port.TheInside.{Inside}
use Rattle.uda_port.specs.Ring.{RingState}

-- ---- a new port

pub starts : {S : Type 0} (guest : Guest) (p : Inside S) → p.phase ≡ Step1 → p.interrupts ≡ NO_INTERRUPTS
    → p.responses ≡ record { base = 0; count = 1; place = 0 } → p.commands ≡ record { base = 0; count = 1; place = 0 }
    → p.guest ≡ guest_restarted guest
    → HasNoWork p.polling p.deliveries p.exec.pending p.waiting.items p.exec.position → IsPossible p
starts guest p step silent responses commands restarted none = grind (arith, nat_tests)

-- ---- interrupts

-- a step of initialization may raise a request
pub by_step : (profile : Profile) (phase : Phase) (i : Interrupts) → can_interrupt profile phase i ≡ true
    → can_interrupt profile phase (raised_by_step profile i) ≡ true
by_step profile phase i is = grind (arith, nat_tests)

-- a running port may raise one, and so may a port that dies
pub by_indicator : (profile : Profile) (phase : Phase) (indicator : Option ℕ) (i : Interrupts) → phase ≡ Running
    → can_interrupt profile phase i ≡ true → can_interrupt profile phase (noted indicator profile i) ≡ true
by_indicator profile phase indicator i runs is = grind (arith, nat_tests)

-- a port that dies
pub by_death : (profile : Profile) (phase : Phase) (cause : Fatal) (i : Interrupts)
    → can_interrupt profile phase i ≡ true → can_interrupt profile (Dead cause) (raised profile i) ≡ true
by_death profile phase cause i is = grind (arith, nat_tests)

pub by_service : (profile : Profile) (phase : Phase) (old new : Interrupts) → new ≡ served old
    → can_interrupt profile phase old ≡ true → can_interrupt profile phase new ≡ true
by_service profile phase old new now is = grind (arith, nat_tests)

pub address_of_request : (profile : Profile) (phase : Phase) (i : Interrupts) → can_interrupt profile phase i ≡ true
    → IfSome (vector_of i) (λ (vector : ℕ). IsVectorAddress vector)
address_of_request profile phase i is = grind (arith, nat_tests)

-- ---- rings and work: what depends only on whether the port has rings and has run

pub same_guest : (profile : Profile) (phase next : Phase) (guest : Guest) → has_run next ≡ has_run phase
    → guest_fits profile phase guest ≡ true → guest_fits profile next guest ≡ true
same_guest profile phase next guest run is = grind (arith, nat_tests)

-- the rings of a running port move their indices only
pub rings_move : (profile : Profile) (phase : Phase) (a b c d : RingState) → phase ≡ Running → c.base ≡ a.base
    → c.count ≡ a.count → d.base ≡ b.base → rings_fit profile phase a b ≡ true → rings_fit profile phase c d ≡ true
rings_move profile phase a b c d runs base count other is = grind (arith, nat_tests)

-- ---- attention messages

none_due_without : (attentions : List Bool) (drive : ℕ) → none_due attentions ≡ true
    → none_due (set attentions drive false) ≡ true
none_due_without [] drive is = refl
none_due_without (due ∷ more) zero is = grind arith
none_due_without (due ∷ more) (suc drive) is = grind (arith, none_due_without more drive)

-- ---- end messages

are_basic_more : (old : List Reply) (r : Reply) → are_basic old ≡ true → is_basic_body r.body ≡ true
    → are_basic (old ++ r ∷ []) ≡ true
are_basic_more [] r old-are is = grind arith
are_basic_more (first ∷ rest) r old-are is = grind (arith, are_basic_more rest r)

-- ---- the first position

pub first_position : (p : Position) → is_first_position p ≡ true → p ≡ FIRST_POSITION
first_position p is = grind (arith, nat_tests)

-- ---- a running port

pub flags_fit : (profile : Profile) (phase : Phase) (p : Fetched) (m : Result GuestCommand Reply) (guest : Guest)
    → phase ≡ Running → guest_fits profile phase guest ≡ true
    → guest_fits profile phase (flags_kept profile p m guest) ≡ true
flags_fit profile phase p m guest runs is = grind (arith, nat_tests)

pub after_fits : (profile : Profile) (phase : Phase) (e : Reply) (guest : Guest) → guest_fits profile phase guest ≡ true
    → guest_fits profile phase (guest_after e guest) ≡ true
after_fits profile phase e guest is = grind (arith, none_due_without)

-- an attached drive
pub drive_fits : (profile : Profile) (phase : Phase) (guest : Guest) (drive : ℕ) (there : Bool)
    → guest_fits profile phase guest ≡ true
    → guest_fits profile phase (attention_set guest drive (there && expects_attention profile phase guest.flags)) ≡ true
drive_fits profile phase guest drive there is = grind (arith, none_due_without)

pub unset_by_set : (profile : Profile) (phase : Phase) (old new : Guest) (drive : ℕ)
    → new ≡ attention_set old drive false → guest_fits profile phase old ≡ true → guest_fits profile phase new ≡ true
unset_by_set profile phase old new drive set is = grind (arith, none_due_without)

-- ---- the queue of end messages

pub queue_more : (profile : Profile) (old : List Reply) (r : Reply) → (profile ≡ Strict → is_basic_body r.body ≡ true)
    → queue_fits profile old ≡ true → queue_fits profile (old ++ r ∷ []) ≡ true
queue_more profile old r basic is = grind (arith, are_basic_more)

pub queue_answered : (profile : Profile) (old : List Reply) (r : Reply) (exec : ExecState)
    → (profile ≡ Strict → is_basic_body r.body ≡ true) → queue_fits profile old ≡ true
    → queue_fits profile (old ++ replies_at_once profile r exec) ≡ true
queue_answered profile old r exec basic is = grind (arith, are_basic_more)

pub queue_less : (profile : Profile) (old : List Reply) (first : Reply) (rest : List Reply) → old ≡ first ∷ rest
    → queue_fits profile old ≡ true → queue_fits profile rest ≡ true
queue_less profile old first rest are is = grind (arith, nat_tests)

pub strict_refusal : (profile : Profile) (p : Fetched) (r : Reply) → message_in profile p ≡ Err r
    → profile ≡ Strict → is_basic_body r.body ≡ true
strict_refusal profile p r is strict = grind (arith, nat_tests)

-- the end message of an executed command
pub strict_outcome : (profile : Profile) (j : ℕ) (old : ExecState) (memory : List ℕ) (r : Reply) (new : ExecState)
    (memory_after : List ℕ) → (profile ≡ Strict → old.guest_ops ≡ [])
    → ExecutesGuestAt j old memory r new memory_after → profile ≡ Strict → is_basic_body r.body ≡ true
strict_outcome profile j old memory r new memory_after none it strict = grind (arith, nat_tests)

-- ---- the text of a due attention message

pub notice_text : (identity : Identity) (guest : Guest) (units : Units) (drive : ℕ) (unit : UnitReport)
    → first_due guest.attentions ≡ Some drive → unit_report guest units drive ≡ Some unit
    → attention_by (Compatible identity) guest units ≡ Some (available_text identity drive unit)
notice_text identity guest units drive unit due report = rw (due, report) refl

pub no_notice : (identity : Identity) (guest : Guest) (units : Units) (drive : ℕ)
    → first_due guest.attentions ≡ Some drive → unit_report guest units drive ≡ None
    → attention_by (Compatible identity) guest units ≡ None
no_notice identity guest units drive due report = rw (due, report) refl

-- ---- options

pub none_of : {A : Type 0} (o : Option A) → is_some o ≡ false → o ≡ None
none_of o is = grind (arith, nat_tests)
