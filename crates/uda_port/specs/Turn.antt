-- The complete effect of a turn: the first of its rules that fits.
-- UDA50 Programmer's Documentation Kit: command ring polling, message envelopes, credits, fatal errors.
use Rattle.std.specs.Prelude.{◌≡◌, ℕ, ◌+◌, ◌-◌, ◌<◌, Bool, true, false, ◌&&◌, ◌||◌, not, List, [], ◌∷◌, ◌++◌, length}
use Rattle.std.specs.Prelude.{Some, None, Result, Ok, Err}
use Rattle.uda_packet.specs.declared.guest_command.GuestCommand.{GuestCommand}
use Rattle.uda_packet.specs.declared.end.End.{End}
use Rattle.uda_packet.specs.declared.reply.Reply.{Reply}
use Rattle.uda_packet.specs.Reply.{basic_reply}
use Rattle.uda_exec.specs.Disks.{ExecState}
use Rattle.uda_exec.specs.Execution.{ExecutesAt}
use Rattle.uda_exec.specs.GuestOps.{with_accepted}
use Rattle.uda_exec.specs.GuestExecution.{ExecutesGuestAt}
use Rattle.uda_port.specs.declared.packet.Fetched.{Fetched}
use Rattle.uda_port.specs.declared.phase.Phase.{Phase}
use Rattle.uda_port.specs.declared.phase.Phase.TheVariants.{Running, Dead as DeadPhase}
use Rattle.uda_port.specs.declared.profile.Profile.{Profile}
use Rattle.uda_port.specs.declared.profile.Profile.TheVariants.{Strict, Compatible}
use Rattle.uda_port.specs.declared.turn.Turn.{Turn}
use Rattle.uda_port.specs.declared.turn.Turn.TheVariants.{Fetched as TurnFetched, Executed, Delivered, Idle}
use Rattle.uda_port.specs.declared.turn.Turn.TheVariants.{Notified, Dead}
use Rattle.uda_port.specs.declared.phase.Fatal.{Fatal}
use Rattle.uda_port.specs.declared.phase.Fatal.TheVariants.{PacketRead, PacketWrite, RingRead}
use Rattle.uda_port.specs.declared.phase.Fatal.TheVariants.{CreditsExceeded, InvalidConnection}
use Rattle.uda_port.specs.Fetch.{Takes, TakesFirst, HostOwnsNext, DescriptorOutsideMemory, PacketUnreadable}
use Rattle.uda_port.specs.declared.packet.Delivery.{Delivery}
use Rattle.uda_port.specs.declared.packet.Fetching.{Fetching}
use Rattle.uda_port.specs.Report.{end_text, attention_text, next_text}
use Rattle.uda_port.specs.Guest.{guest_after, attention_set, first_due}
use Rattle.uda_port.specs.Packet.{IsLegible}
use Rattle.uda_port.specs.AtOnce.{replies_at_once, exec_at_once}
use Rattle.uda_port.specs.Delivery.{Puts, BufferUnusable}
use Rattle.uda_port.specs.Message.{IsSequential, message_in, flags_kept}
use Rattle.uda_port.specs.Port.{lacks_credit}
use Rattle.uda_port.specs.Port.{PortState, next_grant, command_indicator, response_indicator, interrupts_after}
use Rattle.uda_port.specs.Startup.{failed_port}

-- a turn of a running port counts itself
abbrev pub port_turn_on : PortState → PortState
port_turn_on old = record old { turns = old.turns + 1 }

-- the port stops polling, since there is nothing to fetch
abbrev pub port_not_polling : PortState → PortState
port_not_polling old = record old { polling = false }

pub record Unchanged (old : PortState) (memory : List ℕ) (new : PortState)
    (memory_after : List ℕ) : Type 0 where
  pub state : new ≡ old
  pub memory_stays : memory_after ≡ memory

-- ---- rule 1: a command is fetched

-- A command is appended to the pending commands. The end message of an invalid command is queued. A command
-- that is ended at once is executed, and then its end message is queued.
abbrev pub port_with_message : PortState → Result GuestCommand Reply → PortState
port_with_message old (Ok c) = record old { exec = with_accepted old.exec c }
port_with_message old (Err r) = record old {
  exec = exec_at_once old.profile r old.exec;
  waiting = old.waiting ++ replies_at_once old.profile r old.exec;
}

-- a port that polls may fetch, unless the profile is compatible and the host has no credit
abbrev pub may_fetch : PortState → Bool
may_fetch old = old.polling && not (lacks_credit old.profile old.credits)

-- the settings of a fetch
abbrev pub fetching_of : PortState → List ℕ → Fetching
fetching_of port memory = record { profile = port.profile; indicator = command_indicator port memory }

pub record FetchesOne (old : PortState) (memory : List ℕ) (new : PortState)
    (memory_after : List ℕ) : Type 0 where
  pub packet : Fetched
  pub looks : may_fetch old ≡ true
  pub takes : Takes (fetching_of old memory) old.commands memory packet new.commands memory_after
  pub in_order : TakesFirst old.commands memory new.commands memory_after
  pub credit : 0 < old.credits
  pub sequential : IsSequential old.profile packet
  pub others : new
      ≡ record (port_with_message old (message_in old.profile packet)) {
        commands = new.commands;
        credits = old.credits - 1;
        interrupts = interrupts_after old (command_indicator old memory);
        fetches = old.fetches + 1;
        guest = flags_kept old.profile packet (message_in old.profile packet) old.guest;
      }

-- the port may not fetch, or the host owns the next command descriptor
abbrev pub NothingToFetch : PortState → List ℕ → Type 0
NothingToFetch old memory = may_fetch old ≡ true → HostOwnsNext old.commands memory

-- a packet was fetched, and its descriptor was returned
pub record TakesPacket (old : PortState) (memory : List ℕ) (packet : Fetched) (new : PortState)
    (memory_after : List ℕ) : Type 0 where
  pub looks : may_fetch old ≡ true
  pub takes : Takes (fetching_of old memory) old.commands memory packet new.commands memory_after
  pub others : new
      ≡ record old {
        commands = new.commands;
        interrupts = interrupts_after old (command_indicator old memory);
      }

-- fatal: the next command descriptor isn't in memory
pub record CommandRingOutsideMemory (old : PortState) (memory : List ℕ) : Type 0 where
  pub looks : may_fetch old ≡ true
  pub no_descriptor : DescriptorOutsideMemory old.commands memory

-- fatal: the command packet isn't readable
pub record CommandUnreadable (old : PortState) (memory : List ℕ) : Type 0 where
  pub looks : may_fetch old ≡ true
  pub no_packet : PacketUnreadable old.profile old.commands memory

-- fatal in the strict profile: the host had no credit left
pub record ExceedsCredits (old : PortState) (memory : List ℕ) (new : PortState)
    (memory_after : List ℕ) : Type 0 where
  pub packet : Fetched
  pub taken : TakesPacket old memory packet new memory_after
  pub strict : old.profile ≡ Strict
  pub no_credit : old.credits ≡ 0

-- fatal: the envelope has an invalid connection or message type
pub record HasInvalidConnection (old : PortState) (memory : List ℕ) (new : PortState)
    (memory_after : List ℕ) : Type 0 where
  pub packet : Fetched
  pub taken : TakesPacket old memory packet new memory_after
  pub credit : 0 < old.credits
  pub not_sequential : IsSequential old.profile packet → ⊥

-- whether rule 1 fits, or which fatal error it meets
abbrev pub FetchRule : PortState → List ℕ → Result Bool Fatal → PortState → List ℕ → Type 0
FetchRule old memory (Ok true) new memory_after = FetchesOne old memory new memory_after
FetchRule old memory (Ok false) new memory_after =
    NothingToFetch old memory × Unchanged old memory new memory_after
FetchRule old memory (Err RingRead) new memory_after =
    CommandRingOutsideMemory old memory × Unchanged old memory new memory_after
FetchRule old memory (Err PacketRead) new memory_after =
    CommandUnreadable old memory × Unchanged old memory new memory_after
FetchRule old memory (Err CreditsExceeded) new memory_after = ExceedsCredits old memory new memory_after
FetchRule old memory (Err InvalidConnection) new memory_after = HasInvalidConnection old memory new memory_after
FetchRule old memory (Err _) new memory_after = ⊥

-- ---- rule 2: the eligible pending command at index j is executed, and its end message is queued

-- in the strict profile the command is executed without an additional operation
pub record ExecutesStrictly (j : ℕ) (old : ExecState) (memory : List ℕ) (r : Reply) (new : ExecState)
    (memory_after : List ℕ) : Type 0 where
  pub end : End
  pub reply_is : r ≡ basic_reply end
  pub executes : ExecutesAt j old memory end new memory_after

-- in the compatible profile its additional operation is executed too
abbrev pub ExecutesFor : Profile → ℕ → ExecState → List ℕ → Reply → ExecState → List ℕ → Type 0
ExecutesFor Strict j old memory r new memory_after = ExecutesStrictly j old memory r new memory_after
ExecutesFor (Compatible identity) j old memory r new memory_after =
    ExecutesGuestAt j old memory r new memory_after

pub record ExecutesOne (j : ℕ) (old : PortState) (memory : List ℕ) (new : PortState)
    (memory_after : List ℕ) : Type 0 where
  pub end : Reply
  pub executes : ExecutesFor old.profile j old.exec memory end new.exec memory_after
  pub others : new
      ≡ record old {
        exec = new.exec;
        waiting = old.waiting ++ end ∷ [];
        load = old.load + length old.exec.pending;
        guest = guest_after end old.guest;
      }

abbrev pub ExecuteRule : PortState → List ℕ → Bool → PortState → List ℕ → Type 0
ExecuteRule old memory true new memory_after = (j : ℕ) × ExecutesOne j old memory new memory_after
ExecuteRule old memory false new memory_after =
    (old.exec.pending ≡ []) × Unchanged old memory new memory_after

-- ---- rule 3: if no attention message is due, the first queued end message is delivered, and a port whose host had
-- ---- no credit polls again

-- the settings of the delivery of an end message
abbrev pub delivery_of : PortState → List ℕ → Delivery
delivery_of port memory = record {
  profile = port.profile;
  credits = next_grant port.deliveries;
  indicator = response_indicator port memory;
}

pub record DeliversOne (old : PortState) (memory : List ℕ) (new : PortState)
    (memory_after : List ℕ) : Type 0 where
  pub end : Reply
  pub none_due : attention_text old ≡ None
  pub first : old.waiting ≡ end ∷ new.waiting
  pub puts :
      Puts (delivery_of old memory) old.responses memory (end_text old end) new.responses memory_after
  pub legible : old.profile ≡ Strict → IsLegible end
  pub others : new ≡ record old {
    responses = new.responses;
    waiting = new.waiting;
    polling = lacks_credit old.profile old.credits || old.polling;
    credits = old.credits + next_grant old.deliveries;
    interrupts = interrupts_after old (response_indicator old memory);
    deliveries = old.deliveries + 1;
  }

-- there is no message, or the host owns the next response descriptor
abbrev pub NothingToDeliver : PortState → List ℕ → Type 0
NothingToDeliver old memory = (text : List ℕ) → next_text old ≡ Some text → HostOwnsNext old.responses memory

-- fatal: the next response descriptor isn't in memory
pub record ResponseRingOutsideMemory (old : PortState) (memory : List ℕ) : Type 0 where
  pub text : List ℕ
  pub is_next : next_text old ≡ Some text
  pub no_descriptor : DescriptorOutsideMemory old.responses memory

-- fatal: the text doesn't fit the buffer of the next response descriptor
pub record ResponseUnwritable (old : PortState) (memory : List ℕ) : Type 0 where
  pub text : List ℕ
  pub is_next : next_text old ≡ Some text
  pub no_room : BufferUnusable old.profile old.responses memory (length text)

-- whether rule 3 fits, or which fatal error it meets
abbrev pub DeliverRule : PortState → List ℕ → Result Bool Fatal → PortState → List ℕ → Type 0
DeliverRule old memory (Ok true) new memory_after = DeliversOne old memory new memory_after
DeliverRule old memory (Ok false) new memory_after =
    NothingToDeliver old memory × Unchanged old memory new memory_after
DeliverRule old memory (Err RingRead) new memory_after =
    ResponseRingOutsideMemory old memory × Unchanged old memory new memory_after
DeliverRule old memory (Err PacketWrite) new memory_after =
    ResponseUnwritable old memory × Unchanged old memory new memory_after
DeliverRule old memory (Err _) new memory_after = ⊥

-- ---- rule 3 if an attention message is due: it is delivered before the queued end messages

-- the settings of its delivery: no credits
abbrev pub notice_of : PortState → List ℕ → Delivery
notice_of port memory = record (delivery_of port memory) { credits = 0 }

pub record NotifiesOne (old : PortState) (memory : List ℕ) (new : PortState)
    (memory_after : List ℕ) : Type 0 where
  pub drive : ℕ
  pub text : List ℕ
  pub due : first_due old.guest.attentions ≡ Some drive
  pub message : attention_text old ≡ Some text
  pub puts : Puts (notice_of old memory) old.responses memory text new.responses memory_after
  pub others : new ≡ record old {
    responses = new.responses;
    interrupts = interrupts_after old (response_indicator old memory);
    guest = attention_set old.guest drive false;
  }

-- whether an attention message is delivered, or which fatal error the delivery meets
abbrev pub NotifyRule : PortState → List ℕ → Result Bool Fatal → PortState → List ℕ → Type 0
NotifyRule old memory (Ok true) new memory_after = NotifiesOne old memory new memory_after
NotifyRule old memory (Ok false) new memory_after = DeliverRule old memory (Ok false) new memory_after
NotifyRule old memory (Err cause) new memory_after = DeliverRule old memory (Err cause) new memory_after

-- ---- the rules in their order

-- a turn that has nothing to fetch: rule 2, or else rule 3
abbrev pub LaterRulesEffect : PortState → List ℕ → Result Turn Fatal → PortState → List ℕ → Type 0
LaterRulesEffect old memory (Ok Executed) new memory_after = ExecuteRule old memory true new memory_after
LaterRulesEffect old memory (Ok Delivered) new memory_after =
    (old.exec.pending ≡ []) × DeliverRule old memory (Ok true) new memory_after
LaterRulesEffect old memory (Ok Notified) new memory_after =
    (old.exec.pending ≡ []) × NotifyRule old memory (Ok true) new memory_after
LaterRulesEffect old memory (Ok Idle) new memory_after =
    (old.exec.pending ≡ []) × DeliverRule old memory (Ok false) new memory_after
LaterRulesEffect old memory (Ok _) new memory_after = ⊥
LaterRulesEffect old memory (Err cause) new memory_after =
    (old.exec.pending ≡ []) × DeliverRule old memory (Err cause) new memory_after

-- rule 1 didn't fit
pub record GoesOn (old : PortState) (memory : List ℕ) (result : Result Turn Fatal) (new : PortState)
    (memory_after : List ℕ) : Type 0 where
  pub nothing_to_fetch : NothingToFetch old memory
  pub rest : LaterRulesEffect (port_not_polling old) memory result new memory_after

-- a fatal turn meets its error in rule 1 or in rule 3
pub data Fails (cause : Fatal) (old : PortState) (memory : List ℕ) (new : PortState)
    (memory_after : List ℕ) : Type 0 where
  InFetch : FetchRule old memory (Err cause) new memory_after → Fails cause old memory new memory_after
  InRest : GoesOn old memory (Err cause) new memory_after → Fails cause old memory new memory_after

abbrev pub FirstRuleEffect : PortState → List ℕ → Result Turn Fatal → PortState → List ℕ → Type 0
FirstRuleEffect old memory (Ok TurnFetched) new memory_after = FetchesOne old memory new memory_after
FirstRuleEffect old memory (Ok turn) new memory_after = GoesOn old memory (Ok turn) new memory_after
FirstRuleEffect old memory (Err cause) new memory_after = Fails cause old memory new memory_after

-- the port fails with the error that its rules met
pub record Dies (old : PortState) (memory : List ℕ) (new : PortState) (memory_after : List ℕ) : Type 0 where
  pub cause : Fatal
  pub before : PortState
  pub fails : Fails cause (port_turn_on old) memory before memory_after
  pub died : new ≡ failed_port before cause

abbrev pub RunningTurn : PortState → List ℕ → Turn → PortState → List ℕ → Type 0
RunningTurn old memory Dead new memory_after = Dies old memory new memory_after
RunningTurn old memory turn new memory_after = FirstRuleEffect (port_turn_on old) memory (Ok turn) new memory_after

-- a port that doesn't run changes nothing
pub record Stopped (old : PortState) (memory : List ℕ) (expected turn : Turn) (new : PortState)
    (memory_after : List ℕ) : Type 0 where
  pub answer : turn ≡ expected
  pub unchanged : Unchanged old memory new memory_after

-- a turn, by the phase of the port
abbrev pub TurnEffect : Phase → PortState → List ℕ → Turn → PortState → List ℕ → Type 0
TurnEffect Running old memory turn new memory_after = RunningTurn old memory turn new memory_after
TurnEffect (DeadPhase cause) old memory turn new memory_after = Stopped old memory Dead turn new memory_after
TurnEffect _ old memory turn new memory_after = Stopped old memory Idle turn new memory_after
