-- Ports that differ only in their counts have the same future.
use Rattle.std.proofs.Common.{◌≡◌, ℕ, ◌+◌, ◌<◌, ◌≤◌, ◌↔◌, Bool, true, false, ◌||◌, List, [], ◌∷◌, length, Result, refl, ap, ◌∙◌, arith}
use Rattle.std.specs.Prelude.{not, nat_lt, IsTrue}
use Rattle.uda_packet.specs.declared.guest_command.GuestOp.{GuestOp}
use Rattle.uda_packet.specs.declared.reply.Reply.{Reply}
use Rattle.uda_packet.specs.declared.guest_command.GuestCommand.{GuestCommand}
use Rattle.std.proofs.lemmas.Bool.{eq-eqb, and_parts}
use Rattle.std.proofs.lemmas.Bool.Decides.{nat_tests}
use Rattle.std.proofs.lemmas.List.{nil_from_length}
use Rattle.uda_exec.specs.Disks.{ExecState}
use Rattle.uda_exec.specs.Saved.{saved_exec}
use Rattle.uda_exec.specs.declared.saved.SavedExec.{SavedExec}
use Rattle.uda_exec.proofs.Saving.{restored_is_saved as exec_is_saved}
use Rattle.uda_port.specs.declared.phase.Phase.{Phase}
use Rattle.uda_port.specs.declared.profile.Profile.{Profile}
use Rattle.uda_port.specs.declared.profile.Profile.TheVariants.{Strict}
use Rattle.uda_port.specs.declared.packet.Fetched.{Fetched as Packet}
use Rattle.uda_port.specs.declared.port.Port.TheInside.{Inside}
use Rattle.uda_port.specs.declared.saved.Saved.{Saved}
use Rattle.uda_port.specs.declared.turn.Turn.{Turn}
use Rattle.uda_port.specs.declared.play.HostEvent.{HostEvent}
use Rattle.uda_port.specs.PortInvariant.{PortInvariant}
use Rattle.uda_port.specs.Ring.{RingState}
use Rattle.uda_port.specs.Message.{message_in}
use Rattle.uda_port.specs.declared.play.HostEvent.TheVariants.{WriteIp, ReadIp, WriteSa, Word, Turn as TurnEvent}
use Rattle.uda_port.specs.Port.{PortState, next_grant, credits_granted, port_restarted}
use Rattle.uda_port.specs.Turn.{Unchanged, port_with_message, TakesPacket, TurnEffect}
use Rattle.uda_port.specs.Plan.{Step, counted, Rests, CommandRingLost, Unreadable, Exceeds, BadConnection, Fetches, Executes, DeliversEnd, Notifies, Waits, ResponseRingLost, NoRoom}
use Rattle.uda_port.specs.Events.{EventEffect, EventsEffect}
use Rattle.uda_port.proofs.PlanLaws.{AnyCase, case_of, effect_of, message_keeps, step_of}
use Rattle.uda_port.specs.Possible.{has_run, has_phase, can_interrupt, rings_fit, guest_fits, queue_fits, HasNoWork}
use Rattle.uda_port.proofs.PossibleLaws.{first_position}
use Rattle.uda_port.specs.Saved.{work_fits, has_no_work, profile_fits, saved_port, port_restored, is_consistent, outstanding, credits_due, lists_ops, least_deliveries, Counts, with_counts, RestoredIsSaved, SameFuture}

-- ---- what was saved

pub restored_is_saved : RestoredIsSaved
restored_is_saved port exec listed same =
    let x = exec_is_saved port.exec exec listed same in
    let r = port_restored (saved_port port) exec in
    record {
      drives = x.fits;
      same = record {
        counts = record { turns = 0; fetches = r.fetches; deliveries = r.deliveries; load = 0 };
        same = ap (λ (e : ExecState). record r { exec = e }) x.same;
        begun = grind (arith, nat_tests);
      };
    }

-- ---- a saved port is consistent

-- a saved port that hasn't run has no work
abbrev pub SavedNoWork : Saved → Type 0
SavedNoWork s =
    HasNoWork s.polling (least_deliveries s.begun) s.exec.pending.items s.waiting.items s.exec.position

due_of : (deliveries credits fetches outstanding : ℕ) → credits + fetches ≡ credits_granted deliveries
    → fetches ≡ deliveries + outstanding → credits + outstanding ≡ credits_due (nat_lt 0 deliveries)
due_of deliveries credits fetches outstanding granted used = grind (arith, nat_tests)

lists_none : (profile : Profile) (ops : List GuestOp) → (profile ≡ Strict → ops ≡ [])
    → not (lists_ops profile ops) ≡ true
lists_none profile ops none = grind arith

work_by : (run other : Bool) → (run ≡ false → other ≡ true) → (run || other) ≡ true
work_by run other none = grind arith

-- the state of a port with these fields
abbrev pub state_of : {S : Type 0} → Inside S → PortState
state_of p = record {
  profile = p.profile;
  phase = p.phase;
  exec = p.exec;
  responses = p.responses;
  commands = p.commands;
  waiting = p.waiting.items;
  polling = p.polling;
  credits = p.credits;
  interrupts = p.interrupts;
  turns = p.turns;
  fetches = p.fetches;
  deliveries = p.deliveries;
  load = p.load;
  guest = p.guest;
}

pub consistent : {S : Type 0} (p : Inside S) → PortInvariant p → is_consistent (saved_port (state_of p)) ≡ true
consistent p is =
    let q = is.possible in
    let due = due_of _ _ _ _ is.credits is.conserved in
    let work = work_by (has_run p.phase) (has_no_work (saved_port (state_of p))) (λ not_run.
    let none = q.no_work not_run in
    rw (none.not_polling, none.none_delivered, none.none_pending, none.none_waiting, none.at_first)) in
    rw (q.phase, q.interrupts, q.rings, q.guest, eq-eqb _ _ due, work, lists_none _ _ is.strict, q.queue)

pub is_saved : {S : Type 0} (p : Inside S) (waiting : List Reply) (exec : SavedExec) → PortInvariant p
    → waiting ≡ p.waiting.items → exec ≡ saved_exec p.exec
    → record (saved_port (state_of p)) { begun = p.begun; waiting = record { items = waiting }; exec = exec }
    ≡ saved_port (state_of p)
is_saved p waiting exec is queue executor = grind (arith, nat_tests)

-- ---- what continues from it

-- the invariant of the port, as far as the saved state decides it
pub record Agrees (s : Saved) : Type 0 where
  pub credits :
      s.credits + (least_deliveries s.begun + outstanding s) ≡ credits_granted (least_deliveries s.begun)
  pub ordered : s.responses.base ≤ s.commands.base
  pub begun : IsTrue s.begun ↔ (0 < least_deliveries s.begun)
  pub strict : s.profile ≡ Strict → s.exec.guest_ops.items ≡ []
  pub phase : has_phase s.profile s.phase ≡ true
  pub interrupts : can_interrupt s.profile s.phase s.interrupts ≡ true
  pub rings : rings_fit s.profile s.phase s.responses s.commands ≡ true
  pub guest : guest_fits s.profile s.phase s.guest ≡ true
  pub queue : queue_fits s.profile s.waiting.items ≡ true
  pub no_work : has_run s.phase ≡ false → SavedNoWork s

-- the command ring isn't below the response ring
placed_in_order : (profile : Profile) (phase : Phase) (a b : RingState) → rings_fit profile phase a b ≡ true
    → a.base ≤ b.base
placed_in_order profile phase a b is = grind (arith, nat_tests)

no_work_by : (s : Saved) → has_no_work s ≡ true → SavedNoWork s
no_work_by s is = record {
  not_polling = grind arith;
  none_delivered = grind arith;
  none_pending = nil_from_length _ (grind (arith, nat_tests));
  none_waiting = nil_from_length _ (grind (arith, nat_tests));
  at_first = first_position s.exec.position (grind arith);
}

pub agrees : (s : Saved) → is_consistent s ≡ true → Agrees s
agrees s is =
    let phase = and_parts _ _ is in
    let interrupts = and_parts _ _ phase.1 in
    let rings = and_parts _ _ interrupts.1 in
    let guest = and_parts _ _ rings.1 in
    let both = and_parts (work_fits s) (profile_fits s) guest.1 in
    let work = and_parts _ (has_run s.phase || has_no_work s) both.0 in
    record {
      credits = grind (arith, nat_tests);
      ordered = placed_in_order s.profile s.phase s.responses s.commands rings.0;
      begun = grind arith;
      strict = grind arith;
      phase = phase.0;
      interrupts = interrupts.0;
      rings = rings.0;
      guest = guest.0;
      queue = (and_parts _ _ both.1).1;
      no_work = λ not_run. no_work_by s (rw not_run at work.1);
    }

-- ---- a turn

-- the next end message grants the same
same_grant : (d e : ℕ) → nat_lt 0 d ≡ nat_lt 0 e → next_grant d ≡ next_grant e
same_grant d e begun = grind (arith, nat_tests)

-- what leads to a port leads to one with other counts
record LeadsAlso (P : PortState → Type 0) (new : PortState) : Type 0 where
  counts : Counts
  leads : P (with_counts counts new)
  begun : nat_lt 0 counts.deliveries ≡ nat_lt 0 new.deliveries

-- a message changes no count
message_same : (k : Counts) (old : PortState) (m : Result GuestCommand Reply)
    → port_with_message (with_counts k old) m ≡ with_counts k (port_with_message old m)
message_same k old m = grind arith

-- a turn of a port with other counts
module _ (k : Counts) (turn : Turn) (s : Step) (begun : nat_lt 0 k.deliveries ≡ nat_lt 0 s.old.deliveries) where
  abbrev TurnsAlso : Type 0
  TurnsAlso = LeadsAlso (λ x. TurnEffect s.old.phase (with_counts k s.old) s.memory turn x s.memory_after) s.new

  abbrev once : Counts
  once = record k { turns = k.turns + 1 }

  -- the port is this now, and has these counts
  leaves : (more : Counts) {now : PortState} → s.new ≡ now → nat_lt 0 more.deliveries ≡ nat_lt 0 now.deliveries
      → AnyCase turn (record s { old = with_counts k s.old; new = with_counts more s.new }) → TurnsAlso
  leaves more is begun leads = record { counts = more; leads = effect_of _ _ _ leads; begun = rw is begun }

  with : (more : Counts) {p : PortState} → Unchanged p s.memory s.new s.memory_after
      → Unchanged (with_counts more p) s.memory (with_counts more s.new) s.memory_after
  with more same = grind (arith, nat_tests)

  takes : {p : Packet} {before : PortState} → TakesPacket (counted s) s.memory p before s.memory_after
      → TakesPacket (with_counts once (counted s)) s.memory p (with_counts once before) s.memory_after
  takes t = grind (arith, nat_tests)

  turns_also : AnyCase turn s → TurnsAlso
  turns_also (Rests rests answer same) = leaves k same.state begun (Rests rests answer (with k same))
  turns_also (CommandRingLost d line same) =
      leaves once same.state begun (CommandRingLost (assumption) (assumption) (with once same))
  turns_also (Unreadable d line same) =
      leaves once same.state begun (Unreadable (assumption) (assumption) (with once same))
  turns_also (Exceeds d before line is) =
      leaves once is (rw line.taken.others begun)
      (Exceeds (assumption) (with_counts once before) (search (line, takes line.taken))
      (ap (with_counts once) is))
  turns_also (BadConnection d before line is) =
      leaves once is (rw line.taken.others begun)
      (BadConnection (assumption) (with_counts once before) (search (line, takes line.taken))
      (ap (with_counts once) is))
  turns_also (Fetches d line) =
      let more = record once { fetches = k.fetches + 1 } in
      let m = message_in s.old.profile line.packet in
      leaves more line.others (rw (message_keeps (counted s) m) begun)
      (Fetches (assumption) (record {
        packet = line.packet;
        looks = line.looks;
        takes = line.takes;
        in_order = line.in_order;
        credit = line.credit;
        sequential = line.sequential;
        others = ap (with_counts more) line.others ∙ rw (message_same once (counted s) m);
      }))
  turns_also (Executes d nothing j is line) =
      let more = record once { load = k.load + length s.old.exec.pending } in
      leaves more line.others begun
      (Executes (assumption) nothing j is (search (line, ap (with_counts more) line.others)))
  turns_also (DeliversEnd d reaches line) =
      let more = record once { deliveries = k.deliveries + 1 } in
      let grants = same_grant k.deliveries s.old.deliveries begun in
      leaves more line.others (grind (arith, nat_tests)) (DeliversEnd (assumption) (assumption) (record {
        end = line.end;
        none_due = line.none_due;
        first = line.first;
        puts = rw grants line.puts;
        legible = line.legible;
        others = ap (with_counts more) line.others ∙ rw grants;
      }))
  turns_also (Notifies d reaches line) =
      leaves once line.others begun
      (Notifies (assumption) (assumption) (search (line, ap (with_counts once) line.others)))
  turns_also (Waits d reaches none same) =
      leaves once same.state begun (Waits (assumption) (assumption) none (with once same))
  turns_also (ResponseRingLost d reaches line same) =
      leaves once same.state begun (ResponseRingLost (assumption) (assumption) (search line) (with once same))
  turns_also (NoRoom d reaches line same) =
      leaves once same.state begun (NoRoom (assumption) (assumption) (search line) (with once same))

-- ---- events

-- a port and its memory, with other counts
abbrev both : Counts → PortState × List ℕ → PortState × List ℕ
both k x = (with_counts k x.0, x.1)

abbrev counts_of : PortState → Counts
counts_of p = record { turns = p.turns; fetches = p.fetches; deliveries = p.deliveries; load = p.load }

module _ (k : Counts) (old : PortState) (begun : nat_lt 0 k.deliveries ≡ nat_lt 0 old.deliveries)
    (memory : List ℕ) (new : PortState) (memory_after : List ℕ) where
  event : (e : HostEvent) → EventEffect e old memory new memory_after
      → LeadsAlso (λ x. EventEffect e (with_counts k old) memory x memory_after) new
  event WriteIp effect = record {
    counts = counts_of (port_restarted old);
    leads = (ap (with_counts (counts_of (port_restarted old))) effect.0, effect.1);
    begun = rw effect.0;
  }
  event ReadIp effect = record {
    counts = k;
    leads = (rw effect.0 (grind arith), effect.1);
    begun = rw effect.0 (grind arith);
  }
  event (WriteSa word) effect = record {
    counts = k;
    leads = ap (both k) effect ∙ grind arith;
    begun = rw (ap (λ (x : PortState × List ℕ). x.0) effect) (grind arith);
  }
  event (Word address word) effect = record {
    counts = k;
    leads = (ap (with_counts k) effect.0, effect.1);
    begun = rw effect.0 begun;
  }
  event TurnEvent effect =
      let s = step_of (old, memory) (new, memory_after) in
      let x = turns_also k effect.0 s begun (case_of effect.0 s effect.1) in
      record { counts = x.counts; leads = (effect.0, x.leads); begun = x.begun }

all_events : (events : List HostEvent) (k : Counts) (old : PortState) (memory : List ℕ) (new : PortState)
    (memory_after : List ℕ) → nat_lt 0 k.deliveries ≡ nat_lt 0 old.deliveries
    → EventsEffect events old memory new memory_after
    → LeadsAlso (λ x. EventsEffect events (with_counts k old) memory x memory_after) new
all_events [] k old memory new memory_after begun effect = record {
  counts = k;
  leads = record { state = ap (with_counts k) effect.state; memory_stays = effect.memory_stays };
  begun = rw effect.state begun;
}
all_events (e ∷ rest) k old memory new memory_after begun effect =
    let between = effect.0 in
    let x = event k old begun memory between.0 between.1 e effect.1 in
    let y = all_events rest x.counts between.0 between.1 new memory_after x.begun effect.2 in
    record {
      counts = y.counts;
      leads = ((with_counts x.counts between.0, between.1), x.leads, y.leads);
      begun = y.begun;
    }

pub same_future : SameFuture
same_future = record {
  turns = λ a b memory turn new memory_after same effect.
      let s = step_of (a, memory) (new, memory_after) in
      let x = turns_also same.counts turn s same.begun (case_of turn s effect) in
      record {
        left = with_counts x.counts new;
        effect = rw same.same x.leads;
        same = record { counts = x.counts; same = refl; begun = x.begun };
      };
  events = λ events a b memory new memory_after same effect.
      let x = all_events events same.counts a memory new memory_after same.begun effect in
      record {
        left = with_counts x.counts new;
        effect = rw same.same x.leads;
        same = record { counts = x.counts; same = refl; begun = x.begun };
      };
}
