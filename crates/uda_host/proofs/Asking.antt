-- One command is executed while no other is outstanding: it is fetched and executed, and its end message
-- received.
use Rattle.std.proofs.Common.{◌≡◌, ℕ, ◌+◌, ◌-◌, ◌<◌, List, [], ◌∷◌, ◌++◌, length, Option, Some, None, refl, sym, ap, ap₂, ◌∙◌, arith, subst, subst₂}
use Rattle.std.specs.Prelude.{slice_get, remove}
use Rattle.uda_packet.specs.declared.command.Command.{Command}
use Rattle.uda_packet.specs.declared.command.Op.TheVariants.{Controller}
use Rattle.uda_packet.specs.declared.end.End.{End}
use Rattle.uda_disk.specs.Units.{UnitState}
use Rattle.uda_exec.specs.Execution.{Executes}
use Rattle.uda_port.specs.Port.{next_grant}
use Rattle.uda_host.specs.Host.{HostState, outstanding_count, BuffersStay, Posts, TakesEnd, TurnWithoutEnd, OneFetched, OneDone, StepEffect, IsConsistent, IsIdle, IsStarted, ExecutedAlone}
use Rattle.uda_host.proofs.Slots.{both_stay}

-- ---- the states in between: only this command is outstanding

abbrev with_due : HostState → Command → ℕ → List ℕ → ℕ → HostState
with_due start c fetches memory turns = record start {
  memory = memory;
  due = c ∷ [];
  waiting = [];
  credits = start.credits - 1;
  turns = turns;
  fetches = fetches;
}

-- posted, and fetched or not, by the count of fetches
pub record IsDue (start : HostState) (c : Command) (fetches : ℕ) (host : HostState) : Type 0 where
  pub buffers : BuffersStay start.memory host.memory
  pub turns : ℕ
  pub is : host ≡ with_due start c fetches host.memory turns

-- executed, and its end message is queued
pub record IsDone (start : HostState) (c : Command) (host : HostState) : Type 0 where
  pub end : End
  pub before : List ℕ
  pub buffers : BuffersStay start.memory before
  pub executes : Executes c start.units before end host.units host.memory
  pub turns : ℕ
  pub load : ℕ
  pub none_due : host.due ≡ []
  pub is : host ≡ record (with_due start c (start.taken + 1) host.memory turns) {
    units = host.units;
    due = host.due;
    waiting = end ∷ [];
    load = load;
  }

-- ---- the steps between them

pub is_posted : {start host : HostState} {c : Command} → IsIdle start → IsConsistent start → Posts c start host
    → IsDue start c start.taken host
is_posted {start} {host} {c} idle before p =
    let none_due = idle.none_due in let none_wait = idle.none_wait in
    let fetches : start.fetches ≡ start.taken =
    omega (
      arith,
      before.done_were_fetched,
      before.fetched_were_posted,
      ap length none_due,
      ap length none_wait,
    ) in
    record {
      buffers = p.buffers;
      turns = start.turns;
      is = p.is ∙ (λ i. record start {
        memory = host.memory;
        due = none_due i ++ c ∷ [];
        waiting = none_wait i;
        credits = start.credits - 1;
        fetches = fetches i;
      });
    }

pub is_fetched : {start old new : HostState} {c : Command} (read : Option End) → IsDue start c start.taken old
    → StepEffect old read new → IsConsistent new → IsDue start c (start.taken + 1) new
is_fetched {start} {old} {new} {c} read was goes consistent =
    by read (subst (λ (h : HostState). StepEffect h read new) was.is goes)
  where
    by : (read : Option End) → StepEffect (with_due start c start.taken old.memory was.turns) read new
        → IsDue start c (start.taken + 1) new
    by None (OneFetched f) = record {
      buffers = both_stay was.buffers f.buffers;
      turns = was.turns + 1;
      is = f.is;
    }
    by None (OneDone d) = absurd (omega (arith, (subst IsConsistent d.is consistent).done_were_fetched))
    by (Some end) d = let none = d.none_due in absurd (cc)

pub is_done : {start old new : HostState} {c : Command} (read : Option End)
    → IsDue start c (start.taken + 1) old → StepEffect old read new → IsConsistent new → IsDone start c new
is_done {start} {old} {new} {c} read was goes consistent =
    by read (subst (λ (h : HostState). StepEffect h read new) was.is goes)
  where
    by : (read : Option End) → StepEffect (with_due start c (start.taken + 1) old.memory was.turns) read new
        → IsDone start c new
    by None (OneFetched f) = absurd (omega (arith, (subst IsConsistent f.is consistent).fetched_were_posted))
    by None (OneDone d) =
        let taken = d.executes.taken in
        let first : d.place ≡ 0 = omega (arith, taken.may.stands) in
        let it : Some c ≡ Some d.executes.command = ap (slice_get (c ∷ [])) (sym first) ∙ taken.stands in
        let is_c : d.executes.command ≡ c = cc in
        record {
          end = d.end;
          before = old.memory;
          buffers = was.buffers;
          executes = subst (λ (e : Command). Executes e start.units old.memory d.end new.units new.memory)
              is_c d.executes.executes;
          turns = was.turns + 1;
          load = start.load + 1;
          none_due = taken.taken ∙ ap (remove (c ∷ [])) first;
          is = d.is;
        }
    by (Some end) d = let none = d.none_due in absurd (cc)

-- the first two of its three turns
pub two_turns : {start posted fetched done : HostState} {c : Command} (first second : Option End)
    → IsIdle start → IsConsistent start → Posts c start posted
    → StepEffect posted first fetched → IsConsistent fetched → StepEffect fetched second done → IsConsistent done
    → IsDone start c done
two_turns first second idle before posts fetch consistent does adds_up_again =
    is_done second (is_fetched first (is_posted idle before posts) fetch consistent) does adds_up_again

-- and the third
module _ {start old new : HostState} {c : Command} (was : IsDone start c old) where
  pub is_taken : (end : End) → TakesEnd old end new → ExecutedAlone start c end new
  is_taken end takes =
      let d = rw was.is at takes in
      let waited = d.waited in
      let end_is : was.end ≡ end = cc in
      let none : new.waiting ≡ [] = cc in
      record {
        before = was.before;
        after = old.memory;
        buffers_before = was.buffers;
        executes = subst₂ (λ (e : End) (units : List (Option UnitState)).
            Executes c start.units was.before e units old.memory) end_is
            (sym (ap (λ (h : HostState). h.units) d.is)) was.executes;
        buffers_after = d.buffers;
        idle = record { none_due = ap (λ (h : HostState). h.due) d.is ∙ was.none_due; none_wait = none };
        credits_are = ap (λ (h : HostState). h.credits) d.is;
        one_taken = ap (λ (h : HostState). h.taken) d.is;
      }

  -- a turn always has an effect
  pub never_works : TurnWithoutEnd old new → IsConsistent new → ⊥
  never_works works consistent = by (subst (λ (h : HostState). TurnWithoutEnd h new) was.is works)
    where
      by : TurnWithoutEnd (record (with_due start c (start.taken + 1) old.memory was.turns) {
        units = old.units;
        due = old.due;
        waiting = was.end ∷ [];
        load = was.load;
      }) new → ⊥
      by (OneFetched f) = omega (
        arith,
        (subst IsConsistent f.is consistent).fetched_were_posted,
        ap length was.none_due,
      )
      by (OneDone d) = omega (arith, d.executes.taken.may.stands, ap length was.none_due)

-- a turn is allowed as long as the command is outstanding
pub due_is_out : {start host : HostState} {c : Command} {fetches : ℕ} → IsDue start c fetches host
    → 0 < outstanding_count host
due_is_out due = omega (arith, ap outstanding_count due.is)

pub done_is_out : {start host : HostState} {c : Command} → IsDone start c host → 0 < outstanding_count host
done_is_out done = omega (arith, ap outstanding_count done.is)

-- ---- the host's own command leaves the units unchanged, and grants the credits

abbrev pub characteristics : Command
characteristics = record { reference = 1; unit = 0; op = Controller }

pub started : {units : List (Option UnitState)} {old new : HostState} {end : End} → old.units ≡ units
    → old.credits ≡ 1 → old.taken ≡ 0 → ExecutedAlone old characteristics end new → IsStarted units new
started units_are credits_are taken_is asked = record {
  idle = asked.idle;
  units_are = asked.executes.by_checks.idle refl ∙ units_are;
  credits_are = asked.credits_are ∙ ap₂ (λ (n t : ℕ). n - 1 + next_grant t) credits_are taken_is;
  one_taken = asked.one_taken ∙ ap (λ (n : ℕ). n + 1) taken_is;
}
