-- A command over another memory of the same length, which has the same bytes where the command reads: it ends the
-- same, it changes the same units, and the bytes that its end message counts are the same there. The rest of a Read's
-- buffer is left.
use Rattle.std.proofs.Common.{◌≡◌, ℕ, ◌+◌, ◌-◌, ◌*◌, ◌<◌, ◌≤◌, min, Bool, true, List, [], ◌++◌, length, take, Option, Some, None, refl, sym, ap, ◌∙◌, arith, length-take, append-nil}
use Rattle.std.specs.Prelude.{slice_get, nat_lt, ◌&&◌, option_map}
use Rattle.std.specs.Option.{option_map_or}
use Rattle.std.specs.List.{concat}
use Rattle.std.proofs.lemmas.Bool.Decides.{nat_tests}
use Rattle.std.proofs.lemmas.List.{nil_from_length}
use Rattle.std.proofs.lemmas.Option.{slice_get-map}
use Rattle.uda_mem.proofs.PutLaws.{put-put_next, put-put_before, part-put_apart, part-put_at, length-part, get_or-part, put-nil}
use Rattle.uda_packet.specs.declared.command.Op.TheVariants as op
use Rattle.uda_packet.specs.declared.end.Kind.TheVariants as kind
use Rattle.uda_packet.specs.declared.guest_command.GuestOp.{GuestOp}
use Rattle.uda_packet.specs.declared.guest_command.GuestOp.TheVariants as guest
use Rattle.uda_packet.specs.declared.reply.Reply.{Reply}
use Rattle.uda_disk.specs.declared.refusal.Refusal.TheVariants.{UnitUnknown, NoVolume}
use Rattle.uda_disk.specs.Request as ask
use Rattle.uda_disk.specs.Units.{Units, failing_call_at, is_sound_at}
use Rattle.uda_exec.specs.Commands.{memory_read_length}
use Rattle.uda_exec.specs.Execution.{CallsStore, TakesEffect, HasWholeStore, blocks_called}
use Rattle.uda_exec.specs.GuestExecution.{ExecutesAs}
use Rattle.uda_exec.specs.BufferUse.{read_length, changed_length, moved_length}
use Rattle.uda_exec.specs.Compare.{byte_stored, compared_by, compared, byte_held, IsVerdict, FitsTransfer, ComparesBlocks, ComparesSlot, ComparesUnit}
use Rattle.uda_exec.specs.declared.compare.Verdict.{Verdict}
use Rattle.uda_exec.specs.declared.compare.Verdict.TheVariants as verdict
use Rattle.uda_exec.proofs.Words.{transfer_refusal, put, part, Op, Transfer, transfer_of, End, Act, Command, Refusal, Disk, UnitState, disk_of, CheckResult, Rejected, Accepted, check_by, TransferOutcome, Done, Lost, is_lost, IsWithinRange, transfer_status, transfer_bytes, due, blocks_moved, World, bytes_on, bytes_at, bytes_of, answer_on, end_for, reply, plain_body, blocks_for, HasWholeBlocks, buffer_start, memory_write_length, act_of, passes_checks, passes_checks_by, is_accepted, check_of, check_in, does, effect_by, effect, world_of, Executes, ChangesAt, FailureFits, blocks_asked}
use Rattle.uda_exec.proofs.Steps.{length-due_by}
use Rattle.uda_exec.proofs.Blocks.{length-concat_take, concat_push, take_behind, AreBlocks, AreBlocks-part, length-bytes_at, put_back}
use Rattle.uda_exec.proofs.Changes.{changes_by_put, changes_nothing}
use Rattle.uda_exec.proofs.Requests.{asks, act_shared}
use Rattle.uda_exec.proofs.Transferred.{check_on-transfer, Passes, passes_if, end-asks, moved-lost, told_there}
use Rattle.uda_exec.proofs.Units.{slot_in, sound_if_faithful}

-- an empty range that is carried changes nothing
put_none : (other left : List ℕ) (at n : ℕ) → n ≡ 0 → put other at (part left at n) ≡ other
unfolding part
put_none other left at n none = rw (none, put-nil) refl

-- the same result with another memory
abbrev with_memory : List ℕ → End × World → End × World
with_memory memory r = (r.0, record { memory = memory; disks = r.1.disks })

-- ---- any command, and one that changes no memory

module _ (c : Command) (units units_after : Units) (memory other left : List ℕ) (e : End)
    (same : length other ≡ length memory)
    (shared : part other (buffer_start c.op) (memory_read_length c.op)
    ≡ part memory (buffer_start c.op) (memory_read_length c.op)) where
  asks_same : act_of c.op other ≡ act_of c.op memory
  asks_same = act_shared c.op memory other shared

  check_same : (act : Act) → check_of c act (world_of units other) ≡ check_of c act (world_of units memory)
  check_same act = rw same refl

  passes_by_same : (asked : Option Act)
      → passes_checks_by c asked (world_of units other) ≡ passes_checks_by c asked (world_of units memory)
  passes_by_same None = refl
  passes_by_same (Some act) = ap is_accepted (check_same act)

  passes_same : passes_checks c (world_of units other) ≡ passes_checks c (world_of units memory)
  passes_same = rw asks_same (passes_by_same (act_of c.op memory))

  module _ (there : List ℕ) where
    -- with this effect of each outcome there
    takes_effect_there : (outcome_there : TransferOutcome → TransferOutcome)
        (t : TakesEffect c units memory e units_after left)
        → FailureFits (outcome_there t.outcome) (blocks_asked c.op) (passes_checks c (world_of units memory))
        → (e, world_of units_after there) ≡ effect (outcome_there t.outcome) c (world_of units other)
        → is_lost (outcome_there t.outcome) ≡ is_lost t.outcome
        → CallsStore (outcome_there t.outcome) (blocks_called c (passes_checks c (world_of units memory)))
        (failing_call_at (slice_get units c.unit)) (failing_call_at (slice_get units_after c.unit))
        → (t.outcome ≡ Done → outcome_there t.outcome ≡ Done)
        → TakesEffect c units other e units_after there
    takes_effect_there outcome_there t fits is lost calls done = record {
      outcome = outcome_there t.outcome;
      fits = rw passes_same fits;
      effect_is = is;
      failures_are = rw lost t.failures_are;
      calls = rw passes_same calls;
      infallible = λ never. done (t.infallible never);
    }

    -- and all else
    executes_there : ChangesAt other (buffer_start c.op) (memory_write_length c.op) there
        → (memory_write_length c.op ≡ 0 → there ≡ other)
        → ((nat_lt 0 (blocks_asked c.op) && passes_checks c (world_of units memory) ≡ true
        → is_sound_at (slice_get units c.unit) ≡ true)
        → TakesEffect c units memory e units_after left → TakesEffect c units other e units_after there)
        → Executes c units memory e units_after left → Executes c units other e units_after there
    executes_there changes kept takes x = record {
      answers = x.answers;
      memory_stays = changes;
      memory_is_kept = kept;
      others_stay = x.others_stay;
      all_attributes_stay = x.all_attributes_stay;
      modes_stay = x.modes_stay;
      by_checks = rw passes_same x.by_checks;
      takes_effect = λ faithful.
          takes (λ calls. sound_if_faithful (slice_get units c.unit) (faithful (rw passes_same calls)))
          (x.takes_effect (λ calls. faithful (rw passes_same calls)));
      sound_before = x.sound_before;
      whole_before = rw passes_same x.whole_before;
      well_formed_if_sound = x.well_formed_if_sound;
      takes_effect_if_sound = λ sound.
          takes (λ calls. x.sound_before c.unit (sound (rw passes_same calls)))
          (x.takes_effect_if_sound (λ calls. sound (rw passes_same calls)));
    }

  module _ (keeps : memory_write_length c.op ≡ 0) where
    effect_by_same : (o : TransferOutcome) (asked : Option Act) → act_of c.op memory ≡ asked
        → with_memory other (effect_by o c asked (world_of units memory)) ≡ effect_by o c asked (world_of units other)
    effect_by_same o None is = refl
    effect_by_same o (Some act) is = rw (check_same act) (by_check (check_of c act (world_of units memory)))
      where
        by_check : (b : CheckResult) → with_memory other (does o c act b (world_of units memory))
            ≡ does o c act b (world_of units other)
        by_check (Rejected refusal) = refl
        by_check (Accepted disk) =
            let brings = (asks c.op memory act is).brings (blocks_moved o (due act disk.blocks)) in
            rw (nil_from_length (bytes_on o act disk) (omega arith), put-nil) refl

    executes_unread : Executes c units memory e units_after left → Executes c units other e units_after other
    executes_unread =
        executes_there other (changes_nothing other (buffer_start c.op) (memory_write_length c.op)) (λ none. refl)
        (λ sound t. takes_effect_there other (λ o. o) t t.fits
        (rw asks_same (ap (with_memory other) t.effect_is ∙ effect_by_same t.outcome (act_of c.op memory) refl))
        refl t.calls (λ done. done))

-- ---- a Read

-- the first of the bytes that were written at an address
first_written : (xs : List ℕ) (at : ℕ) (first rest : List ℕ) → at + length first ≤ length xs
    → part (put xs at (first ++ rest)) at (length first) ≡ first
first_written xs at first rest room =
    rw (← put-put_next xs at first rest (at + length first) refl)
    (part-put_apart (put xs at first) (at + length first) rest at (length first) (λ meet. omega arith)
    ∙ part-put_at xs at (length first) first room refl)

module _ (reference unit bytes address lbn : ℕ) (units units_after : Units) (memory other left : List ℕ) (e : End)
    (same : length other ≡ length memory) where
  abbrev read : Command
  read = record { reference = reference; unit = unit; op = op.Read bytes address lbn }

  abbrev t_of : Transfer
  t_of = record { kind = kind.Read; bytes = bytes; lbn = lbn; buffer = address }

  abbrev act : Act
  act = ask.Read lbn bytes

  abbrev count : ℕ
  count = blocks_for bytes

  -- the other memory afterwards
  abbrev left_there : List ℕ
  left_there = put other address (part left address (min bytes (bytes_of e.body)))

  -- a Read reads none of its buffer
  none_read : part other address 0 ≡ part memory address 0
  unfolding part
  none_read = refl

  -- a failed block leaves what the other memory had
  abbrev outcome_there : TransferOutcome → TransferOutcome
  outcome_there Done = Done
  outcome_there (Lost k block) = Lost k (bytes_at other (address + 512 * k) 512)

  within_there : (o : TransferOutcome) → IsWithinRange count o → IsWithinRange count (outcome_there o)
  within_there Done f = f
  within_there (Lost k block) f = (f.0, length-bytes_at other (address + 512 * k) 512)

  module _ (disk : Disk) (passes : Passes t_of (length memory) disk.size)
      (image : 0 < count → HasWholeBlocks disk.size disk.blocks) where
    abbrev due_blocks : List (List ℕ)
    due_blocks = part disk.blocks lbn count

    are_blocks : AreBlocks due_blocks
    are_blocks = AreBlocks-part disk.blocks lbn count (λ some. (image some).whole)

    all_due : length due_blocks ≡ count
    all_due = length-due_by t_of disk.blocks memory kind.Read (λ reads some. rw (image some).counted passes.on_unit)

    end_is : (o : TransferOutcome) → IsWithinRange count o
        → reply read (transfer_status o) (plain_body read.op (transfer_bytes o bytes))
        ≡ end_for read (answer_on o act disk)
    end_is o f = end-asks t_of memory read o disk kind.Read are_blocks all_due f

    ends_same : (o : TransferOutcome) → IsWithinRange count o
        → end_for read (answer_on o act disk) ≡ end_for read (answer_on (outcome_there o) act disk)
    ends_same Done f = refl
    ends_same (Lost k block) f =
        sym (end_is (Lost k block) f) ∙ end_is (outcome_there (Lost k block)) (within_there (Lost k block) f)

    -- the blocks before block k, and any content of it
    abbrev first_blocks : ℕ → List ℕ
    first_blocks k = concat (take k due_blocks)

    first_long : (k : ℕ) → k < count → length (first_blocks k) ≡ 512 * k
    first_long k inside = length-concat_take due_blocks k are_blocks (omega (arith, all_due))

    brings_lost : (k : ℕ) (block : List ℕ) → k < count
        → bytes_on (Lost k block) act disk ≡ first_blocks k ++ take (bytes - 512 * k) block
    brings_lost k block inside =
        rw (moved-lost k block due_blocks (omega (arith, all_due)), concat_push)
        (take_behind bytes (512 * k) (first_blocks k) block (first_long k inside) (omega arith))

    -- the bytes that the end message counts are carried
    carries_first : (o : TransferOutcome) (first rest : List ℕ) → IsWithinRange count o
        → (e, world_of units_after left) ≡ does o read act (Accepted disk) (world_of units memory)
        → bytes_on o act disk ≡ first ++ rest → min bytes (transfer_bytes o bytes) ≡ length first
        → left_there ≡ put other address first
    carries_first o first rest f is brought counted =
        let wrote : left ≡ put memory address (first ++ rest) =
        ap (λ (r : End × World). r.1.memory) is ∙ ap (put memory address) brought in
        let ends : bytes_of e.body ≡ transfer_bytes o bytes =
        ap (λ (r : End × World). bytes_of r.0.body) is ∙ ap (λ (x : End). bytes_of x.body) (sym (end_is o f)) in
        rw (
          ap (min bytes) ends ∙ counted,
          wrote,
          first_written memory address first rest (omega (arith, passes.in_memory, counted)),
        ) refl

    carries : (o : TransferOutcome) → IsWithinRange count o
        → (e, world_of units_after left) ≡ does o read act (Accepted disk) (world_of units memory)
        → left_there ≡ put other address (bytes_on (outcome_there o) act disk)
    carries Done f is =
        let all = told_there Done bytes due_blocks are_blocks all_due f in
        carries_first Done (bytes_on Done act disk) [] f is (sym (append-nil (bytes_on Done act disk)))
        (omega (arith, all, length-take bytes (concat due_blocks)))
    carries (Lost k block) f is =
        let first = first_blocks k in
        let long = first_long k f.0 in
        let own : List ℕ = bytes_at other (address + 512 * k) 512 in
        let rest : List ℕ = take (bytes - 512 * k) own in
        rw (
          brings_lost k own f.0,
          ← put-put_before other address first rest (address + 512 * k) (omega (arith, long)),
          put_back other (address + 512 * k) (bytes - 512 * k) (omega (arith, passes.in_memory, f.0)),
        )
        (carries_first (Lost k block) first (take (bytes - 512 * k) block) f is (brings_lost k block f.0)
        (omega (arith, long, f.0)))

    effect_on : (o : TransferOutcome) → IsWithinRange count o
        → (e, world_of units_after left) ≡ does o read act (Accepted disk) (world_of units memory)
        → (e, world_of units_after left_there)
        ≡ does (outcome_there o) read act (Accepted disk) (world_of units other)
    effect_on o f is =
        rw (carries o f is) (ap (with_memory (put other address (bytes_on (outcome_there o) act disk))) is
        ∙ same_effect o f)
      where
        same_effect : (o : TransferOutcome) → IsWithinRange count o
            → with_memory (put other address (bytes_on (outcome_there o) act disk))
            (does o read act (Accepted disk) (world_of units other))
            ≡ does (outcome_there o) read act (Accepted disk) (world_of units other)
        same_effect Done f = refl
        same_effect (Lost k block) f =
            rw (ends_same (Lost k block) f) refl

  -- a rejected Read moves nothing
  rejected : (o : TransferOutcome) (refusal : Refusal)
      → (e, world_of units_after left) ≡ does o read act (Rejected refusal) (world_of units memory)
      → (e, world_of units_after left_there) ≡ does (outcome_there o) read act (Rejected refusal) (world_of units other)
  rejected o refusal is =
      let none : bytes_of e.body ≡ 0 = ap (λ (r : End × World). bytes_of r.0.body) is in
      rw (put_none other left address (min bytes (bytes_of e.body)) (omega (arith, none))) (ap (with_memory other) is)

  -- the result of its checks
  abbrev checked : Option (Option UnitState) → CheckResult
  checked slot = check_in read.op act (length memory) (option_map (option_map disk_of) slot)

  abbrev passing : Bool
  passing = passes_checks read (world_of units memory)

  module _ (whole : passing ≡ true → HasWholeStore (slice_get units unit))
      (sound : nat_lt 0 count && passing ≡ true → is_sound_at (slice_get units unit) ≡ true) where
    effect_by_slot : (o : TransferOutcome) → IsWithinRange count o → (slot : Option (Option UnitState))
        → slice_get units unit ≡ slot
        → (e, world_of units_after left) ≡ does o read act (checked slot) (world_of units memory)
        → (e, world_of units_after left_there) ≡ does (outcome_there o) read act (checked slot) (world_of units other)
    effect_by_slot o f None here is = rejected o UnitUnknown is
    effect_by_slot o f (Some None) here is = rejected o NoVolume is
    effect_by_slot o f (Some (Some u)) here is = by_refusal (transfer_refusal t_of
        (length memory) u.store.size u.mode) refl
      where
        checks : checked (Some (Some u)) ≡ check_by (transfer_refusal t_of (length memory) u.store.size u.mode)
            (disk_of u)
        checks = check_on-transfer read t_of u memory refl

        by_refusal : (found : Option Refusal) → transfer_refusal t_of (length memory) u.store.size u.mode ≡ found
            → (e, world_of units_after left_there)
            ≡ does (outcome_there o) read act (checked (Some (Some u))) (world_of units other)
        by_refusal (Some refusal) found = rw (checks, found) (rejected o refusal (rw (checks, found) at is))
        by_refusal None found =
            let passes : passing ≡ true = rw (slot_in units unit (Some (Some u)) here, checks, found) refl in
            let calls : nat_lt 0 count ≡ true → nat_lt 0 count && passing ≡ true = λ some. rw (some, passes) refl in
            rw (checks, found) (effect_on (disk_of u) (passes_if t_of (length memory) u.store.size u.mode found)
            (λ some. (rw here at (whole passes)) (rw here at (sound (calls (grind (arith, nat_tests))))))
            o f (rw (checks, found) at is))

    takes_read : TakesEffect read units memory e units_after left
        → TakesEffect read units other e units_after left_there
    takes_read t =
        let slot = slice_get-map (option_map disk_of) units unit in
        takes_effect_there read units units_after memory other left e same none_read left_there outcome_there t
        (record {
          acting = λ lost. t.fits.acting (sym (lost_same t.outcome) ∙ lost);
          count = within_there t.outcome t.fits.count;
        })
        (rw (same, slot) (effect_by_slot t.outcome t.fits.count (slice_get units unit) refl (rw slot at t.effect_is)))
        (lost_same t.outcome) (rw (calls_same t.outcome) t.calls) (done_same t.outcome)
      where
        lost_same : (o : TransferOutcome) → is_lost (outcome_there o) ≡ is_lost o
        lost_same Done = refl
        lost_same (Lost k block) = refl

        calls_same : (o : TransferOutcome) → CallsStore (outcome_there o) ≡ CallsStore o
        calls_same Done = refl
        calls_same (Lost k block) = refl

        done_same : (o : TransferOutcome) → o ≡ Done → outcome_there o ≡ Done
        done_same Done is = refl
        done_same (Lost k block) is = absurd (cc)

  executes_read : Executes read units memory e units_after left → Executes read units other e units_after left_there
  executes_read x =
      executes_there read units units_after memory other left e same none_read left_there
      (changes_by_put other address bytes address (part left address (min bytes (bytes_of e.body))) (omega arith)
      (omega (arith, length-part left address (min bytes (bytes_of e.body)))))
      (λ none. put_none other left address (min bytes (bytes_of e.body)) (omega (arith, none)))
      (takes_read x.whole_before) x

-- ---- a command without an additional operation

module _ (units units_after : Units) (memory other left : List ℕ) (e : End) (same : length other ≡ length memory) where
  abbrev make : ℕ → ℕ → Op → Command
  make reference unit o = record { reference = reference; unit = unit; op = o }

  -- the other memory afterwards
  abbrev there_by : Op → List ℕ
  there_by o = put other (buffer_start o) (part left (buffer_start o) (min (memory_write_length o) (bytes_of e.body)))

  executes_by : (o : Op) (reference unit : ℕ)
      → part other (buffer_start o) (memory_read_length o) ≡ part memory (buffer_start o) (memory_read_length o)
      → Executes (make reference unit o) units memory e units_after left
      → Executes (make reference unit o) units other e units_after (there_by o)
  executes_by (op.Read bytes address lbn) reference unit shared x =
      executes_read reference unit bytes address lbn units units_after memory other left e same x
  executes_by o reference unit shared x =
      rw (put_none other left (buffer_start o) (min (memory_write_length o) (bytes_of e.body)) (omega arith))
      (executes_unread (make reference unit o) units units_after memory other left e same shared refl x)

-- ---- a comparison

module _ (t : Transfer) (memory other : List ℕ) (shared : part other t.buffer t.bytes ≡ part memory t.buffer t.bytes)
  where
    held_same : (i : ℕ) → i < t.bytes → byte_held t other i ≡ byte_held t memory i
    held_same i below =
        rw (
          ← get_or-part other t.buffer t.bytes i 0 below,
          ← get_or-part memory t.buffer t.bytes i 0 below,
          shared,
        ) refl

    verdict_there : (v : Verdict) (f : ℕ → ℕ) → FitsTransfer t v → IsVerdict t v f (byte_held t memory)
        → IsVerdict t v f (byte_held t other)
    verdict_there verdict.Equal f fits is = λ i below. is i below ∙ sym (held_same i below)
    verdict_there (verdict.Differs n) f fits is = record {
      same = λ i below. is.same i below ∙ sym (held_same i (omega (arith, fits)));
      other = λ equal. is.other (equal ∙ held_same n fits);
    }
    verdict_there (verdict.Lost k) f fits is = λ i below. is i below ∙ sym (held_same i (omega (arith, fits)))

module _ (c : Command) (memory other : List ℕ) (r : Reply) (same : length other ≡ length memory)
    (shared : part other (compared c.op).buffer (compared c.op).bytes
    ≡ part memory (compared c.op).buffer (compared c.op).bytes) where
  by_refusal : (unit unit_after : UnitState) (refusal : Option Refusal)
      → ComparesUnit refusal c unit memory r unit_after → ComparesUnit refusal c unit other r unit_after
  by_refusal unit unit_after (Some refusal) x = x
  by_refusal unit unit_after None x =
      let there : ComparesBlocks (compared c.op) x.0 unit.store memory unit_after.store
      → ComparesBlocks (compared c.op) x.0 unit.store other unit_after.store =
      λ b. search (verdict_there (compared c.op) memory other shared x.0 (byte_stored (compared c.op) unit.store.blocks)
      x.1.fits) in (x.0, search (there, x.1.sound_before, x.1.blocks, x.1.blocks_if_sound))

  slot_there : (slot : Option (Option UnitState)) (units units_after : Units)
      → ComparesSlot slot c units memory r units_after → ComparesSlot slot c units other r units_after
  slot_there None units units_after x = x
  slot_there (Some None) units units_after x = x
  slot_there (Some (Some unit)) units units_after x = (x.0, (x.1.0, rw same (by_refusal unit x.0 _ x.1.1)))

-- the compared bytes are those of the command's buffer
compared_start : (found : Option Transfer)
    → (compared_by found).buffer ≡ option_map_or (λ (t : Transfer). t.buffer) found 0
compared_start None = refl
compared_start (Some t) = refl

-- ---- a command with its additional operation

-- it changes no more bytes than it says
pub changes_as : (o : GuestOp) (c : Command) (units units_after : Units) (memory left : List ℕ) (r : Reply)
    → ExecutesAs o c units memory r units_after left
    → ChangesAt memory (buffer_start c.op) (changed_length o c.op) left
changes_as guest.Basic c units units_after memory left r x = x.executes.memory_stays
changes_as guest.SetUnit c units units_after memory left r x =
    x.memory_stays ∙ sym (put_none memory left (buffer_start c.op) 0 refl)
changes_as guest.Compare c units units_after memory left r x =
    x.memory_stays ∙ sym (put_none memory left (buffer_start c.op) 0 refl)

-- a command that changes memory reads none
pub reads_none : (o : GuestOp) (op : Op) → 0 < changed_length o op → read_length o op ≡ 0
reads_none guest.Basic (op.Read bytes address lbn) some = refl
reads_none guest.Basic _ some = absurd (omega arith)
reads_none guest.SetUnit _ some = absurd (omega arith)
reads_none guest.Compare _ some = absurd (omega arith)

pub executes_as_elsewhere : (o : GuestOp) (c : Command) (units units_after : Units)
    (memory other left : List ℕ) (r : Reply) → length other ≡ length memory
    → part other (buffer_start c.op) (read_length o c.op) ≡ part memory (buffer_start c.op) (read_length o c.op)
    → ExecutesAs o c units memory r units_after left
    → ExecutesAs o c units other r units_after
    (put other (buffer_start c.op) (part left (buffer_start c.op) (moved_length o c.op r)))
executes_as_elsewhere guest.Basic c units units_after memory other left r same shared x = record {
  end = x.end;
  reply_is = x.reply_is;
  executes =
      rw x.reply_is
      (executes_by units units_after memory other left x.end same c.op c.reference c.unit shared x.executes);
}
executes_as_elsewhere guest.SetUnit c units units_after memory other left r same shared x = record {
  reply_is = x.reply_is;
  units_are = x.units_are;
  memory_stays = put_none other left (buffer_start c.op) (moved_length guest.SetUnit c.op r) (omega arith);
}
executes_as_elsewhere guest.Compare c units units_after memory other left r same shared x =
    let start = compared_start (transfer_of c.op) in
    record {
      slot = slot_there c memory other r same (rw start shared) (slice_get units c.unit) units units_after x.slot;
      memory_stays = put_none other left (buffer_start c.op) (moved_length guest.Compare c.op r) (omega arith);
    }
