-- The complete effect of a transfer that succeeds, fails or is rejected; and that of a command that moves no
-- blocks.
use Rattle.std.proofs.Common.{rules, ◌≡◌, ℕ, ◌+◌, ◌*◌, ◌<◌, ◌≤◌, zero-le, Bool, true, List, [], ◌∷◌, ◌++◌, length, get_or, take, refl, sym, ap, ap₂, ◌∙◌, arith, add-one, add-zero, Option, Some, None, length-take, length-append}
use Rattle.std.specs.Prelude.{if◌then◌else◌, nat_lt, replicate, ◌&&◌, ◌||◌, IfSome}
use Rattle.std.specs.List.{concat}
use Rattle.std.proofs.lemmas.List.{take_all, take_more, set_at, length-take-le, length-replicate}
use Rattle.std.proofs.lemmas.Bool.{le-ltb}
use Rattle.std.proofs.lemmas.Bool.Decides.{nat_tests}
use Rattle.uda_mem.proofs.PutLaws.{put-nil}
use Rattle.uda_packet.specs.declared.command.Op.TheVariants as op
use Rattle.uda_packet.specs.declared.end.EndBody.TheVariants as body
use Rattle.uda_packet.specs.declared.end.Kind.TheVariants as kind
use Rattle.uda_packet.specs.Opcode.{answered_opcode, blank_body}
use Rattle.uda_disk.specs.Request as ask
use Rattle.uda_disk.specs.Status.{SUCCESS, DRIVE_ERROR}
use Rattle.uda_disk.specs.Answer.{status_of}
use Rattle.uda_exec.proofs.Words.{put, Command, Op, Kind, End, EndBody, Transfer, transfer_of, changes_blocks, StoreState, KeepsAttributes, HasWholeBlocks, Mode, Refusal, Disk, Act, blocks_for, extent_of, UnitState, disk_of, blank_answer, block_count, transfer_buffer_length, blocks_asked, bytes_asked, changes_memory, refusal_status, first_failed_check, Rejected, Accepted, check_by, with_buffer_checks, check_with, extent_in, transfer_refusal, ChangesAt, asks_by, act_of, blocks_due, bytes_landing, blocks_stored, Progress, StopsAt, TransferOutcome, Done, Lost, IsWithinRange, blocks_moved, due, blocks_written, data_read, mode_after, bytes_on, answer_on, reply, plain_body, with_bytes_moved, body_for, end_for, is_accepted, transfer_status, transfer_bytes, is_lost, bytes_of, IsBodyOf, Answers, check_on, EndsTransfer, TakesEffectOn, ServesUnit}
use Rattle.uda_disk.specs.Units.{is_infallible}
use Rattle.uda_exec.specs.Transfers.{never_fails_in}
use Rattle.uda_exec.specs.Execution.{CallsStore}
use Rattle.uda_exec.proofs.Calls.{go_none}
use Rattle.uda_exec.proofs.Changes.{changes_nothing}
use Rattle.uda_exec.proofs.Requests.{asks}
use Rattle.uda_exec.proofs.Blocks.{AreBlocks, length-bytes_at, length-concat_blocks, length-concat_take, concat_push}
use Rattle.uda_exec.proofs.Steps.{length-due_by, AreBlocks-due}
use Rattle.uda_image.specs.Store.{is_sound}
use Rattle.uda_image.proofs.SoundLaws.{sound_before, stays_sound}

-- ---- the end messages

opcode-with_bytes : (b : EndBody) (bytes : ℕ) → answered_opcode (with_bytes_moved b bytes) ≡ answered_opcode b
opcode-with_bytes (body.Moved kind old) bytes = refl
opcode-with_bytes _ bytes = refl

bytes_of-with_bytes : (b : EndBody) (bytes : ℕ) → bytes_of (with_bytes_moved b bytes) ≤ bytes
bytes_of-with_bytes (body.Moved kind old) bytes = omega arith
bytes_of-with_bytes _ bytes = zero-le

-- the plain body is the command's, with a byte count of at most its own
pub Answers-plain : (c : Command) (status bytes : ℕ) → bytes ≤ bytes_asked c.op
    → Answers c (reply c status (plain_body c.op bytes))
Answers-plain c status bytes h = record {
  reference = refl;
  unit = refl;
  body = record {
    opcode = opcode-with_bytes (blank_body c.op) bytes;
    within = omega (arith, bytes_of-with_bytes (blank_body c.op) bytes);
  };
}

-- a rejected command
status-blank : (act : Act) (status : ℕ) → status_of (blank_answer act status) ≡ status
status-blank (ask.Online protect) status = refl
status-blank _ status = refl

pub end_of-blank : (c : Command) (memory : List ℕ) (act : Act) (status : ℕ) → act_of c.op memory ≡ Some act
    → end_for c (blank_answer act status) ≡ reply c status (plain_body c.op 0)
end_of-blank c memory act status is = ap₂ (reply c) (status-blank act status) ((asks c.op memory act is).blank status)

-- ---- a command that moves no blocks

-- an action without a range returns by the mode, and writes nothing
pub record Still (o : Op) (act : Act) : Type 0 where
  pub answers : (disk : Disk) → IsBodyOf o (body_for o (answer_on Done act disk))
  pub no_extent : extent_of act ≡ None
  pub stores : (blocks : List (List ℕ)) → blocks_written act blocks ≡ []
  pub brings : (blocks : List (List ℕ)) → data_read act (due act blocks) ≡ []
  pub hard_stays : (mode : Mode) → (mode_after act mode).hard ≡ mode.hard

hard-online : (protect : Bool) (mode : Mode) → (mode_after (ask.Online protect) mode).hard ≡ mode.hard
hard-online protect mode = grind (arith, nat_tests)

still_if : (o : Op) → transfer_of o ≡ None → IfSome (act_of o []) (Still o)
still_if op.Controller none = tt
still_if (op.Online soft) none = search (rules, hard-online)
still_if _ none = search rules

-- its action doesn't depend on memory
pub act_of-same : (o : Op) (memory : List ℕ) → transfer_of o ≡ None → act_of o memory ≡ act_of o []
act_of-same o memory none = rw none refl

pub still : (o : Op) (memory : List ℕ) (act : Act) → transfer_of o ≡ None → act_of o memory ≡ Some act → Still o act
still o memory act none is =
    let same = sym (act_of-same o memory none) ∙ is in rw same at (still_if o none)

pub check_result-with_buffer_checks : (odd missing : Bool) (found : Option Refusal) (disk : Disk)
    → check_with odd missing (check_by found disk) ≡ check_by (with_buffer_checks odd missing found) disk
check_result-with_buffer_checks odd missing None disk = refl
check_result-with_buffer_checks odd missing (Some refusal) disk = refl

pub free-still : (c : Command) (act : Act) (unit : UnitState) (memory : List ℕ) → transfer_of c.op ≡ None
    → extent_of act ≡ None → check_on c act unit memory ≡ Accepted (disk_of unit)
free-still c act unit memory none still = rw (none, still, le-ltb (length memory) 0 zero-le) refl

-- the unit's mode is that of the command, and nothing else changed
pub serves_mode : (c : Command) (act : Act) (unit : UnitState) (memory : List ℕ) → transfer_of c.op ≡ None
    → act_of c.op memory ≡ Some act
    → ServesUnit c act unit memory (end_for c (answer_on Done act (disk_of unit)))
    (record unit { mode = mode_after act unit.mode }) memory
serves_mode c act unit memory none is =
    let s = still c.op memory act none is in
    let free = free-still c act unit memory none s.no_extent in
    let blocks = s.stores (due act unit.store.blocks) in
    let takes : TakesEffectOn c act (check_on c act unit memory) unit memory
    (end_for c (answer_on Done act (disk_of unit))) (record unit { mode = mode_after act unit.mode }) memory =
    rw free (record {
      outcome = Done;
      fits = record { acting = λ lost. absurd (cc); count = tt };
      end_is = refl;
      memory_is = rw (s.brings unit.store.blocks, put-nil) refl;
      disk_is = rw (blocks, put-nil) refl;
      failures_are = sym (add-zero unit.store.failures);
      calls = rw none (go_none unit.store.failing_call);
      infallible = λ never. refl;
    }) in
    record {
      answers = record { reference = refl; unit = refl; body = s.answers (disk_of unit) };
      memory_stays = changes_nothing memory _ _;
      attributes_stay = rw (s.hard_stays unit.mode) refl;
      mode_stays = λ transfers. let not = rw none at transfers in absurd (cc);
      unit_stays = λ idle. let not = rw free at idle in absurd (cc);
      ends = λ transfers acting. let not = rw none at transfers in absurd (cc);
      takes_effect = λ trusted. takes;
      sound_before = λ sound. sound;
      takes_effect_if_sound = λ trusted. takes;
    }

-- ---- a transfer

-- the properties of a transfer that passes its checks
pub record Passes (t : Transfer) (memory size : ℕ) : Type 0 where
  pub on_unit : t.lbn + block_count t ≤ size
  pub in_memory : t.buffer + transfer_buffer_length t ≤ memory

pub passes_if : (t : Transfer) (memory size : ℕ) (mode : Mode) → transfer_refusal t memory size mode ≡ None
    → Passes t memory size
passes_if t memory size mode h = record { on_unit = grind (arith, nat_tests); in_memory = grind (arith, nat_tests) }

-- the store of an infallible unit doesn't fail in a transfer that passes its checks
never_fails_there : (t : Transfer) (memory : ℕ) (store : StoreState) (mode : Mode)
    → transfer_refusal t memory store.size mode ≡ None
    → store.never_fails.reads && (store.never_fails.writes || mode.hard) ≡ true → never_fails_in t.kind store ≡ true
never_fails_there t memory store mode passed never = grind (arith, nat_tests)

-- the first k blocks and the content of block k
pub moved-lost : (k : ℕ) (left : List ℕ) (blocks : List (List ℕ)) → k < length blocks
    → blocks_moved (Lost k left) blocks ≡ take k blocks ++ left ∷ []
moved-lost k left blocks h =
    rw (← add-one, take_more blocks k [] h)
    (set_at (take k blocks) (get_or blocks k []) [] left k (length-take-le k blocks (omega arith)))

pub told_there : (o : TransferOutcome) (n : ℕ) (bs : List (List ℕ)) → AreBlocks bs → length bs ≡ blocks_for n
    → IsWithinRange (blocks_for n) o → transfer_bytes o n ≤ length (take n (concat (blocks_moved o bs)))
told_there Done n bs h e f = omega (arith, length-concat_blocks bs h, length-take n (concat bs))
told_there (Lost k left) n bs h e f =
    rw (moved-lost k left bs (omega (arith, f.0)), concat_push) (simp (length-take, length-append)
    (omega (arith, f.0, length-concat_take bs k h (omega (arith, f.0)))))

-- the action of a transfer, by its kind
module _ (t : Transfer) (memory : List ℕ) where
  pub extent-asks : (k : Kind) → extent_of (asks_by k t memory)
      ≡ Some (record { lbn = t.lbn; bytes = t.bytes; writes = changes_blocks k })
  extent-asks kind.Write = rw (length-bytes_at memory t.buffer t.bytes) refl
  extent-asks _ = refl

  mode-asks : (k : Kind) (mode : Mode) → mode_after (asks_by k t memory) mode ≡ mode
  mode-asks kind.Access mode = refl
  mode-asks _ mode = refl

  blocks_written-asks : (k : Kind) (blocks : List (List ℕ)) → blocks_written (asks_by k t memory) blocks
      ≡ (if changes_blocks k then blocks else [])
  blocks_written-asks kind.Access blocks = refl
  blocks_written-asks _ blocks = refl

  data_read-asks : (k : Kind) (blocks : List (List ℕ)) → data_read (asks_by k t memory) blocks
      ≡ (if changes_memory k then take t.bytes (concat blocks) else [])
  data_read-asks kind.Access blocks = refl
  data_read-asks _ blocks = refl

  -- the end message of an accepted transfer whose blocks are whole
  pub end-asks : (c : Command) (o : TransferOutcome) (disk : Disk) (k : Kind)
      → AreBlocks (due (asks_by k t memory) disk.blocks) → length (due (asks_by k t memory) disk.blocks)
      ≡ block_count t → IsWithinRange (block_count t) o
      → reply c (transfer_status o) (plain_body c.op (transfer_bytes o t.bytes))
      ≡ end_for c (answer_on o (asks_by k t memory) disk)
  end-asks c o disk kind.Read are whole f =
      rw (length-take-le (transfer_bytes o t.bytes) (bytes_on o (ask.Read t.lbn t.bytes) disk)
      (told_there o t.bytes (due (ask.Read t.lbn t.bytes) disk.blocks) are whole f)) refl
  end-asks c o disk kind.Write are whole f = rw (length-bytes_at memory t.buffer t.bytes) refl
  end-asks c o disk _ are whole f = refl

module _ (c : Command) (t : Transfer) (unit : UnitState) (memory : List ℕ)
    (is : transfer_of c.op ≡ Some t) where
  abbrev act : Act
  act = asks_by t.kind t memory

  pub asks_it : act_of c.op memory ≡ Some act
  asks_it = rw is refl

  -- for each action
  asked : (e : End) (unit_after : UnitState) (memory_left : List ℕ)
      → ServesUnit c act unit memory e unit_after memory_left
      → (a : Act) → act_of c.op memory ≡ Some a → ServesUnit c a unit memory e unit_after memory_left
  asked e unit_after memory_left s a other = let one = asks_it in let same : a ≡ act = cc in rw same s

  extent : extent_of act ≡ Some (extent_in t)
  extent = extent-asks t memory t.kind

  -- the result of its checks
  pub check_on-transfer : check_on c act unit memory ≡ check_by
      (transfer_refusal t (length memory) unit.store.size unit.mode)
      (disk_of unit)
  check_on-transfer = rw (is, extent) (check_result-with_buffer_checks _ _
      (first_failed_check (extent_in t) unit.store.size unit.mode) (disk_of unit))

  -- a transfer that fails a check is rejected, and changes nothing
  pub serves_refused : (refusal : Refusal) → transfer_refusal t (length memory) unit.store.size unit.mode
      ≡ Some refusal
      → (a : Act) → act_of c.op memory ≡ Some a → ServesUnit c a unit memory
      (reply c (refusal_status refusal) (plain_body c.op 0)) unit memory
  serves_refused refusal h =
      let b : check_on c act unit memory ≡ Rejected refusal = rw (check_on-transfer, h) refl in
      let e : End = reply c (refusal_status refusal) (plain_body c.op 0) in
      let takes : TakesEffectOn c act (check_on c act unit memory) unit memory e unit memory =
      rw b (record {
        outcome = Done;
        fits = record { acting = λ lost. absurd (cc); count = tt };
        end_is = sym (end_of-blank c memory act (refusal_status refusal) asks_it);
        memory_is = refl;
        disk_is = refl;
        failures_are = sym (add-zero unit.store.failures);
        calls = go_none unit.store.failing_call;
        infallible = λ never. refl;
      }) in
      asked e unit memory (record {
        answers = Answers-plain c (refusal_status refusal) 0 zero-le;
        memory_stays = changes_nothing memory _ _;
        attributes_stay = refl;
        mode_stays = λ transfers. refl;
        unit_stays = λ idle. refl;
        ends = λ transfers acting. let not = rw b at acting in absurd (cc);
        takes_effect = λ trusted. takes;
        sound_before = λ sound. sound;
        takes_effect_if_sound = λ trusted. takes;
      })

  module _ (passed : transfer_refusal t (length memory) unit.store.size unit.mode ≡ None) (new : StoreState)
      (memory_left : List ℕ) (attributes : KeepsAttributes unit.store new)
      (changes : ChangesAt memory t.buffer (if changes_memory t.kind then t.bytes else 0) memory_left)
      (image : is_sound unit.store ≡ true → HasWholeBlocks unit.store.size unit.store.blocks) where
    abbrev left_unit : UnitState
    left_unit = record { store = new; mode = unit.mode }

    free : check_on c act unit memory ≡ Accepted (disk_of unit)
    free = rw (check_on-transfer, passed) refl

    -- a transfer of one block or more calls the store
    is_called : 0 < block_count t → nat_lt 0 (blocks_asked c.op) && is_accepted (check_on c act unit memory) ≡ true
    is_called some = let calls : nat_lt 0 (block_count t) ≡ true = grind (arith, nat_tests) in rw (free, is, calls) refl

    -- for every store
    serves_moved : (status bytes : ℕ) → bytes ≤ t.bytes → EndsTransfer c (reply c status (plain_body c.op bytes))
        → ((0 < block_count t → is_sound new ≡ true)
        → TakesEffectOn c act (Accepted (disk_of unit)) unit memory (reply c status (plain_body c.op bytes)) left_unit
        memory_left)
        → (a : Act) → act_of c.op memory ≡ Some a
        → ServesUnit c a unit memory (reply c status (plain_body c.op bytes)) left_unit memory_left
    serves_moved status bytes few ends takes =
        asked _ _ _ (record {
          answers = Answers-plain c status bytes (rw is few);
          memory_stays = rw is changes;
          attributes_stay = rw (
            attributes.size_stays,
            attributes.faithful_stays,
            attributes.never_fails_stays,
            attributes.lent_stays,
          ) refl;
          mode_stays = λ transfers. refl;
          unit_stays = λ idle. let not = rw free at idle in absurd (cc);
          ends = λ transfers acting. ends;
          takes_effect = λ trusted. rw free (takes (λ some. stays_sound attributes (trusted (is_called some))));
          sound_before = sound_before attributes;
          takes_effect_if_sound = λ trusted. rw free (takes (λ some. trusted (is_called some)));
        })

    module _ (called : 0 < block_count t → is_sound new ≡ true) where
      abbrev due_now : List (List ℕ)
      due_now = blocks_due t unit.store.blocks memory

      image_there : 0 < block_count t → HasWholeBlocks unit.store.size unit.store.blocks
      image_there some = image (sound_before attributes (called some))

      whole : length due_now ≡ block_count t
      whole = length-due_by t unit.store.blocks memory t.kind (λ reads some. rw (image_there some).counted
          (passes_if t (length memory) unit.store.size unit.mode passed).on_unit)

      -- for every outcome: if the blocks and bytes are as it says, the transfer has its complete effect
      takes : (o : TransferOutcome) (front : List (List ℕ)) → blocks_moved o due_now ≡ front
          → IsWithinRange (block_count t) o
          → memory_left ≡ put memory t.buffer (bytes_landing t front)
          → new.blocks ≡ put unit.store.blocks t.lbn (blocks_stored t front)
          → new.failures ≡ unit.store.failures + (if is_lost o then 1 else 0)
          → CallsStore o (block_count t) unit.store.failing_call new.failing_call
          → (is_infallible (Some (Some unit)) ≡ true → o ≡ Done)
          → TakesEffectOn c act (Accepted (disk_of unit)) unit memory
          (reply c (transfer_status o) (plain_body c.op (transfer_bytes o t.bytes))) left_unit memory_left
      takes o front all fits in_memory in_store failed calls infallible =
          let bytes : bytes_on o act (disk_of unit) ≡ bytes_landing t front = data_read-asks t memory t.kind
          (blocks_moved o due_now) ∙ ap (bytes_landing t) all in
          let blocks : blocks_written act (blocks_moved o due_now) ≡ blocks_stored t front =
          blocks_written-asks t memory t.kind (blocks_moved o due_now) ∙ ap (blocks_stored t) all in
          record {
            outcome = o;
            fits = record { acting = λ lost. refl; count = rw is fits };
            end_is = end-asks t memory c o (disk_of unit) t.kind
                (AreBlocks-due t unit.store.blocks memory (λ some. (image_there some).whole)) whole fits;
            memory_is = rw (is, bytes) in_memory;
            disk_is = rw (extent, blocks, mode-asks t memory t.kind unit.mode, in_store, attributes.size_stays) refl;
            failures_are = failed;
            calls = rw is calls;
            infallible = infallible;
          }

    pub serves_done : ((0 < block_count t → is_sound new ≡ true)
        → Progress t (block_count t) unit.store memory new memory_left)
        → (a : Act) → act_of c.op memory ≡ Some a
        → ServesUnit c a unit memory (reply c SUCCESS (plain_body c.op t.bytes)) left_unit memory_left
    serves_done moves =
        serves_moved SUCCESS t.bytes (omega arith) (record { outcome = Done; count = tt; end_is = rw is refl })
        (λ called.
        let all : take (block_count t) (due_now called) ≡ due_now called = take_all _ _ (omega (arith, whole called)) in
        let stand = rw all at (moves called).stand in
        takes called Done (due_now called) refl tt stand.in_memory stand.in_store
        ((moves called).failures_stay ∙ sym (add-zero unit.store.failures)) (moves called).calls (λ never. refl))

    -- it may fail at a block of its range
    pub serves_lost : (k : ℕ) → k < block_count t → (never_fails_in t.kind unit.store ≡ true → ⊥)
        → ((0 < block_count t → is_sound new ≡ true) → StopsAt t k unit.store memory new memory_left)
        → (a : Act) → act_of c.op memory ≡ Some a
        → ServesUnit c a unit memory (reply c DRIVE_ERROR (plain_body c.op (512 * k))) left_unit memory_left
    serves_lost k inside unsure stops =
        serves_moved DRIVE_ERROR (512 * k) (omega (arith, inside)) (record {
          outcome = Lost k (replicate 512 0);
          count = rw is (inside, length-replicate {A = ℕ} 512 0);
          end_is = refl;
        }) (λ called.
        let h = stops called in
        takes called (Lost k h.left) (take k (due_now called) ++ h.left ∷ [])
        (moved-lost k h.left (due_now called) (omega (arith, whole called))) (inside, h.whole) h.stand.in_memory
        h.stand.in_store h.counted h.calls
        (λ never. absurd (unsure (never_fails_there t (length memory) unit.store unit.mode passed never))))
