-- Two independent commands change places if one may overtake the other. Their requests do so on the disks,
-- and what each writes to memory is outside the buffer of the other.
use Rattle.std.proofs.Common.{◌≡◌, ℕ, ◌≤◌, true, List, length, Option, Some, None, refl, ap, ap₂, ◌∙◌, arith, zero-le}
use Rattle.std.specs.Prelude.{slice_get, option_map}
use Rattle.uda_mem.proofs.PutLaws.{length-put, put-put_comm, put-nil}
use Rattle.uda_packet.specs.declared.command.Op.TheVariants as op
use Rattle.uda_packet.specs.Opcode.{blank_body}
use Rattle.uda_disk.specs.Status.{SUCCESS}
use Rattle.uda_disk.proofs.Runs.{Swaps, swaps_idle, swaps_sym}
use Rattle.uda_disk.proofs.Swap as item
use Rattle.uda_disk.proofs.Swap.{Item, Told, judge, told, does_by}
use Rattle.uda_exec.proofs.Words.{put, Overlap, Command, Op, End, Disk, Disks, Act, Request, CheckResult, Rejected, Accepted, blocks_moved, due, with_buffer_checks, is_odd, is_missing, buffer_start, buffer_length, act_of, World, reply, end_for, check_in, does, command_may_overtake, AreIndependent, FixedCommand, effect_of}
use Rattle.uda_exec.proofs.Changes.{landing-le}
use Rattle.uda_exec.proofs.Transferred.{check_result-with_buffer_checks}
use Rattle.uda_exec.proofs.Requests.{Asks, asks, act_of-put}

-- ---- the effect of a command, by its request

-- the request of a command with this action, in a memory of this many bytes
abbrev pub item_of : FixedCommand → Act → ℕ → Item
item_of x act n =
    let o = x.command.op in
    record {
      request = record { unit = x.command.unit; act = act };
      outcome = x.outcome;
      check = with_buffer_checks (is_odd (buffer_start o)) (is_missing (buffer_start o) (buffer_length o) n);
    }

judged : (x : FixedCommand) (act : Act) (n : ℕ) (slot : Option (Option Disk)) → check_in x.command.op act n slot
    ≡ judge (item_of x act n) slot
judged x act n (Some (Some d)) = check_result-with_buffer_checks _ _ _ d
judged x act n _ = refl

-- the end message reports what the request reports, and its bytes are in the buffer
abbrev pub lands : Command → List ℕ → Told × Disks → End × World
lands c memory r = (end_for c r.0.0, record { memory = put memory (buffer_start c.op) r.0.1; disks = r.1 })

lands-does : (x : FixedCommand) (act : Act) (b : CheckResult) (w : World) → does x.outcome x.command act b w
    ≡ lands x.command w.memory (does_by (item_of x act (length w.memory)) b w.disks)
lands-does x act (Accepted d) w = refl
lands-does x act (Rejected refusal) w = rw (put-nil w.memory (buffer_start x.command.op)) refl

pub effect-lands : (x : FixedCommand) (act : Act) (w : World) → act_of x.command.op w.memory ≡ Some act
    → effect_of x w ≡ lands x.command w.memory (item.does (item_of x act (length w.memory)) w.disks)
effect-lands x act w is =
    let n = length w.memory in
    let slot = slice_get w.disks x.command.unit in
    rw (is, judged x act n slot) (lands-does x act (judge (item_of x act n) slot) w)

-- a command without an action on a unit
pub effect-none : (x : FixedCommand) (w : World) → act_of x.command.op w.memory ≡ None
    → effect_of x w ≡ (reply x.command SUCCESS (blank_body x.command.op), w)
effect-none x w is = rw is refl

-- the bytes fit the buffer
pub length-told : (x : FixedCommand) (act : Act) (n : ℕ) (b : CheckResult) → Asks x.command.op act
    → length (told (item_of x act n) b).1 ≤ buffer_length x.command.op
length-told x act n (Rejected refusal) h = zero-le
length-told x act n (Accepted d) h =
    omega (arith, h.brings (blocks_moved x.outcome (due act d.blocks)), landing-le x.command.op)

-- ---- in either order

-- buffers that don't overlap still don't if less is written
smaller : (a m b n x y : ℕ) → (Overlap a m b n → ⊥) → x ≤ m → y ≤ n → Overlap a x b y → ⊥
smaller a m b n x y h p q meet = h (omega arith)

turned : (a m b n : ℕ) → (Overlap a m b n → ⊥) → Overlap b n a m → ⊥
turned a m b n h meet = h (omega arith)

-- a command executed on a world that another left
pub behind : (x : FixedCommand) (act : Act) (w : World) (at : ℕ) (bytes : List ℕ) (disks : Disks)
    → act_of x.command.op w.memory ≡ Some act
    → (Overlap at (length bytes) (buffer_start x.command.op) (buffer_length x.command.op) → ⊥)
    → effect_of x (record { memory = put w.memory at bytes; disks = disks }) ≡ lands x.command
    (put w.memory at bytes) (item.does (item_of x act (length w.memory)) disks)
behind x act w at bytes disks is beside =
    rw (length-put w.memory at bytes) at (effect-lands x act (record { memory = put w.memory at bytes; disks = disks })
    (act_of-put x.command.op w.memory at bytes beside ∙ is))

module _ (a b : FixedCommand) (w : World) where
  abbrev m : List ℕ
  m = w.memory

  module _ (A B : Act) (is_a : act_of a.command.op m ≡ Some A) (is_b : act_of b.command.op m ≡ Some B)
      (beside : Overlap (buffer_start b.command.op) (buffer_length b.command.op) (buffer_start a.command.op)
      (buffer_length a.command.op) → ⊥)
      (s : Swaps item.does (item_of a A (length m)) (item_of b B (length m)) w.disks) where
    abbrev ia : Item
    ia = item_of a A (length m)

    abbrev ib : Item
    ib = item_of b B (length m)

    abbrev at_a : ℕ
    at_a = buffer_start a.command.op

    abbrev at_b : ℕ
    at_b = buffer_start b.command.op

    abbrev ra : Told × Disks
    ra = item.does ia w.disks

    abbrev rb : Told × Disks
    rb = item.does ib w.disks

    little_a : length ra.0.1 ≤ buffer_length a.command.op
    little_a = length-told a A (length m) (judge ia (slice_get w.disks a.command.unit))
        (asks a.command.op m A is_a)

    little_b : length rb.0.1 ≤ buffer_length b.command.op
    little_b = length-told b B (length m) (judge ib (slice_get w.disks b.command.unit))
        (asks b.command.op m B is_b)

    first_a : effect_of a w ≡ lands a.command m ra
    first_a = effect-lands a A w is_a

    first_b : effect_of b w ≡ lands b.command m rb
    first_b = effect-lands b B w is_b

    then_a : effect_of a (effect_of b w).1 ≡ lands a.command (put m at_b rb.0.1) (item.does ia rb.1)
    then_a = rw first_b (behind a A w at_b rb.0.1 rb.1 is_a (smaller _ _ _ _ _ _ beside little_b (omega arith)))

    then_b : effect_of b (effect_of a w).1 ≡ lands b.command (put m at_a ra.0.1) (item.does ib ra.1)
    then_b = rw first_a (behind b B w at_a ra.0.1 ra.1 is_b
        (smaller _ _ _ _ _ _ (turned _ _ _ _ beside) little_a (omega arith)))

    swaps_asked : Swaps effect_of a b w
    swaps_asked =
        let make : List ℕ → Disks → World = λ memory disks. record { memory = memory; disks = disks } in
        let crossed = put-put_comm m at_a ra.0.1 at_b rb.0.1
        (smaller _ _ _ _ _ _ (turned _ _ _ _ beside) little_a little_b) in
        let memories = ap (λ (t : Told). put (put m at_a ra.0.1) at_b t.1) s.end_second ∙ crossed
        ∙ ap (λ (t : Told). put (put m at_b rb.0.1) at_a t.1) s.end_first in
        record {
          end_first = rw (then_a, first_a) (ap (λ (t : Told). end_for a.command t.0) s.end_first);
          end_second = rw (then_b, first_b) (ap (λ (t : Told). end_for b.command t.0) s.end_second);
          worlds = rw (then_a, then_b) (ap₂ make memories s.worlds);
        }

-- a command that has no action in one memory has none in another
never : (o : Op) (memory other : List ℕ) → act_of o memory ≡ None → act_of o other ≡ None
never op.Controller memory other is = refl
never _ memory other is = absurd (cc)

swaps_by : (a b : FixedCommand) (w : World) → command_may_overtake b.command a.command ≡ true
    → AreIndependent b.command a.command
    → (asked_a asked_b : Option Act) → act_of a.command.op w.memory ≡ asked_a → act_of b.command.op w.memory
    ≡ asked_b → Swaps effect_of a b w
swaps_by a b w may apart asked_a None is_a is_b = swaps_idle effect_of a b _
    (λ v. effect-none b v (never b.command.op w.memory v.memory is_b)) w
swaps_by a b w may apart None (Some B) is_a is_b = swaps_sym effect_of a b w
    (swaps_idle effect_of b a _ (λ v. effect-none a v (never a.command.op w.memory v.memory is_a)) w)
swaps_by a b w may apart (Some A) (Some B) is_a is_b =
    let n = length w.memory in
    let request : Command → Option Act → Option Request = λ c asked.
    option_map (λ act. record { unit = c.unit; act = act }) asked in
    let apart_there = apart.no_clash w.memory _ _ (ap (request b.command) is_b)
    (ap (request a.command) is_a) in
    let of_a = asks a.command.op w.memory A is_a in
    let of_b = asks b.command.op w.memory B is_b in
    let may_overtake = rw (of_b.speaks, of_a.speaks, of_b.moving, of_a.moving) at may in
    swaps_asked a b w A B is_a is_b apart.no_overlap
    (item.swaps (item_of a A n) (item_of b B n) w.disks may_overtake apart_there)

-- b is the older of the two
pub swaps : (a b : FixedCommand) (w : World) → command_may_overtake b.command a.command ≡ true
    → AreIndependent b.command a.command
    → Swaps effect_of a b w
swaps a b w may apart = swaps_by a b w may apart _ _ refl refl
