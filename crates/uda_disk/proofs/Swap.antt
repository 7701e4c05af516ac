-- Two requests that may overtake each other and don't conflict: executed in either order, each has the same
-- answer and the same bytes, and the disks are the same.
use Rattle.std.proofs.Common.{◌≡◌, ◌≢◌, ℕ, suc, ◌+◌, ◌≤◌, min, max, Bool, true, false, List, [], ◌++◌, length, set, take, replicate, Option, Some, None, refl, sym, ap, ap₂, ◌∙◌, arith, length-set, length-take, zero-le}
use Rattle.std.specs.Prelude.{slice_get, nat_eq, nat_lt, ◌&&◌, ◌||◌, not}
use Rattle.std.proofs.lemmas.List.{set_comm, set-set, length-replicate}
use Rattle.std.proofs.Math.Bool.{or-true}
use Rattle.std.proofs.lemmas.Bool.{eq-eqb, eqb-true, both_ways, false≢true, and_from}
use Rattle.std.proofs.lemmas.Bool.Decides.{nat_tests}
use Rattle.std.proofs.lemmas.Option.{slice_get_within}
use Rattle.uda_mem.specs.Put.{put, part, Overlap}
use Rattle.uda_mem.proofs.PutLaws.{part-put_apart, put-put_comm}
use Rattle.uda_image.specs.StoreLaws.{length-first_chunks}
use Rattle.uda_disk.specs.declared.mode.Mode.{Mode}
use Rattle.uda_disk.specs.declared.refusal.Refusal.{Refusal}
use Rattle.uda_disk.specs.declared.refusal.Refusal.TheVariants.{UnitUnknown, NoVolume}
use Rattle.uda_disk.specs.Disk.{Disk, Disks}
use Rattle.uda_disk.specs.Request.{Act, Online, Available, Status, Read, Access, Write, Erase, Request, extent_of, blocks_for, is_moving, is_writing, lbn_of, blocks_named}
use Rattle.uda_disk.specs.Answer.{Answer}
use Rattle.uda_disk.specs.RequestEffect.{CheckResult, Rejected, Accepted, check_by, refusal_on, TransferOutcome, Done, Lost, blocks_moved, due, blocks_written, data_read, mode_after, disk_after, bytes_on, answer_on, answer_by, disks_by}
use Rattle.uda_disk.specs.Order.{may_overtake, clash}
use Rattle.uda_disk.proofs.Runs.{Swaps}
use Rattle.uda_disk.proofs.Slots.{slice_get-set_same, slice_get-set_other, set-itself}

-- a request with a given outcome, and what else may reject it, such as a host's buffer, by the result of
-- the request's own checks
pub record Item : Type 0 where
  pub request : Request
  pub outcome : TransferOutcome
  pub check : Option Refusal → Option Refusal

-- what the checks find of it on a disk
abbrev pub found : Item → Disk → Option Refusal
found x disk = x.check (refusal_on (extent_of x.request.act) disk.size disk.mode)

abbrev pub judge : Item → Option (Option Disk) → CheckResult
judge x None = Rejected UnitUnknown
judge x (Some None) = Rejected NoVolume
judge x (Some (Some disk)) = check_by (found x disk) disk

-- its answer, and the bytes that it returns
abbrev pub Told : Type 0
Told = Answer × List ℕ

abbrev pub told : Item → CheckResult → Told
told x (Rejected refusal) = (answer_by x.outcome x.request.act (Rejected refusal), [])
told x (Accepted disk) = (answer_on x.outcome x.request.act disk, bytes_on x.outcome x.request.act disk)

abbrev pub does_by : Item → CheckResult → Disks → Told × Disks
does_by x b disks = (told x b, disks_by x.outcome x.request b disks)

abbrev pub does : Item → Disks → Told × Disks
does x disks = does_by x (judge x (slice_get disks x.request.unit)) disks

-- ---- how many blocks an act writes, and from which block

length-blocks_moved : (o : TransferOutcome) (blocks : List (List ℕ)) → length (blocks_moved o blocks) ≤ length blocks
length-blocks_moved Done blocks = omega arith
length-blocks_moved (Lost k left) blocks =
    omega (arith, length-set (take (suc k) blocks) k left, length-take (suc k) blocks)

abbrev stores : Item → Disk → List (List ℕ)
stores x disk = blocks_written x.request.act (blocks_moved x.outcome (due x.request.act disk.blocks))

length-blocks_written : (o : TransferOutcome) (act : Act) (blocks : List (List ℕ))
    → length (blocks_written act (blocks_moved o (due act blocks))) ≤ blocks_named act
length-blocks_written o (Write first payload) blocks =
    omega (
      arith,
      length-blocks_moved o (due (Write first payload) blocks),
      length-first_chunks
          (blocks_for (length payload)) (payload ++ replicate 512 0),
    )
length-blocks_written o (Erase first bytes) blocks =
    let zeros : List ℕ = replicate 512 0 in
    omega (
      arith,
      length-blocks_moved o (replicate (blocks_for bytes) zeros),
      length-replicate
          (blocks_for bytes) zeros,
    )
length-blocks_written o _ blocks = zero-le

blocks_written-none : (act : Act) (blocks : List (List ℕ)) → is_writing act ≡ false → blocks_written act blocks ≡ []
blocks_written-none (Write first payload) blocks h = absurd (cc)
blocks_written-none (Erase first bytes) blocks h = absurd (cc)
blocks_written-none _ blocks h = refl

-- the blocks that an act has to move depend only on the blocks of its range
due-same : (act : Act) (blocks others : List (List ℕ)) → part blocks (lbn_of act) (blocks_named act)
    ≡ part others (lbn_of act) (blocks_named act) → due act blocks ≡ due act others
due-same (Read first bytes) blocks others h = h
due-same (Access first bytes) blocks others h = h
due-same _ blocks others h = refl

-- and so does the answer of a transfer
answer-due : (o : TransferOutcome) (act : Act) (d d' : Disk) → is_moving act ≡ true → due act d'.blocks
    ≡ due act d.blocks → answer_on o act d' ≡ answer_on o act d
answer-due o (Online protect) d d' moves h = absurd (cc)
answer-due o Available d d' moves h = absurd (cc)
answer-due o Status d d' moves h = absurd (cc)
answer-due o (Read first bytes) d d' moves h = rw h refl
answer-due o _ d d' moves h = refl

mode_after-moving : (act : Act) (mode : Mode) → is_moving act ≡ true → mode_after act mode ≡ mode
mode_after-moving (Online protect) mode moves = absurd (cc)
mode_after-moving Available mode moves = absurd (cc)
mode_after-moving _ mode moves = refl

-- ---- on one disk

abbrev by_found : Item → Option Refusal → Disk → Told × Disk
by_found x None disk = (told x (Accepted disk), disk_after x.outcome x.request.act disk)
by_found x (Some refusal) disk = (told x (Rejected refusal), disk)

abbrev on_disk : Item → Disk → Told × Disk
on_disk x disk = by_found x (found x disk) disk

size-by_found : (x : Item) (f : Option Refusal) (disk : Disk) → (by_found x f disk).1.size ≡ disk.size
size-by_found x None disk = refl
size-by_found x (Some refusal) disk = refl

mode-by_found : (x : Item) (f : Option Refusal) (disk : Disk) → is_moving x.request.act ≡ true
    → (by_found x f disk).1.mode ≡ disk.mode
mode-by_found x None disk moves = mode_after-moving x.request.act disk.mode moves
mode-by_found x (Some refusal) disk moves = refl

-- after a transfer the checks find the same
found-later : (x y : Item) (disk : Disk) → is_moving y.request.act ≡ true → found x (on_disk y disk).1
    ≡ found x disk
found-later x y disk moves = ap₂ (λ (size : ℕ) (mode : Mode).
    x.check (refusal_on (extent_of x.request.act) size mode)) (size-by_found y (found y disk) disk)
    (mode-by_found y (found y disk) disk moves)

module _ (a b : Item) (apart : clash b.request a.request ≡ false) (same : b.request.unit ≡ a.request.unit)
    (moves_a : is_moving a.request.act ≡ true) (moves_b : is_moving b.request.act ≡ true) where
  abbrev A : Act
  A = a.request.act

  abbrev B : Act
  B = b.request.act

  ranges_apart : is_writing B || is_writing A ≡ true → Overlap (lbn_of B) (blocks_named B) (lbn_of A)
      (blocks_named A) → ⊥
  ranges_apart writes meet =
      let meets : nat_lt (max (lbn_of B) (lbn_of A))
      (min (lbn_of B + blocks_named B) (lbn_of A + blocks_named A)) ≡ true = grind (arith, nat_tests) in
      let both : is_moving B && is_moving A ≡ true = rw (moves_b, moves_a) refl in
      let clashes : clash b.request a.request ≡ true =
      and_from _ _ (and_from _ _ (and_from (is_moving B && is_moving A) _ both
      (eq-eqb b.request.unit a.request.unit same)) writes) meets in
      both_ways (clash b.request a.request) apart clashes

  b_apart : (d : Disk) (writes : Bool) → is_writing B ≡ writes → Overlap (lbn_of B) (length (stores b d))
      (lbn_of A) (blocks_named A) → ⊥
  b_apart d true h meet =
      let less = length-blocks_written b.outcome B d.blocks in ranges_apart (rw h refl) (omega arith)
  b_apart d false h meet =
      let none = ap length (blocks_written-none B (blocks_moved b.outcome (due B d.blocks)) h) in omega arith

  a_apart : (d : Disk) (writes : Bool) → is_writing A ≡ writes → Overlap (lbn_of A) (length (stores a d))
      (lbn_of B) (blocks_named B) → ⊥
  a_apart d true h meet =
      let less = length-blocks_written a.outcome A d.blocks in
      ranges_apart (rw h (or-true (is_writing B))) (omega arith)
  a_apart d false h meet =
      let none = ap length (blocks_written-none A (blocks_moved a.outcome (due A d.blocks)) h) in omega arith

  module _ (d : Disk) where
    abbrev after_a : Disk
    after_a = disk_after a.outcome A d

    abbrev after_b : Disk
    after_b = disk_after b.outcome B d

    due_a : due A after_b.blocks ≡ due A d.blocks
    due_a = due-same A after_b.blocks d.blocks
        (part-put_apart d.blocks (lbn_of B) (stores b d) (lbn_of A) (blocks_named A)
        (b_apart d (is_writing B) refl))

    due_b : due B after_a.blocks ≡ due B d.blocks
    due_b = due-same B after_a.blocks d.blocks
        (part-put_apart d.blocks (lbn_of A) (stores a d) (lbn_of B) (blocks_named B)
        (a_apart d (is_writing A) refl))

    told_same : (x : Item) (d' : Disk) → is_moving x.request.act ≡ true → due x.request.act d'.blocks
        ≡ due x.request.act d.blocks → told x (Accepted d') ≡ told x (Accepted d)
    told_same x d' moves h =
        let pair : Answer → List ℕ → Told = λ answer bytes. (answer, bytes) in
        ap₂ pair (answer-due x.outcome x.request.act d d' moves h)
        (ap (λ (blocks : List (List ℕ)). data_read x.request.act (blocks_moved x.outcome blocks)) h)

    both : disk_after b.outcome B after_a ≡ disk_after a.outcome A after_b
    both =
        let make : List (List ℕ) → Mode → Disk = λ blocks mode.
        record { blocks = blocks; size = d.size; mode = mode } in
        let less = length-blocks_written b.outcome B d.blocks in
        let crossed = put-put_comm d.blocks (lbn_of A) (stores a d) (lbn_of B) (stores b d)
        (λ meet. a_apart d (is_writing A) refl (omega arith)) in
        let store_b = ap (λ (blocks : List (List ℕ)). put after_a.blocks (lbn_of B)
        (blocks_written B (blocks_moved b.outcome blocks))) due_b in
        let store_a = ap (λ (blocks : List (List ℕ)). put after_b.blocks (lbn_of A)
        (blocks_written A (blocks_moved a.outcome blocks))) due_a in
        let modes : mode_after B (mode_after A d.mode) ≡ mode_after A (mode_after B d.mode) =
        mode_after-moving B _ moves_b ∙ mode_after-moving A d.mode moves_a
        ∙ sym (mode_after-moving A _ moves_a ∙ mode_after-moving B d.mode moves_b) in
        ap₂ make (store_b ∙ crossed ∙ sym store_a) modes

    -- by what the checks find of the two
    by_both : (fa fb : Option Refusal) → Swaps
        (λ (x : Item × Option Refusal) (disk : Disk). by_found x.0 x.1 disk) (a, fa) (b, fb) d
    by_both None None = record {
      end_first = sym (told_same a after_b moves_a due_a);
      end_second =
          told_same b after_a moves_b due_b;
      worlds = both;
    }
    by_both None (Some rb) = record { end_first = refl; end_second = refl; worlds = refl }
    by_both (Some ra) None = record { end_first = refl; end_second = refl; worlds = refl }
    by_both (Some ra) (Some rb) = record { end_first = refl; end_second = refl; worlds = refl }

    on_one : Swaps on_disk a b d
    on_one =
        let s = by_both (found a d) (found b d) in
        let later_a : on_disk a (on_disk b d).1 ≡ by_found a (found a d) (on_disk b d).1 =
        ap (λ (f : Option Refusal). by_found a f (on_disk b d).1) (found-later a b d moves_b) in
        let later_b : on_disk b (on_disk a d).1 ≡ by_found b (found b d) (on_disk a d).1 =
        ap (λ (f : Option Refusal). by_found b f (on_disk a d).1) (found-later b a d moves_a) in
        record {
          end_first = s.end_first ∙ sym (ap (λ (r : Told × Disk). r.0) later_a);
          end_second = ap (λ (r : Told × Disk). r.0) later_b ∙ s.end_second;
          worlds = ap (λ (r : Told × Disk). r.1) later_b ∙ s.worlds
              ∙ sym (ap (λ (r : Told × Disk). r.1) later_a);
        }

-- ---- on all units

-- a request executed on the disk of its unit
does-found : (x : Item) (disks : Disks) (disk : Disk) (f : Option Refusal) → slice_get disks x.request.unit
    ≡ Some (Some disk)
    → does_by x (check_by f disk) disks
    ≡ ((by_found x f disk).0, set disks x.request.unit (Some (by_found x f disk).1))
does-found x disks disk None here = refl
does-found x disks disk (Some refusal) here = ap (λ (d : Disks). (told x (Rejected refusal), d))
    (sym (set-itself disks x.request.unit (Some disk) here))

does-on : (x : Item) (disks : Disks) (disk : Disk) → slice_get disks x.request.unit ≡ Some (Some disk)
    → does x disks ≡ ((on_disk x disk).0, set disks x.request.unit (Some (on_disk x disk).1))
does-on x disks disk here = ap (λ (slot : Option (Option Disk)). does_by x (judge x slot) disks) here
    ∙ does-found x disks disk (found x disk) here

-- the other units stay as they were
slice_get-does : (x : Item) (b : CheckResult) (disks : Disks) (u : ℕ) → u ≢ x.request.unit
    → slice_get (does_by x b disks).1 u ≡ slice_get disks u
slice_get-does x (Rejected refusal) disks u h = refl
slice_get-does x (Accepted disk) disks u h = slice_get-set_other disks x.request.unit u
    (Some (disk_after x.outcome x.request.act disk)) h

module _ (a b : Item) (disks : Disks) where
  module _ (differ : b.request.unit ≢ a.request.unit) where
    -- the disks after two results of checks on two units
    crossed : (ba bb : CheckResult) → (does_by b bb (does_by a ba disks).1).1
        ≡ (does_by a ba (does_by b bb disks).1).1
    crossed (Accepted da) (Accepted db) = set_comm disks a.request.unit b.request.unit _ _ (λ e. differ (sym e))
    crossed _ _ = refl

    swaps_other : Swaps does a b disks
    swaps_other =
        let ba = judge a (slice_get disks a.request.unit) in
        let bb = judge b (slice_get disks b.request.unit) in
        let later_a : does a (does b disks).1 ≡ does_by a ba (does b disks).1 =
        ap (λ (slot : Option (Option Disk)). does_by a (judge a slot) (does b disks).1)
        (slice_get-does b bb disks a.request.unit (λ e. differ (sym e))) in
        let later_b : does b (does a disks).1 ≡ does_by b bb (does a disks).1 =
        ap (λ (slot : Option (Option Disk)). does_by b (judge b slot) (does a disks).1)
        (slice_get-does a ba disks b.request.unit differ) in
        record {
          end_first = sym (ap (λ (r : Told × Disks). r.0) later_a);
          end_second = ap (λ (r : Told × Disks). r.0) later_b;
          worlds = ap (λ (r : Told × Disks). r.1) later_b ∙ crossed ba bb
              ∙ sym (ap (λ (r : Told × Disks). r.1) later_a);
        }

  module _ (apart : clash b.request a.request ≡ false) (same : b.request.unit ≡ a.request.unit)
      (moves_a : is_moving a.request.act ≡ true) (moves_b : is_moving b.request.act ≡ true) where
    -- if there is no disk, both are rejected whenever they are executed
    swaps_none : (slot : Option (Option Disk)) (r : Refusal) → ((x : Item) → judge x slot ≡ Rejected r)
        → slice_get disks a.request.unit ≡ slot → Swaps does a b disks
    swaps_none slot r judged here =
        let there : slice_get disks b.request.unit ≡ slot = ap (slice_get disks) same ∙ here in
        let is : (x : Item) → slice_get disks x.request.unit ≡ slot
        → does x disks ≡ (told x (Rejected r), disks) = λ x here.
        ap (λ (s : Option (Option Disk)). does_by x (judge x s) disks) here
        ∙ ap (λ (b : CheckResult). does_by x b disks) (judged x) in
        let behind_a : does a (does b disks).1 ≡ does a disks = ap (λ (r : Told × Disks). does a r.1)
        (is b there) in
        let behind_b : does b (does a disks).1 ≡ does b disks = ap (λ (r : Told × Disks). does b r.1)
        (is a here) in
        record {
          end_first = sym (ap (λ (r : Told × Disks). r.0) behind_a);
          end_second = ap (λ (r : Told × Disks). r.0) behind_b;
          worlds = ap (λ (r : Told × Disks). r.1) (behind_b ∙ is b there)
              ∙ sym (ap (λ (r : Told × Disks). r.1) (behind_a ∙ is a here));
        }

    swaps_on : (disk : Disk) → slice_get disks a.request.unit ≡ Some (Some disk) → Swaps does a b disks
    swaps_on disk here =
        let u = a.request.unit in
        let s = on_one a b apart same moves_a moves_b disk in
        let there : slice_get disks b.request.unit ≡ Some (Some disk) = ap (slice_get disks) same ∙ here in
        let within = slice_get_within disks u (Some disk) here in
        let put_at : Disk → Disks = λ d. set disks u (Some d) in
        let is_a : does a disks ≡ ((on_disk a disk).0, put_at (on_disk a disk).1) =
        does-on a disks disk here in
        let is_b : does b disks ≡ ((on_disk b disk).0, put_at (on_disk b disk).1) = does-on b disks disk there
        ∙ ap (λ v. ((on_disk b disk).0, set disks v (Some (on_disk b disk).1))) same in
        let then_a : (d : Disk) → does a (put_at d) ≡ ((on_disk a d).0, put_at (on_disk a d).1) = λ d.
        does-on a (put_at d) d (slice_get-set_same disks u (Some d) within)
        ∙ ap (λ (ds : Disks). ((on_disk a d).0, ds)) (set-set disks u (Some d) (Some (on_disk a d).1)) in
        let then_b : (d : Disk) → does b (put_at d) ≡ ((on_disk b d).0, put_at (on_disk b d).1) = λ d.
        does-on b (put_at d) d (ap (slice_get (put_at d)) same ∙ slice_get-set_same disks u (Some d) within)
        ∙ ap (λ v. ((on_disk b d).0, set (put_at d) v (Some (on_disk b d).1))) same
        ∙ ap (λ (ds : Disks). ((on_disk b d).0, ds)) (set-set disks u (Some d) (Some (on_disk b d).1)) in
        let behind_a : does b (does a disks).1
        ≡ ((on_disk b (on_disk a disk).1).0, put_at (on_disk b (on_disk a disk).1).1) =
        ap (λ (r : Told × Disks). does b r.1) is_a ∙ then_b (on_disk a disk).1 in
        let behind_b : does a (does b disks).1
        ≡ ((on_disk a (on_disk b disk).1).0, put_at (on_disk a (on_disk b disk).1).1) =
        ap (λ (r : Told × Disks). does a r.1) is_b ∙ then_a (on_disk b disk).1 in
        record {
          end_first = ap (λ (r : Told × Disks). r.0) is_a ∙ s.end_first
              ∙ sym (ap (λ (r : Told × Disks). r.0) behind_b);
          end_second = ap (λ (r : Told × Disks). r.0) behind_a ∙ s.end_second
              ∙ sym (ap (λ (r : Told × Disks). r.0) is_b);
          worlds = ap (λ (r : Told × Disks). r.1) behind_a ∙ ap put_at s.worlds
              ∙ sym (ap (λ (r : Told × Disks). r.1) behind_b);
        }

    swaps_transfers : (slot : Option (Option Disk)) → slice_get disks a.request.unit ≡ slot
        → Swaps does a b disks
    swaps_transfers None here = swaps_none None UnitUnknown (λ x. refl) here
    swaps_transfers (Some None) here = swaps_none (Some None) NoVolume (λ x. refl) here
    swaps_transfers (Some (Some disk)) here = swaps_on disk here

  -- by how the two requests are related; b is the older
  swaps_by : clash b.request a.request ≡ false → (same moves_b moves_a : Bool)
      → nat_eq b.request.unit a.request.unit ≡ same → is_moving b.request.act ≡ moves_b
      → is_moving a.request.act ≡ moves_a
      → not same || (moves_b && moves_a) ≡ true → Swaps does a b disks
  swaps_by apart false mb ma hs hb ha may = swaps_other
      (λ e. let is = eq-eqb b.request.unit a.request.unit e in
      both_ways (nat_eq b.request.unit a.request.unit) hs is)
  swaps_by apart true true true hs hb ha may = swaps_transfers apart
      (eqb-true b.request.unit a.request.unit hs) ha hb _ refl
  swaps_by apart true _ _ hs hb ha may = absurd (false≢true may)

  pub swaps : may_overtake b.request a.request ≡ true → clash b.request a.request ≡ false → Swaps does a b disks
  swaps may apart = swaps_by apart _ _ _ refl refl refl may
