-- A unit that is read whole and written whole to another.
use Rattle.std.proofs.Common.{◌≡◌, ℕ, ◌*◌, Bool, true, false, List, [], ◌∷◌, ◌++◌, length, Option, Some, None, refl, sym, ap, ◌∙◌, arith, subst, length-append}
use Rattle.std.specs.Prelude.{slice_get, slice_set, option_map}
use Rattle.std.specs.List.{concat}
use Rattle.std.proofs.lemmas.Bool.{le-ltb}
use Rattle.std.proofs.lemmas.Option.{slice_get-map, slice_get_within}
use Rattle.uda_image.specs.Store.{HasWholeBlocks}
use Rattle.uda_disk.specs.declared.mode.Mode.{Mode}
use Rattle.uda_disk.specs.Status.{SUCCESS}
use Rattle.uda_disk.specs.Disk.{Disk, Disks}
use Rattle.uda_disk.specs.Request.{Act, Online, Read, Write, Request}
use Rattle.uda_disk.specs.Answer.{Answer, Data}
use Rattle.uda_disk.specs.RequestEffect.{check_at, Done, answer_on, disk_after, mode_after, serve_by}
use Rattle.uda_disk.specs.InOrderRun.{step, run_in_order, too_long}
use Rattle.uda_disk.specs.Units.{Units, UnitState, disk_of, disks_of, AllFaithful, AreWellFormed, IsWellFormed, is_faithful}
use Rattle.uda_disk.specs.Laws.{IsAllowed}
use Rattle.uda_disk.proofs.Callers.{allowed_is_done, whole_read, whole_write, unwritten_stays}
use Rattle.uda_disk.proofs.Lists.{All-at}
use Rattle.uda_exec.proofs.Blocks.{length-concat_blocks}
use Rattle.uda_disk.proofs.Slots.{slice_get-set_same, slice_get-set_other}
use Rattle.uda_driver.specs.Run.{IsInOrderRun}
use Rattle.example.specs.driver.Copy.{CanCopy, blocks_in, IsCopied}

-- ---- what is known of a unit's disk

image_in : (slots : List (Option UnitState)) (u : ℕ) (disk : Disk) → AllFaithful slots → AreWellFormed slots
    → slice_get (disks_of slots) u ≡ Some (Some disk) → HasWholeBlocks disk.size disk.blocks
image_in slots u disk faithful well_formed here = by (slice_get slots u) refl
    (sym (slice_get-map (option_map disk_of) slots u) ∙ here)
  where
    by : (slot : Option (Option UnitState)) → slice_get slots u ≡ slot → option_map (option_map disk_of) slot
        ≡ Some (Some disk) → HasWholeBlocks disk.size disk.blocks
    by None at is = absurd (cc)
    by (Some None) at is = absurd (cc)
    by (Some (Some unit)) at is =
        let same : disk_of unit ≡ disk = cc in
        let infallible : unit.store.faithful ≡ true = sym (ap is_faithful at) ∙ faithful u in
        let holds : IsWellFormed (Some unit) = All-at IsWellFormed slots u (Some unit) well_formed at in
        subst (λ (d : Disk). HasWholeBlocks d.size d.blocks) same (holds infallible)

-- ---- one request

online_step : (u : ℕ) (disks : Disks) (disk : Disk) → slice_get disks u ≡ Some (Some disk)
    → step (record { unit = u; act = Online false }) disks
    ≡ (answer_on Done (Online false) disk, slice_set disks u (Some (disk_after Done (Online false) disk)))
online_step u disks disk here = ap (λ (slot : Option (Option Disk)).
    serve_by Done (record { unit = u; act = Online false }) (check_at (Online false) slot) disks) here

is_online : (mode : Mode) → (mode_after (Online false) mode).online ≡ true
is_online mode = by mode.online refl
  where
    by : (b : Bool) → mode.online ≡ b → (mode_after (Online false) mode).online ≡ true
    by true is = rw is refl
    by false is = rw is refl

-- a list of requests, of which the first has this effect
plain_more : (r : Request) (rest : List Request) (disks next left : Disks) (answer : Answer)
    (later : List Answer) → step r disks ≡ (answer, next) → run_in_order next rest ≡ (later, left)
    → run_in_order disks (r ∷ rest) ≡ (answer ∷ later, left)
plain_more r rest disks next left answer later now later_is =
    ap (λ (x : Answer × Disks). (x.0 ∷ (run_in_order x.1 rest).0, (run_in_order x.1 rest).1)) now
    ∙ ap (λ (y : List Answer × Disks). (answer ∷ y.0, y.1)) later_is

last_is : (front : List Answer) (l a b c : Answer) → front ++ l ∷ [] ≡ a ∷ b ∷ c ∷ [] → l ≡ c
last_is (x ∷ y ∷ []) l a b c h = cc
last_is [] l a b c h = absurd (cc)
last_is (x ∷ []) l a b c h = absurd (cc)
last_is (x ∷ y ∷ z ∷ more) l a b c h = absurd (omega (arith, ap length h, length-append more (l ∷ [])))

-- ---- both runs

abbrev on : Disk → Disk
on disk = disk_after Done (Online false) disk

blocks-on : (disk : Disk) → (on disk).blocks ≡ disk.blocks
blocks-on disk = unwritten_stays Done (Online false) disk refl

image-on : (disk : Disk) → HasWholeBlocks disk.size disk.blocks → HasWholeBlocks (on disk).size (on disk).blocks
image-on disk image = subst (λ (b : List (List ℕ)). HasWholeBlocks disk.size b) (sym (blocks-on disk)) image

abbrev first : Request
first = record { unit = 0; act = Online false }

abbrev second : Request
second = record { unit = 1; act = Online false }

abbrev third : ℕ → Request
third n = record { unit = 0; act = Read 0 (512 * n) }

abbrev pub asked : ℕ → List Request
asked n = first ∷ second ∷ third n ∷ []

module _ (units : Units) (n : ℕ) (faithful : AllFaithful units) (well_formed : AreWellFormed units)
    (can : CanCopy units n) where
  abbrev read_all : Act
  read_all = Read 0 (512 * n)

  abbrev start : Disks
  start = disks_of units

  abbrev one : Disks
  one = slice_set start 0 (Some (on can.source))

  abbrev two : Disks
  two = slice_set one 1 (Some (on can.target))

  abbrev three : Disks
  three = slice_set two 0 (Some (disk_after Done read_all (on can.source)))

  to_one : slice_get one 1 ≡ Some (Some can.target)
  to_one = slice_get-set_other start 0 1 (Some (on can.source)) (λ same. absurd (omega (arith, same)))
      ∙ can.to

  from_two : slice_get two 0 ≡ Some (Some (on can.source))
  from_two = slice_get-set_other one 1 0 (Some (on can.target)) (λ same. absurd (omega (arith, same)))
      ∙ slice_get-set_same start 0 (Some (on can.source))
      (slice_get_within start 0 (Some can.source) can.from)

  to_three : slice_get three 1 ≡ Some (Some (on can.target))
  to_three = slice_get-set_other two 0 1 (Some (disk_after Done read_all (on can.source)))
      (λ same. absurd (omega (arith, same))) ∙ slice_get-set_same one 1 (Some (on can.target))
      (slice_get_within one 1 (Some can.target) to_one)

  image_s : HasWholeBlocks can.source.size can.source.blocks
  image_s = image_in units 0 can.source faithful well_formed can.from

  image_t : HasWholeBlocks can.target.size can.target.blocks
  image_t = image_in units 1 can.target faithful well_formed can.to

  may_read : IsAllowed (record { lbn = 0; bytes = 512 * n; writes = false }) (on can.source)
  may_read = record {
    online = is_online can.source.mode;
    even = omega arith;
    begins = omega (arith, can.some, can.source_size);
    ends = omega (arith, can.source_size);
    not_hard = λ writes. absurd (cc);
    not_soft = λ writes. absurd (cc);
  }

  read_short : too_long (record { unit = 0; act = read_all }) ≡ false
  read_short = le-ltb 16384 (512 * n) (omega (arith, can.few))

  all_read : answer_on Done read_all (on can.source) ≡ Data SUCCESS (concat can.source.blocks)
  all_read = ap (λ (k : ℕ). answer_on Done (Read 0 (512 * k)) (on can.source)) (sym can.source_size)
      ∙ whole_read (on can.source) (image-on can.source image_s)
      ∙ ap (λ (b : List (List ℕ)). Data SUCCESS (concat b)) (blocks-on can.source)

  read_run : run_in_order start (asked n) ≡ (
    answer_on Done (Online false) can.source ∷ answer_on Done
        (Online false) can.target ∷ answer_on Done read_all (on can.source) ∷ [],
    three,
  )
  read_run =
      plain_more first (second ∷ third n ∷ []) start one three _ _ (online_step 0 start can.source can.from)
      (plain_more second (third n ∷ []) one two three _ _ (online_step 1 one can.target to_one)
      (plain_more (third n) [] two three three _ []
      (allowed_is_done (third n) _ (on can.source) two refl may_read read_short from_two) refl))

  -- what was read are the blocks of unit 0, joined
  pub bytes_read : (between : Units) (front : List Answer) (status : ℕ) (bytes : List ℕ)
      → IsInOrderRun units (asked n) (front ++ Data status bytes ∷ []) between
      → bytes ≡ concat can.source.blocks
  bytes_read between front status bytes run =
      let told = ap (λ (x : List Answer × Disks). x.0) (run ∙ read_run) in
      let last : Data status bytes ≡ Data SUCCESS (concat can.source.blocks) =
      last_is front (Data status bytes) _ _ _ told ∙ all_read in
      cc

  -- and once they are written to unit 1, it has them
  module _ (between after : Units) (told written : List Answer) (bytes : List ℕ)
      (run : IsInOrderRun units (asked n) told between) (are : bytes ≡ concat can.source.blocks)
      (next : IsInOrderRun between (record { unit = 1; act = Write 0 bytes } ∷ []) written after) where
    between_is : disks_of between ≡ three
    between_is = ap (λ (x : List Answer × Disks). x.1) (run ∙ read_run)

    counted : length bytes ≡ 512 * n
    counted = ap length are ∙ length-concat_blocks can.source.blocks image_s.whole
        ∙ omega (arith, image_s.counted, can.source_size)

    may_write : IsAllowed (record { lbn = 0; bytes = length bytes; writes = true }) (on can.target)
    may_write = record {
      online = is_online can.target.mode;
      even = omega (arith, counted);
      begins = omega (arith, can.some, can.target_size);
      ends = omega (arith, counted, can.target_size);
      not_hard = λ writes. rw can.available can.writable;
      not_soft = λ writes. rw can.available refl;
    }

    write_short : too_long (record { unit = 1; act = Write 0 bytes }) ≡ false
    write_short = le-ltb 16384 (length bytes) (omega (arith, counted, can.few))

    left : disks_of after ≡ slice_set three 1 (Some (disk_after Done (Write 0 bytes) (on can.target)))
    left =
        ap (λ (x : List Answer × Disks). x.1) next
        ∙ ap (λ (ds : Disks). (run_in_order ds (record { unit = 1; act = Write 0 bytes } ∷ [])).1) between_is
        ∙ ap (λ (x : List Answer × Disks). x.1)
        (plain_more (record { unit = 1; act = Write 0 bytes }) [] three _ _ _ []
        (allowed_is_done (record { unit = 1; act = Write 0 bytes }) _
        (on can.target) three refl may_write write_short to_three) refl)

    fits : HasWholeBlocks can.target.size can.source.blocks
    fits = record { counted = image_s.counted ∙ can.source_size ∙ sym can.target_size; whole = image_s.whole }

    all_written : (disk_after Done (Write 0 bytes) (on can.target)).blocks ≡ can.source.blocks
    all_written = ap (λ (b : List ℕ). (disk_after Done (Write 0 b) (on can.target)).blocks) are
        ∙ whole_write (on can.target) can.source.blocks (image-on can.target image_t) fits

    stays : (disk_after Done read_all (on can.source)).blocks ≡ can.source.blocks
    stays = unwritten_stays Done read_all (on can.source) refl ∙ blocks-on can.source

    pub is_copied : IsCopied units after
    is_copied =
        let now = Some (disk_after Done (Write 0 bytes) (on can.target)) in
        let was = ap blocks_in can.from in
        let at_1 = ap (λ (ds : Disks). slice_get ds 1) left ∙ slice_get-set_same three 1 now
        (slice_get_within three 1 (Some (on can.target)) to_three) in
        let at_0 = ap (λ (ds : Disks). slice_get ds 0) left ∙ slice_get-set_other three 1 0 now
        (λ same. absurd (omega (arith, same)))
        ∙ slice_get-set_same two 0 (Some (disk_after Done read_all (on can.source)))
        (slice_get_within two 0 (Some (on can.source)) from_two) in
        record {
          copied = ap blocks_in at_1 ∙ ap (λ (b : List (List ℕ)). Some b) all_written ∙ sym was;
          source_stays = ap blocks_in at_0 ∙ ap (λ (b : List (List ℕ)). Some b) stays ∙ sym was;
        }
