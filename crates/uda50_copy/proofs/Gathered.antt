-- The Writes of a run and its lost blocks, and what is copied then.
use Rattle.std.proofs.Common.{◌≡◌, ◌⊎◌, Bool, true, false, inl, inr, ℕ, ◌+◌, ◌-◌, ◌<◌, ◌≤◌, max, List, [], ◌∷◌, ◌++◌, length, refl, sym, ap, ◌∙◌, arith, subst, append-nil, append_assoc}
use Rattle.std.specs.Prelude.{◌||◌, ◌&&◌, not, All, slice_get}
use Rattle.std.proofs.lemmas.Bool.{cases_lt, cases_Bool}
use Rattle.std.proofs.lemmas.Bool.Decides.{eqb_tells}
use Rattle.std.proofs.lemmas.List.{append_cancel_right}
use Rattle.std.proofs.lemmas.List.Folds.{list_any-append}
use Rattle.std.proofs.lemmas.List.Elements.{All-nil, All-append, All-cons}
use Rattle.uda_disk.specs.Status.{SUCCESS}
use Rattle.uda_disk.specs.Disk.{Disks}
use Rattle.uda_disk.specs.Request.{Request}
use Rattle.uda_disk.specs.Answer.{Answer, Data}
use Rattle.uda_disk.specs.InOrderRun.{requests_of, InOrderWithFailures}
use Rattle.uda_disk.specs.Laws.{blocks_in, blocks_at, size_at}
use Rattle.uda_disk.specs.Units.{Units, disks_of, AllSound, AreSoundBefore, AreWellFormedIfSound}
use Rattle.uda_disk.proofs.Successes.{whole_disk, whole_size, whole_blocks}
use Rattle.uda50_copy.specs.Map.{is_within}
use Rattle.uda50_copy.specs.Copy.{source_of, target_of, write_of, ChangesNoBlock, ReturnsBlocks, AreWritten}
use Rattle.uda50_copy.specs.Report.{CopyReport, reached, lost}
use Rattle.uda50_copy.specs.Reports.{AreReports, AddsReports, ReportsLost, ReportsLastBlock, CopyStage, CopiesAsTold, IsCopiedBut, IsBlockOf, reached_end, is_told_lost}
use Rattle.uda50_copy.specs.Changes.{HasOtherBlocks, ChangesWithin, ChangesWritten, HoldsWritten, IsTargetWrite, IsPieceOf, is_moved, is_written, CopyRun, WriteStage, WritesAllBut, ReturnsWhole, IsSoundSource, AddsAllBut, RunsAsTold}
use Rattle.uda50_copy.proofs.Told.{told_end_within, are_reports_wider, not_lost, lost_within, is_lost_both, tells_both, tells_end, tells_lost_none, tells_lost_one, tells_lost_both, reached_end_both}
use Rattle.uda50_copy.proofs.Written.{inside, is_inside, is_outside, writes_ran, writes_hold, pieces_write, piece_moves}

-- ---- blocks that are written or lost

both_parts : (from mid to n : ℕ) (l1 l2 : Bool) → from ≤ mid → mid ≤ to → (mid ≤ n → l1 ≡ false) → (n < mid → l2 ≡ false)
    → ((is_within from mid n && not l1) || (is_within mid to n && not l2)) ≡ (is_within from to n && not (l2 || l1))
both_parts from mid to n l1 l2 first second one two = elim (cases_lt n mid) [
  | inl low ↦
      let none = two low in
      rw (none, is_outside mid to n (inl low)) (elim (cases_lt n from) [
        | inl before ↦ rw (is_outside from mid n (inl before), is_outside from to n (inl before)) refl
        | inr past ↦ rw (is_inside from mid n past low, is_inside from to n past (omega (arith, low, second))) (or_last (not l1))
      ])
  | inr high ↦
      let none = one high in
      rw (none, is_outside from mid n (inr high), or_last l2) (elim (cases_lt n to) [
        | inl below ↦ rw (is_inside mid to n high below, is_inside from to n (omega (arith, first, high)) below) refl
        | inr past ↦ rw (is_outside mid to n (inr past), is_outside from to n (inr past)) refl
      ])
]
  where
    or_last : (b : Bool) → (b || false) ≡ b
    or_last true = refl
    or_last false = refl

all_but_both : (blocks : List (List ℕ)) (from mid to : ℕ) (told1 told2 : List CopyReport) (writes1 writes2 : List Request)
    → from ≤ mid → mid ≤ to → AreReports from mid told1 → AreReports mid to told2
    → WritesAllBut blocks told1 writes1 from mid → WritesAllBut blocks told2 writes2 mid to
    → WritesAllBut blocks (told2 ++ told1) (writes1 ++ writes2) from to
all_but_both blocks from mid to told1 told2 writes1 writes2 first second are1 are2 one two = record {
  pieces = All-append (IsPieceOf blocks) writes1 writes2 one.pieces two.pieces;
  written = λ n.
      let parts = list_any-append (λ (r : Request). is_moved r.act n) writes1 writes2 in
      parts
      ∙ ap (λ (b : Bool). b || is_written writes2 n) (one.written n)
      ∙ ap (λ (b : Bool). (is_within from mid n && not (is_told_lost told1 n)) || b) (two.written n)
      ∙ both_parts from mid to n (is_told_lost told1 n) (is_told_lost told2 n) first second
      (λ high. not_lost from mid told1 n are1 (inr high)) (λ low. not_lost mid to told2 n are2 (inl low))
      ∙ ap (λ (b : Bool). is_within from to n && not b) (sym (is_lost_both told2 told1 n));
}

pub adds_none : (skips_lost : Bool) (from : ℕ) (stage : WriteStage) (Is : List (List ℕ) → Type 0)
    → AddsAllBut (record { skips_lost = skips_lost; from = from; to = from }) stage stage Is
adds_none skips_lost from stage Is = record {
  tells = tells_lost_none skips_lost from from stage.reports;
  added = [];
  adds = sym (append-nil stage.writes);
  writes = λ blocks is. record {
    pieces = All-nil (IsPieceOf blocks);
    written = λ n. none n (cases_lt n from);
  };
}
  where
    none : (n : ℕ) → (n < from) ⊎ (from ≤ n) → false ≡ (is_within from from n && true)
    none n out = rw (is_outside from from n out) refl

pub adds_both : (skips_lost : Bool) (from mid to : ℕ) (old now after : WriteStage) (Is One Two : List (List ℕ) → Type 0)
    → from ≤ mid → mid ≤ to → ((blocks : List (List ℕ)) → Is blocks → One blocks)
    → ((blocks : List (List ℕ)) → Is blocks → Two blocks)
    → AddsAllBut (record { skips_lost = skips_lost; from = from; to = mid }) old now One
    → AddsAllBut (record { skips_lost = skips_lost; from = mid; to = to }) now after Two
    → AddsAllBut (record { skips_lost = skips_lost; from = from; to = to }) old after Is
adds_both skips_lost from mid to old now after Is One Two first second is_one is_two one two = record {
  tells = tells_lost_both skips_lost from mid to old.reports now.reports after.reports first second one.tells two.tells;
  added = one.added ++ two.added;
  adds = two.adds ∙ ap (λ (l : List Request). l ++ two.added) one.adds ∙ append_assoc old.writes one.added two.added;
  writes = λ blocks is. all_but_both blocks from mid to one.tells.0.told two.tells.0.told one.added two.added first second
      one.tells.0.are_reports two.tells.0.are_reports (one.writes blocks (is_one blocks is))
      (two.writes blocks (is_two blocks is));
}

-- the Write of a piece that a Read returned
pub adds_written : (skips_lost : Bool) (from to : ℕ) (old new : WriteStage) (answer : Answer) (bytes : List ℕ)
    (Is : List (List ℕ) → Type 0) → from ≤ to → answer ≡ Data SUCCESS bytes
    → new.writes ≡ old.writes ++ write_of from bytes ∷ [] → new.reports ≡ old.reports
    → ((blocks : List (List ℕ)) → Is blocks → ReturnsWhole answer from (to - from) blocks)
    → AddsAllBut (record { skips_lost = skips_lost; from = from; to = to }) old new Is
adds_written skips_lost from to old new answer bytes Is some told added same returns = record {
  tells = (
    record { told = []; added = same; are_reports = tt; none_lost = λ none n. refl },
    λ start. refl,
  );
  added = write_of from bytes ∷ [];
  adds = added;
  writes = λ blocks is.
      let found = (returns blocks is).1 bytes told in
      let whole = (returns blocks is).0 in
      record {
        pieces = All-cons (IsPieceOf blocks) (write_of from bytes) []
            (from, (to - from, (found.0, ap (write_of from) found.1))) (All-nil (IsPieceOf blocks));
        written = λ n. ap (λ (b : List ℕ). is_moved (write_of from b).act n || false) found.1
            ∙ ap (λ (b : Bool). b || false) (piece_moves blocks from (to - from) n whole found.0
            ∙ ap (λ (m : ℕ). is_within from m n) (omega (arith, some)))
            ∙ alike (is_within from to n);
      };
}
  where
    alike : (b : Bool) → (b || false) ≡ (b && true)
    alike true = refl
    alike false = refl

-- a block that was reported lost
pub adds_lost : (skips_lost : Bool) (from : ℕ) (old new : WriteStage) (Is : List (List ℕ) → Type 0) → skips_lost ≡ true
    → new.writes ≡ old.writes → new.reports ≡ lost from ∷ old.reports
    → AddsAllBut (record { skips_lost = skips_lost; from = from; to = from + 1 }) old new Is
adds_lost skips_lost from old new Is skips same told = record {
  tells = tells_lost_one skips_lost from old.reports new.reports skips told;
  added = [];
  adds = same ∙ sym (append-nil old.writes);
  writes = λ blocks is. record {
    pieces = All-nil (IsPieceOf blocks);
    written = λ n. elim (eqb_tells from n) [
      | inl both ↦ rw both.0 (other (is_within from (from + 1) n))
      | inr both ↦ rw (both.0, is_outside from (from + 1) n (apart n both.1)) refl
    ];
  };
}
  where
    other : (b : Bool) → false ≡ (b && false)
    other true = refl
    other false = refl

    apart : (n : ℕ) → (from ≡ n → ⊥) → (n < from) ⊎ (from + 1 ≤ n)
    apart n differs = elim (cases_lt n from) [
      | inl low ↦ inl low
      | inr high ↦ elim (cases_lt from n) [ inl past ↦ inr (omega (arith, past)) | inr to ↦ absurd (differs (omega (arith, high, to))) ]
    ]

-- the Writes of one piece more, by the answer of its Read
pub adds_next : (skips_lost : Bool) (from lbn stop : ℕ) (old now new : WriteStage) (answer : Answer)
    (units first mid after : Units) → from ≤ lbn → lbn ≤ stop → ChangesNoBlock units first → ChangesNoBlock first mid
    → ChangesNoBlock mid after
    → (AreWellFormedIfSound units → AllSound first → ReturnsBlocks (source_of units) answer lbn (stop - lbn))
    → AddsAllBut (record { skips_lost = skips_lost; from = from; to = lbn }) old now (IsSoundSource units mid)
    → AddsAllBut (record { skips_lost = skips_lost; from = lbn; to = stop }) now new
    (λ blocks. ReturnsWhole answer lbn (stop - lbn) blocks × IsSoundSource mid after blocks)
    → AddsAllBut (record { skips_lost = skips_lost; from = from; to = stop }) old new (IsSoundSource units after)
adds_next skips_lost from lbn stop old now new answer units first mid after begun further one two three returned before
    added =
    adds_both skips_lost from lbn stop old now new (IsSoundSource units after) (IsSoundSource units mid)
    (λ blocks. ReturnsWhole answer lbn (stop - lbn) blocks × IsSoundSource mid after blocks) begun further
    (λ blocks is. (is.0, (λ u. three.stays_sound.sound_before u (is.1.0 u), is.1.1)))
    (λ blocks is.
    let sound_mid : AllSound mid = λ u. three.stays_sound.sound_before u (is.1.0 u) in
    let sound_first : AllSound first = λ u. two.stays_sound.sound_before u (sound_mid u) in
    let sound_start : AllSound units = λ u. one.stays_sound.sound_before u (sound_first u) in
    let same : source_of mid ≡ source_of units = (two.if_sound sound_mid).same 0 ∙ (one.if_sound sound_first).same 0 in
    let whole = whole_blocks (disks_of units) 0 (whole_disk units 0 is.0 (sound_start 0)) in (
      subst (ReturnsWhole answer lbn (stop - lbn)) (sym is.1.1) (whole, returned is.0 sound_first),
      (two.stays_sound.well_formed (one.stays_sound.well_formed is.0), (is.1.0, is.1.1 ∙ sym same)),
    ))
    before added

-- the same of one block
pub adds_next_block : (skips_lost : Bool) (from lbn : ℕ) (old now new : WriteStage) (answer : Answer)
    (units after : Units) → from ≤ lbn → ChangesNoBlock units after
    → (AreWellFormedIfSound units → AllSound after → ReturnsBlocks (source_of units) answer lbn 1)
    → AddsAllBut (record { skips_lost = skips_lost; from = from; to = lbn }) old now (IsSoundSource units after)
    → AddsAllBut (record { skips_lost = skips_lost; from = lbn; to = lbn + 1 }) now new (ReturnsWhole answer lbn 1)
    → AddsAllBut (record { skips_lost = skips_lost; from = from; to = lbn + 1 }) old new (IsSoundSource units after)
adds_next_block skips_lost from lbn old now new answer units after begun same returned before added =
    adds_both skips_lost from lbn (lbn + 1) old now new (IsSoundSource units after) (IsSoundSource units after)
    (ReturnsWhole answer lbn 1) begun (omega arith) (λ blocks is. is)
    (λ blocks is.
    let sound_start : AllSound units = λ u. same.stays_sound.sound_before u (is.1.0 u) in
    let whole = whole_blocks (disks_of units) 0 (whole_disk units 0 is.0 (sound_start 0)) in
    subst (ReturnsWhole answer lbn 1) (sym is.1.1) (whole, returned is.0 is.1.0))
    before added

-- a piece whose Read returned its blocks
pub adds_piece_written : (skips_lost : Bool) (from to : ℕ) (old new : WriteStage) (answer : Answer) (bytes : List ℕ)
    (units : Units) → from ≤ to → answer ≡ Data SUCCESS bytes
    → new.writes ≡ old.writes ++ write_of from bytes ∷ [] → new.reports ≡ old.reports
    → AddsAllBut (record { skips_lost = skips_lost; from = from; to = to }) old new
    (λ blocks. ReturnsWhole answer from (to - from) blocks × IsSoundSource units units blocks)
adds_piece_written skips_lost from to old new answer bytes units some told added same =
    adds_written skips_lost from to old new answer bytes
    (λ blocks. ReturnsWhole answer from (to - from) blocks × IsSoundSource units units blocks) some told added same
    (λ blocks is. is.0)

-- the last block by another name
pub adds_to : (skips_lost : Bool) (from done to : ℕ) (old new : WriteStage) (Is : List (List ℕ) → Type 0) → done ≡ to
    → AddsAllBut (record { skips_lost = skips_lost; from = from; to = done }) old new Is
    → AddsAllBut (record { skips_lost = skips_lost; from = from; to = to }) old new Is
adds_to skips_lost from done to old new Is same adds =
    subst (λ (stop : ℕ). AddsAllBut (record { skips_lost = skips_lost; from = from; to = stop }) old new Is) same adds

-- less is known of its blocks
pub adds_of : (run : CopyRun) (old new : WriteStage) (Is Other : List (List ℕ) → Type 0)
    → ((blocks : List (List ℕ)) → Other blocks → Is blocks) → AddsAllBut run old new Is → AddsAllBut run old new Other
adds_of run old new Is Other is adds = record {
  tells = adds.tells;
  added = adds.added;
  adds = adds.adds;
  writes = λ blocks other. adds.writes blocks (is blocks other);
}

-- ---- what changes

pub changes_only_none : (from to : ℕ) (units after : Units) → ChangesNoBlock units after → ChangesWithin from to units after
changes_only_none from to units after same = record {
  stays_sound = same.stays_sound;
  if_sound = λ well_formed sound. let stays = same.if_sound sound in record {
    source_stays = stays.same 0;
    others_stay = λ n out. ap (λ (b : List (List ℕ)). slice_get b n) (stays.same 1);
    sizes_stay = stays.sizes_stay;
  };
}

pub within_wider : (from to low high n : ℕ) → low ≤ from → to ≤ high → is_within low high n ≡ false
    → is_within from to n ≡ false
within_wider from to low high n first second out = elim (cases_Bool (is_within from to n)) [
  | inl is ↦
      let place = inside from to n is in
      absurd (cc (is_inside low high n (omega (arith, first, place.0)) (omega (arith, second, place.1)), out))
  | inr none ↦ none
]

pub changes_only_both : (from mid to : ℕ) (units between after : Units) → from ≤ mid → mid ≤ to
    → ChangesWithin from mid units between → ChangesWithin mid to between after → ChangesWithin from to units after
changes_only_both from mid to units between after first second one two = record {
  stays_sound = record {
    sound_before = λ u sound. one.stays_sound.sound_before u (two.stays_sound.sound_before u sound);
    well_formed = λ whole. two.stays_sound.well_formed (one.stays_sound.well_formed whole);
  };
  if_sound = λ well_formed sound.
      let a = one.if_sound well_formed (λ u. two.stays_sound.sound_before u (sound u)) in
      let b = two.if_sound (one.stays_sound.well_formed well_formed) sound in
      record {
        source_stays = b.source_stays ∙ a.source_stays;
        others_stay = λ n out. b.others_stay n (within_wider mid to from to n first (omega arith) out)
            ∙ a.others_stay n (within_wider from mid from to n (omega arith) second out);
        sizes_stay = λ u. b.sizes_stay u ∙ a.sizes_stay u;
      };
}

pub changes_only_wider : (from mid to : ℕ) (units after : Units) → mid ≤ to → ChangesWithin from mid units after
    → ChangesWithin from to units after
changes_only_wider from mid to units after wider one = record {
  stays_sound = one.stays_sound;
  if_sound = λ well_formed sound. let a = one.if_sound well_formed sound in record {
    source_stays = a.source_stays;
    others_stay = λ n out. a.others_stay n (within_wider from mid from to n (omega arith) wider out);
    sizes_stay = a.sizes_stay;
  };
}

-- ---- a run of Writes

pub changes_written_by : (units after : Units) (requests : List Request) (answers : List Answer)
    → AreSoundBefore units after → (AreWellFormedIfSound units → AreWellFormedIfSound after)
    → (AllSound after → InOrderWithFailures (disks_of units) requests answers (disks_of after))
    → ChangesWritten requests units after
changes_written_by units after requests answers before well_formed run = record {
  stays_sound = record { sound_before = before; well_formed = well_formed };
  if_sound = λ sound writes.
      let ran = run sound in
      let left_is = sym (ap (λ (x : List Answer × Disks). x.1) ran.gives) in
      let left = writes_ran ran.fixed (disks_of units) (subst (All IsTargetWrite) (sym ran.are_requests) writes) in
      record {
        source_stays = ap (λ (ds : Disks). blocks_at ds 0) left_is ∙ ap blocks_in left.source_stays;
        others_stay = λ n out. ap (λ (ds : Disks). slice_get (blocks_at ds 1) n) left_is
            ∙ left.others_stay n (ap (λ (rs : List Request). is_written rs n) ran.are_requests ∙ out);
        sizes_stay = λ u. ap (λ (ds : Disks). size_at ds u) left_is ∙ left.sizes_stay u;
      };
}

-- nothing was executed
pub changes_written_none : (units : Units) (requests : List Request) → ChangesWritten requests units units
changes_written_none units requests = record {
  stays_sound = record { sound_before = λ u sound. sound; well_formed = λ whole. whole };
  if_sound = λ sound writes. record {
    source_stays = refl;
    others_stay = λ n out. refl;
    sizes_stay = λ u. refl;
  };
}

pub holds_written_by : (units after : Units) (requests : List Request) (answers : List Answer)
    → AreWritten requests answers → AreSoundBefore units after
    → (AllSound after → InOrderWithFailures (disks_of units) requests answers (disks_of after))
    → HoldsWritten requests units after
holds_written_by units after requests answers told before run well_formed sound blocks whole pieces n is =
    let ran = run sound in
    let left_is = sym (ap (λ (x : List Answer × Disks). x.1) ran.gives) in
    let answers_are = sym (ap (λ (x : List Answer × Disks). x.0) ran.gives) in
    let requests_are = sym ran.are_requests in
    let held = writes_hold ran.fixed (disks_of units) blocks n whole
    (subst (All (IsPieceOf blocks)) requests_are pieces)
    (subst (λ (as' : List Answer). AreWritten (requests_of ran.fixed) as') answers_are
    (subst (λ (rs : List Request). AreWritten rs answers) requests_are told))
    (whole_size (disks_of units) 1 (whole_disk units 1 well_formed (before 1 (sound 1))))
    (ap (λ (rs : List Request). is_written rs n) ran.are_requests ∙ is) in
    (held.0, ap (λ (ds : Disks). slice_get (blocks_at ds 1) n) left_is ∙ held.1)

-- ---- a run of a copy

-- the source of a run whose Reads succeeded, and the Writes of its blocks
record Gathered (run : CopyRun) (told : List CopyReport) (writes : List Request) (units between : Units) : Type 0 where
  pub whole : All (λ block. length block ≡ 512) (source_of units)
  pub all_but : WritesAllBut (source_of units) told writes run.from run.to
  pub same_source : source_of between ≡ source_of units
  pub same_target : target_of between ≡ target_of units

gathered_by : (run : CopyRun) (old new : WriteStage) (units between : Units) → old.writes ≡ []
    → AreWellFormedIfSound units → AllSound between → ChangesNoBlock units between
    → (adds : AddsAllBut run old new (IsSoundSource units between)) → Gathered run adds.tells.0.told new.writes units between
gathered_by run old new units between none well_formed sound same adds =
    let start : AllSound units = λ u. same.stays_sound.sound_before u (sound u) in
    let stays = same.if_sound sound in
    let writes_are : new.writes ≡ adds.added = adds.adds ∙ ap (λ (l : List Request). l ++ adds.added) none in
    record {
      whole = whole_blocks (disks_of units) 0 (whole_disk units 0 well_formed (start 0));
      all_but = rw writes_are (adds.writes (source_of units) (well_formed, (sound, refl)));
      same_source = stays.same 0;
      same_target = stays.same 1;
    }

unwritten : (from to : ℕ) (told : List CopyReport) (writes : List Request) (blocks : List (List ℕ)) (n : ℕ)
    → WritesAllBut blocks told writes from to → (is_within from to n ≡ false) ⊎ (is_told_lost told n ≡ true)
    → is_written writes n ≡ false
unwritten from to told writes blocks n all (inl out) = all.written n ∙ rw out refl
unwritten from to told writes blocks n all (inr is) = all.written n ∙ rw is (none (is_within from to n))
  where
    none : (b : Bool) → (b && false) ≡ false
    none true = refl
    none false = refl

pub run_changes_only : (run : CopyRun) (old new : WriteStage) (units between after : Units) → old.writes ≡ []
    → ChangesNoBlock units between → AddsAllBut run old new (IsSoundSource units between)
    → ChangesWritten new.writes between after → ChangesWithin run.from run.to units after
run_changes_only run old new units between after none same adds written = record {
  stays_sound = record {
    sound_before = λ u sound. same.stays_sound.sound_before u (written.stays_sound.sound_before u sound);
    well_formed = λ whole. written.stays_sound.well_formed (same.stays_sound.well_formed whole);
  };
  if_sound = λ well_formed sound.
      let mid : AllSound between = λ u. written.stays_sound.sound_before u (sound u) in
      let got = gathered_by run old new units between none well_formed mid same adds in
      let left = written.if_sound sound (pieces_write (source_of units) new.writes got.all_but.pieces) in
      record {
        source_stays = left.source_stays ∙ got.same_source;
        others_stay = λ n out. left.others_stay n
            (unwritten run.from run.to adds.tells.0.told new.writes (source_of units) n got.all_but (inl out))
            ∙ ap (λ (b : List (List ℕ)). slice_get b n) got.same_target;
        sizes_stay = λ u. left.sizes_stay u ∙ (same.if_sound mid).sizes_stay u;
      };
}

-- a run that failed while it read
pub runs_unwritten : (run : CopyRun) (old new : CopyStage) → ChangesNoBlock old.units new.units
    → ReportsLost run.skips_lost run.from run.to old.reports new.reports → RunsAsTold run run.from old new
runs_unwritten run old new same tells = record {
  tells = tells;
  if_sound = λ well_formed sound. record {
    copied = λ n low below unlost. absurd (omega (arith, low, below));
    lost_stay = λ n is. ap (λ (b : List (List ℕ)). slice_get b n) ((same.if_sound sound).same 1);
  };
}

-- one whose Writes were executed
pub runs_written : (run : CopyRun) (old new : WriteStage) (units between after : Units) → old.writes ≡ []
    → ChangesNoBlock units between → AddsAllBut run old new (IsSoundSource units between)
    → ChangesWritten new.writes between after
    → RunsAsTold run run.from (record { units = units; reports = old.reports }) (record { units = after; reports = new.reports })
runs_written run old new units between after none same adds written = record {
  tells = adds.tells;
  if_sound = λ well_formed sound.
      let mid : AllSound between = λ u. written.stays_sound.sound_before u (sound u) in
      let got = gathered_by run old new units between none well_formed mid same adds in
      let left = written.if_sound sound (pieces_write (source_of units) new.writes got.all_but.pieces) in
      record {
        copied = λ n low below unlost. absurd (omega (arith, low, below));
        lost_stay = λ n is. left.others_stay n
            (unwritten run.from run.to adds.tells.0.told new.writes (source_of units) n got.all_but (inr is))
            ∙ ap (λ (b : List (List ℕ)). slice_get b n) got.same_target;
      };
}

-- and one whose Writes succeeded
pub runs_all : (run : CopyRun) (old new : WriteStage) (units between after : Units) → old.writes ≡ []
    → ChangesNoBlock units between → AddsAllBut run old new (IsSoundSource units between)
    → ChangesWritten new.writes between after → HoldsWritten new.writes between after
    → RunsAsTold run run.to (record { units = units; reports = old.reports }) (record { units = after; reports = new.reports })
runs_all run old new units between after none same adds written holds = record {
  tells = adds.tells;
  if_sound = λ well_formed sound.
      let mid : AllSound between = λ u. written.stays_sound.sound_before u (sound u) in
      let got = gathered_by run old new units between none well_formed mid same adds in
      let left = written.if_sound sound (pieces_write (source_of units) new.writes got.all_but.pieces) in
      record {
        copied = λ n low below unlost. holds (same.stays_sound.well_formed well_formed) sound (source_of units) got.whole
            got.all_but.pieces n (got.all_but.written n ∙ rw (is_inside run.from run.to n low below, unlost) refl);
        lost_stay = λ n is. left.others_stay n
            (unwritten run.from run.to adds.tells.0.told new.writes (source_of units) n got.all_but (inr is))
            ∙ ap (λ (b : List (List ℕ)). slice_get b n) got.same_target;
      };
}

-- ---- run after run

-- the runs of a copy so far, up to the block `done`
pub record CopiedSoFar (skips_lost : Bool) (from done : ℕ) (old now : CopyStage) : Type 0 where
  pub tells : AddsReports skips_lost from done old.reports now.reports
  pub end : reached_end from tells.told ≡ done
  pub changes : ChangesWithin from done old.units now.units
  pub if_sound : AreWellFormedIfSound old.units → AllSound now.units
      → IsCopiedBut tells.told from done old.units now.units

copied_both : (from mid to end : ℕ) (told1 told2 : List CopyReport) (units between after : Units) → from ≤ mid → mid ≤ to
    → end ≤ to → AreReports from mid told1 → AreReports mid to told2 → HasOtherBlocks (is_within from mid) units between
    → HasOtherBlocks (is_within mid to) between after → IsCopiedBut told1 from mid units between
    → IsCopiedBut told2 mid end between after → IsCopiedBut (told2 ++ told1) from end units after
copied_both from mid to end told1 told2 units between after first second last are1 are2 changed1 changed2 one two = record {
  copied = λ n low below unlost. at n low below unlost (cases_lt n mid);
  lost_stay = λ n is. stays n is (cases_Bool (is_told_lost told2 n));
}
  where
    or_none : (x y : Bool) → (x || y) ≡ false → (x ≡ false) × (y ≡ false)
    or_none true y h = absurd (cc)
    or_none false y h = (refl, h)

    or_last : (x y : Bool) → (x || y) ≡ true → x ≡ false → y ≡ true
    or_last true y h none = absurd (cc none)
    or_last false y h none = h

    at : (n : ℕ) → from ≤ n → n < end → is_told_lost (told2 ++ told1) n ≡ false → (n < mid) ⊎ (mid ≤ n)
        → IsBlockOf n (source_of units) (target_of after)
    at n low below unlost (inl before) =
        let parts = or_none (is_told_lost told2 n) (is_told_lost told1 n) (sym (is_lost_both told2 told1 n) ∙ unlost) in
        let here = one.copied n low before parts.1 in
        (here.0, changed2.others_stay n (is_outside mid to n (inl before)) ∙ here.1)
    at n low below unlost (inr past) =
        let parts = or_none (is_told_lost told2 n) (is_told_lost told1 n) (sym (is_lost_both told2 told1 n) ∙ unlost) in
        subst (λ (s : List (List ℕ)). IsBlockOf n s (target_of after)) changed1.source_stays
        (two.copied n past below parts.0)

    stays : (n : ℕ) → is_told_lost (told2 ++ told1) n ≡ true → (is_told_lost told2 n ≡ true) ⊎ (is_told_lost told2 n ≡ false)
        → slice_get (target_of after) n ≡ slice_get (target_of units) n
    stays n is (inl newer) =
        let place = lost_within mid to told2 n are2 newer in
        two.lost_stay n newer ∙ changed1.others_stay n (is_outside from mid n (inr place.0))
    stays n is (inr none) =
        let older = or_last (is_told_lost told2 n) (is_told_lost told1 n) (sym (is_lost_both told2 told1 n) ∙ is) none in
        let place = lost_within from mid told1 n are1 older in
        changed2.others_stay n (is_outside mid to n (inl place.1)) ∙ one.lost_stay n older

pub copied_none : (skips_lost : Bool) (from : ℕ) (stage : CopyStage) → CopiedSoFar skips_lost from from stage stage
copied_none skips_lost from stage = record {
  tells = record { told = []; added = refl; are_reports = tt; none_lost = λ none n. refl };
  end = refl;
  changes = record {
    stays_sound = record { sound_before = λ u sound. sound; well_formed = λ whole. whole };
    if_sound = λ well_formed sound. record {
      source_stays = refl;
      others_stay = λ n out. refl;
      sizes_stay = λ u. refl;
    };
  };
  if_sound = λ well_formed sound. record {
    copied = λ n low below unlost. absurd (omega (arith, low, below));
    lost_stay = λ n is. absurd (cc);
  };
}

-- a run that fails
pub copied_in_part : (skips_lost : Bool) (from mid stop to : ℕ) (old now after : CopyStage) → from ≤ mid → mid ≤ stop
    → stop ≤ to → CopiedSoFar skips_lost from mid old now → ChangesWithin mid stop now.units after.units
    → RunsAsTold (record { skips_lost = skips_lost; from = mid; to = stop }) mid now after
    → CopiesAsTold skips_lost from to old after
copied_in_part skips_lost from mid stop to old now after first second last before changes run =
    let all = tells_both skips_lost from mid stop old.reports now.reports after.reports first second before.tells
    run.tells.0 in
    record {
      tells = record {
        told = run.tells.0.told ++ before.tells.told;
        added = all.added;
        are_reports = are_reports_wider from stop to all.told last all.are_reports;
        none_lost = all.none_lost;
      };
      if_sound = λ well_formed sound.
          let sound_now : AllSound now.units = λ u. changes.stays_sound.sound_before u (sound u) in
          let whole_now = before.changes.stays_sound.well_formed well_formed in
          let told1 = before.tells.told in let told2 = run.tells.0.told in
          let end : mid ≡ reached_end from (told2 ++ told1) =
          sym (reached_end_both from told2 told1 ∙ run.tells.1 (reached_end from told1) ∙ before.end) in
          subst (λ (e : ℕ). IsCopiedBut (told2 ++ told1) from e old.units after.units) end
          (copied_both from mid stop mid told1 told2 old.units now.units after.units first second second
          before.tells.are_reports run.tells.0.are_reports (before.changes.if_sound well_formed sound_now)
          (changes.if_sound whole_now sound) (before.if_sound well_formed sound_now) (run.if_sound whole_now sound));
    }

-- a run that succeeds, and was then reported
pub copied_next : (skips_lost : Bool) (from mid to : ℕ) (old now after : CopyStage) (reports : List CopyReport) → from ≤ mid
    → mid < to → CopiedSoFar skips_lost from mid old now → ChangesWithin mid to now.units after.units
    → RunsAsTold (record { skips_lost = skips_lost; from = mid; to = to }) to now
    (record { units = after.units; reports = reports })
    → after.reports ≡ reached to ∷ reports → CopiedSoFar skips_lost from to old after
copied_next skips_lost from mid to old now after reports first second before changes run told =
    let all = tells_both skips_lost from mid to old.reports now.reports reports first (omega (arith, second)) before.tells
    run.tells.0 in
    record {
      tells = record {
        told = reached to ∷ (run.tells.0.told ++ before.tells.told);
        added = told ∙ ap (λ (l : List CopyReport). reached to ∷ l) all.added;
        are_reports = (
          told_end_within from to all.told (omega (arith, first, second)) all.are_reports,
          (
            omega (
              arith,
              reached_end_both from run.tells.0.told before.tells.told,
              run.tells.1 (reached_end from before.tells.told),
              before.end,
              second,
            ),
            (omega arith, all.are_reports),
          ),
        );
        none_lost = all.none_lost;
      };
      end = refl;
      changes = changes_only_both from mid to old.units now.units after.units first (omega (arith, second)) before.changes
          changes;
      if_sound = λ well_formed sound.
          let sound_now : AllSound now.units = λ u. changes.stays_sound.sound_before u (sound u) in
          let whole_now = before.changes.stays_sound.well_formed well_formed in
          let both = copied_both from mid to to before.tells.told run.tells.0.told old.units now.units after.units first
          (omega (arith, second)) (omega arith) before.tells.are_reports run.tells.0.are_reports
          (before.changes.if_sound well_formed sound_now) (changes.if_sound whole_now sound)
          (before.if_sound well_formed sound_now) (run.if_sound whole_now sound) in
          record { copied = both.copied; lost_stay = both.lost_stay };
    }

-- ---- the end of a range

pub changes_only_end : (from to done : ℕ) (units after : Units) → to ≤ done → from ≤ done → done ≤ max from to
    → ChangesWithin from done units after → ChangesWithin from to units after
changes_only_end from to done units after past begun within changes = elim (cases_lt from to) [
  | inl some ↦ let same : done ≡ to = omega (arith, past, within, some) in
      subst (λ (n : ℕ). ChangesWithin from n units after) same changes
  | inr none ↦ record {
    stays_sound = changes.stays_sound;
    if_sound = λ well_formed sound. let a = changes.if_sound well_formed sound in record {
      source_stays = a.source_stays;
      others_stay = λ n out. a.others_stay n (is_outside from done n (elim (cases_lt n from) [
        | inl low ↦ inl low
        | inr high ↦ inr (omega (arith, high, within, none))
      ]));
      sizes_stay = a.sizes_stay;
    };
  }
]

pub copied_end : (skips_lost : Bool) (from to done : ℕ) (old new : CopyStage) → to ≤ done → from ≤ done
    → done ≤ max from to → CopiedSoFar skips_lost from done old new → CopiesAsTold skips_lost from to old new
copied_end skips_lost from to done old new past begun within copied = record {
  tells = tells_end skips_lost from to done old.reports new.reports past begun within copied.tells;
  if_sound = λ well_formed sound.
      subst (λ (e : ℕ). IsCopiedBut copied.tells.told from e old.units new.units) (sym copied.end)
      (copied.if_sound well_formed sound);
}

-- the last end that was reported, after the last run
pub told_to_end : (skips_lost : Bool) (from to done : ℕ) (reports after : List CopyReport)
    (tells : AddsReports skips_lost from done reports after) → to ≤ done → done ≤ max from to
    → reached_end from tells.told ≡ done → ReportsLastBlock from to reports after
told_to_end skips_lost from to done reports after tells past within end told added some =
    ap (reached_end from) (append_cancel_right told tells.told reports (sym added ∙ tells.added)) ∙ end
    ∙ omega (arith, past, within, some)

-- ---- the reports of a comparison

pub record ToldSoFar (from done : ℕ) (reports after : List CopyReport) : Type 0 where
  pub tells : AddsReports false from done reports after
  pub end : reached_end from tells.told ≡ done

pub told_none : (from : ℕ) (reports : List CopyReport) → ToldSoFar from from reports reports
told_none from reports = record {
  tells = record { told = []; added = refl; are_reports = tt; none_lost = λ none n. refl };
  end = refl;
}

pub told_next : (from mid to : ℕ) (reports between after : List CopyReport) → from ≤ mid → mid < to
    → after ≡ reached to ∷ between → ToldSoFar from mid reports between → ToldSoFar from to reports after
told_next from mid to reports between after first second added before = record {
  tells = record {
    told = reached to ∷ before.tells.told;
    added = added ∙ ap (λ (l : List CopyReport). reached to ∷ l) before.tells.added;
    are_reports = (
      omega (arith, told_end_within from mid before.tells.told first before.tells.are_reports, second),
      (
        omega (arith, before.end, second),
        (omega arith, are_reports_wider from mid to before.tells.told (omega (arith, second)) before.tells.are_reports),
      ),
    );
    none_lost = before.tells.none_lost;
  };
  end = refl;
}

pub told_in_part : (from mid to : ℕ) (reports after : List CopyReport) → mid ≤ to → AddsReports false from mid reports after
    → AddsReports false from to reports after
told_in_part from mid to reports after wider tells = record {
  told = tells.told;
  added = tells.added;
  are_reports = are_reports_wider from mid to tells.told wider tells.are_reports;
  none_lost = tells.none_lost;
}
