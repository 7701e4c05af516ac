-- What a copy of the unfinished blocks of a range does.
use Rattle.std.proofs.Common.{◌≡◌, ◌≢◌, ◌⊎◌, Bool, true, false, if◌then◌else◌, inl, inr, ℕ, ◌<◌, ◌≤◌, List, [], ◌∷◌, ◌++◌, All, refl, sym, ap, ◌∙◌, arith, subst, append_assoc}
use Rattle.std.specs.Prelude.{◌||◌, nat_eq}
use Rattle.std.proofs.lemmas.Bool.{cases_lt, cases_Bool, or_from}
use Rattle.std.proofs.lemmas.Bool.Decides.{eqb_tells}
use Rattle.std.proofs.lemmas.List.Elements.{All-map, All-contains}
use Rattle.std.specs.List.{Contains}
use Rattle.uda_disk.specs.Units.{Units, AllSound}
use Rattle.uda50_copy.specs.declared.map.entry.BlockStatus.{BlockStatus}
use Rattle.uda50_copy.specs.declared.map.entry.BlockStatus.TheVariants.{NonTried, Bad, Finished}
use Rattle.uda50_copy.specs.declared.map.entry.MapEntry.{MapEntry}
use Rattle.uda50_copy.specs.Copy.{target_of}
use Rattle.uda50_copy.specs.Map.{is_within, statuses_at, changed, IsSet, IsFinishedBetween, IsUnfinishedBetween, IsFinishedAt}
use Rattle.uda50_copy.specs.Report.{CopyReport, reached, lost, begun, given, skipped}
use Rattle.uda50_copy.specs.Reports.{AreReports, reached_end, reports_end, is_told_lost, CopiesAsTold, IsBlockOf, ReportsLastBlock}
use Rattle.uda50_copy.specs.Record.{RecordState, IsAsReported, run_start, is_lost_in_run, noted_at}
use Rattle.uda50_copy.specs.Changes.{ChangesWithin}
use Rattle.uda50_copy.specs.Range.{given_end, AreGiven, is_given, CopyStates, IsCopiedIfSound, IsDone, was_finished, is_copied, was_lost, has_zeros, CopiesUnfinished, CopiesAllUnfinished, FinishedOnlyIf, NoneUntried}
use Rattle.uda50_copy.proofs.Told.{told_end_within, reached_end_within, reached_end_from, is_lost_both, or_cases}
use Rattle.uda50_copy.proofs.Pieces.{changes_no_block_none}
use Rattle.uda50_copy.proofs.Gathered.{changes_only_none, changes_only_wider, within_wider}
use Rattle.uda50_copy.proofs.Written.{inside, is_inside, is_outside}

or_false : (b : Bool) → (b || false) ≡ b
or_false true = refl
or_false false = refl

not_equal : (b n : ℕ) → n < b → nat_eq b n ≡ false
not_equal b n less = elim (eqb_tells b n) [
  | inl both ↦ absurd (omega (arith, both.1, less))
  | inr both ↦ both.0
]

-- ---- a range that was given, and its reports

lost_before : (from to : ℕ) (told : List CopyReport) (n : ℕ) → AreReports from to told → is_told_lost told n ≡ true
    → n < reports_end from told
lost_before from to [] n h is = absurd (cc)
lost_before from to (reached stop ∷ told) n h is = omega (arith, lost_before from to told n h.1.1.1 is, h.0)
lost_before from to (lost block ∷ told) n h is = elim (or_cases (nat_eq block n) (is_told_lost told n) is) [
  | inl here ↦ elim (eqb_tells block n) [
    | inl both ↦ omega (arith, both.1)
    | inr both ↦ absurd (cc (both.0, here))
  ]
  | inr there ↦ omega (arith, lost_before from to told n h.1.1 there, h.0)
]
lost_before from to (begun entries ∷ told) n h is = absurd h
lost_before from to (given start end ∷ told) n h is = absurd h
lost_before from to (skipped start end ∷ told) n h is = absurd h

start_told : (s e : ℕ) (told older : List CopyReport) → AreReports s e told
    → run_start (told ++ given s e ∷ older) ≡ reached_end s told
start_told s e [] older h = refl
start_told s e (reached stop ∷ told) older h = refl
start_told s e (lost block ∷ told) older h = start_told s e told older h.1.1
start_told s e (begun entries ∷ told) older h = absurd h
start_told s e (given start end ∷ told) older h = absurd h
start_told s e (skipped start end ∷ told) older h = absurd h

in_run_low : (s e : ℕ) (told older : List CopyReport) (n : ℕ) → AreReports s e told → n < reached_end s told
    → is_lost_in_run (told ++ given s e ∷ older) n ≡ false
in_run_low s e [] older n h low = refl
in_run_low s e (reached stop ∷ told) older n h low = refl
in_run_low s e (lost block ∷ told) older n h low =
    or_from (nat_eq block n) (is_lost_in_run (told ++ given s e ∷ older) n)
    (not_equal block n (omega (arith, low, reached_end_within s e told h.1.1, h.0)))
    (in_run_low s e told older n h.1.1 low)
in_run_low s e (begun entries ∷ told) older n h low = absurd h
in_run_low s e (given start end ∷ told) older n h low = absurd h
in_run_low s e (skipped start end ∷ told) older n h low = absurd h

in_run_high : (s e : ℕ) (told older : List CopyReport) (n : ℕ) → AreReports s e told → reached_end s told ≤ n
    → is_lost_in_run (told ++ given s e ∷ older) n ≡ is_told_lost told n
in_run_high s e [] older n h high = refl
in_run_high s e (reached stop ∷ told) older n h high = elim (cases_Bool (is_told_lost told n)) [
  | inl is ↦ absurd (omega (arith, lost_before s e told n h.1.1.1 is, h.0, high))
  | inr unlost ↦ sym unlost
]
in_run_high s e (lost block ∷ told) older n h high =
    ap (λ (b : Bool). nat_eq block n || b) (in_run_high s e told older n h.1.1 high)
in_run_high s e (begun entries ∷ told) older n h high = absurd h
in_run_high s e (given start end ∷ told) older n h high = absurd h
in_run_high s e (skipped start end ∷ told) older n h high = absurd h

-- the statuses that the reports of a range give a block
abbrev given_status : ℕ → List CopyReport → ℕ → List BlockStatus → List BlockStatus
given_status s told n statuses =
    if is_within s (reached_end s told) n then (if is_told_lost told n then changed Bad statuses else changed Finished statuses)
    else statuses

noted_reached : (s e stop : ℕ) (told older : List CopyReport) (n : ℕ) → AreReports s e told → reports_end s told ≤ stop
    → reached_end s told < stop
    → noted_at (told ++ given s e ∷ older) n ≡ given_status s told n (noted_at older n)
    → noted_at (reached stop ∷ (told ++ given s e ∷ older)) n ≡ given_status s (reached stop ∷ told) n (noted_at older n)
noted_reached s e stop told older n h after later before = elim (cases_lt n (reached_end s told)) [
  | inl low ↦
      let in_run = in_run_low s e told older n h low in
      let start = start_told s e told older h in
      let out = is_outside (reached_end s told) stop n (inl low) in
      rw (in_run, start, out) (before ∙ elim (cases_lt n s) [
        | inl early ↦ rw (is_outside s (reached_end s told) n (inl early), is_outside s stop n (inl early)) refl
        | inr past ↦
            rw (is_inside s (reached_end s told) n past low, is_inside s stop n past (omega (arith, low, later))) refl
      ])
  | inr high ↦
      let in_run = in_run_high s e told older n h high in
      let start = start_told s e told older h in
      let from = reached_end_from s e told h in
      let same : noted_at (told ++ given s e ∷ older) n ≡ noted_at older n =
      before ∙ rw (is_outside s (reached_end s told) n (inr high)) refl in
      rw (in_run, start, same) (elim (cases_lt n stop) [
        | inl below ↦
            rw (is_inside (reached_end s told) stop n high below, is_inside s stop n (omega (arith, from, high)) below) refl
        | inr past ↦ elim (cases_Bool (is_told_lost told n)) [
          | inl is ↦ absurd (omega (arith, lost_before s e told n h is, after, past))
          | inr unlost ↦
              rw (unlost, is_outside (reached_end s told) stop n (inr past), is_outside s stop n (inr past)) refl
        ]
      ])
]

noted_told : (s e : ℕ) (told older : List CopyReport) (n : ℕ) → AreReports s e told
    → noted_at (told ++ given s e ∷ older) n ≡ given_status s told n (noted_at older n)
noted_told s e [] older n h = rw (is_outside s s n (cases_lt n s)) refl
noted_told s e (reached stop ∷ told) older n h =
    noted_reached s e stop told older n h.1.1.1 h.0 h.1.0 (noted_told s e told older n h.1.1.1)
noted_told s e (lost block ∷ told) older n h = noted_told s e told older n h.1.1 ∙ elim (cases_lt n (reached_end s told)) [
  | inl low ↦
      rw (not_equal block n (omega (arith, low, reached_end_within s e told h.1.1, h.0))) refl
  | inr high ↦ rw (is_outside s (reached_end s told) n (inr high)) refl
]
noted_told s e (begun entries ∷ told) older n h = absurd h
noted_told s e (given start end ∷ told) older n h = absurd h
noted_told s e (skipped start end ∷ told) older n h = absurd h

given_end_alone : (s e : ℕ) (told : List CopyReport) → AreReports s e told → given_end s (told ++ given s e ∷ []) ≡ e
given_end_alone s e [] h = refl
given_end_alone s e (reached stop ∷ told) h = given_end_alone s e told h.1.1.1
given_end_alone s e (lost block ∷ told) h = given_end_alone s e told h.1.1
given_end_alone s e (begun entries ∷ told) h = absurd h
given_end_alone s e (given start end ∷ told) h = absurd h
given_end_alone s e (skipped start end ∷ told) h = absurd h

given_alone : (s e : ℕ) (told : List CopyReport) → s < e → AreReports s e told → AreGiven s e (told ++ given s e ∷ [])
given_alone s e [] some h = (omega arith, (some, (omega arith, tt)))
given_alone s e (reached stop ∷ told) some h = given_alone s e told some h.1.1.1
given_alone s e (lost block ∷ told) some h = (
  omega (arith, reached_end_from s e told h.1.1, reached_end_within s e told h.1.1, h.0),
  (omega (arith, given_end_alone s e told h.1.1, h.1.0), given_alone s e told some h.1.1),
)
given_alone s e (begun entries ∷ told) some h = absurd h
given_alone s e (given start end ∷ told) some h = absurd h
given_alone s e (skipped start end ∷ told) some h = absurd h

is_given_alone : (s e : ℕ) (told : List CopyReport) (n : ℕ) → AreReports s e told
    → is_given (told ++ given s e ∷ []) n ≡ is_within s e n
is_given_alone s e [] n h = or_false (is_within s e n)
is_given_alone s e (reached stop ∷ told) n h = is_given_alone s e told n h.1.1.1
is_given_alone s e (lost block ∷ told) n h = is_given_alone s e told n h.1.1
is_given_alone s e (begun entries ∷ told) n h = absurd h
is_given_alone s e (given start end ∷ told) n h = absurd h
is_given_alone s e (skipped start end ∷ told) n h = absurd h

is_lost_alone : (s e : ℕ) (told : List CopyReport) (n : ℕ) → is_told_lost (told ++ given s e ∷ []) n ≡ is_told_lost told n
is_lost_alone s e told n = is_lost_both told (given s e ∷ []) n ∙ or_false (is_told_lost told n)

-- a copy of one range
pub copies_given : (skips_lost : Bool) (s e : ℕ) (t : CopyStates) → s < e
    → (copies : CopiesAsTold skips_lost s e (record { units = t.units; reports = given s e ∷ t.reports })
    (record { units = t.units_after; reports = t.reports_after }))
    → ((n : ℕ) → statuses_at t.map n ≡ noted_at t.reports n)
    → ((n : ℕ) → statuses_at t.map_after n ≡ noted_at t.reports_after n)
    → IsUnfinishedBetween s e t.map
    → (made : CopiesUnfinished s e t (λ n. ⊥)) × (made.end ≡ reached_end s copies.tells.told)
copies_given skips_lost s e t some copies before after unfinished = (
  record {
    told = told ++ given s e ∷ [];
    added = copies.tells.added ∙ sym (append_assoc told (given s e ∷ []) t.reports);
    are_given = given_alone s e told some are;
    end = reached_end s told;
    begins = reached_end_from s e told are;
    ends = omega (arith, last);
    up_to = record {
      done = λ n low high. by n low high (cases_Bool (is_told_lost told n));
      left = λ n out. record {
        same = now n ∙ rw out refl;
        unfinished = λ is.
            let place = inside s e n (sym (is_given_alone s e told n are) ∙ is) in
            unfinished n place.0 place.1;
      };
    };
  },
  refl,
)
  where
    told : List CopyReport
    told = copies.tells.told

    are : AreReports s e told
    are = copies.tells.are_reports

    last : reached_end s told ≤ e
    last = omega (arith, reached_end_within s e told are, told_end_within s e told (omega (arith, some)) are)

    now : (n : ℕ) → statuses_at t.map_after n ≡ given_status s told n (statuses_at t.map n)
    now n = after n ∙ ap (λ (l : List CopyReport). noted_at l n) copies.tells.added ∙ noted_told s e told t.reports n are
        ∙ ap (given_status s told n) (sym (before n))

    by : (n : ℕ) → s ≤ n → n < reached_end s told → (is_told_lost told n ≡ true) ⊎ (is_told_lost told n ≡ false)
        → IsDone t (told ++ given s e ∷ []) (λ n. ⊥) n
    by n low high (inl is) =
        was_lost (unfinished n low (omega (arith, high, last)))
        (is_given_alone s e told n are ∙ is_inside s e n low (omega (arith, high, last))) (is_lost_alone s e told n ∙ is)
        (now n ∙ rw (is_inside s (reached_end s told) n low high, is) refl)
    by n low high (inr unlost) =
        is_copied (unfinished n low (omega (arith, high, last)))
        (is_given_alone s e told n are ∙ is_inside s e n low (omega (arith, high, last))) (is_lost_alone s e told n ∙ unlost)
        (λ well_formed sound. (copies.if_sound well_formed sound).copied n low high unlost)
        (now n ∙ rw (is_inside s (reached_end s told) n low high, unlost) refl)

-- ---- one range after another

given_end_from : (s e : ℕ) (told : List CopyReport) → AreGiven s e told → s ≤ given_end s told
given_end_from s e [] h = omega arith
given_end_from s e (given from to ∷ told) h = omega (arith, given_end_from s e told h.1.1.1, h.0, h.1.0)
given_end_from s e (lost block ∷ told) h = given_end_from s e told h.1.1
given_end_from s e (reached stop ∷ told) h = given_end_from s e told h
given_end_from s e (begun entries ∷ told) h = given_end_from s e told h
given_end_from s e (skipped from to ∷ told) h = given_end_from s e told h

given_end_within : (s e : ℕ) (told : List CopyReport) → s ≤ e → AreGiven s e told → given_end s told ≤ e
given_end_within s e [] some h = some
given_end_within s e (given from to ∷ told) some h = h.1.1.0
given_end_within s e (lost block ∷ told) some h = given_end_within s e told some h.1.1
given_end_within s e (reached stop ∷ told) some h = given_end_within s e told some h
given_end_within s e (begun entries ∷ told) some h = given_end_within s e told some h
given_end_within s e (skipped from to ∷ told) some h = given_end_within s e told some h

given_within : (s e : ℕ) (told : List CopyReport) (n : ℕ) → AreGiven s e told → is_given told n ≡ true → (s ≤ n) × (n < e)
given_within s e [] n h is = absurd (cc)
given_within s e (given from to ∷ told) n h is = elim (or_cases (is_within from to n) (is_given told n) is) [
  | inl here ↦ (let place = inside from to n here in (
    omega (arith, place.0, given_end_from s e told h.1.1.1, h.0),
    omega (arith, place.1, h.1.1.0),
  ))
  | inr there ↦ given_within s e told n h.1.1.1 there
]
given_within s e (lost block ∷ told) n h is = given_within s e told n h.1.1 is
given_within s e (reached stop ∷ told) n h is = given_within s e told n h is
given_within s e (begun entries ∷ told) n h is = given_within s e told n h is
given_within s e (skipped from to ∷ told) n h is = given_within s e told n h is

lost_given : (s e : ℕ) (told : List CopyReport) (n : ℕ) → s ≤ e → AreGiven s e told → is_told_lost told n ≡ true
    → (s ≤ n) × (n < e)
lost_given s e [] n some h is = absurd (cc)
lost_given s e (given from to ∷ told) n some h is = lost_given s e told n some h.1.1.1 is
lost_given s e (lost block ∷ told) n some h is = elim (or_cases (nat_eq block n) (is_told_lost told n) is) [
  | inl here ↦ elim (eqb_tells block n) [
    | inl both ↦ (
      omega (arith, both.1, h.0),
      omega (arith, both.1, h.1.0, given_end_within s e told some h.1.1),
    )
    | inr both ↦ absurd (cc (both.0, here))
  ]
  | inr there ↦ lost_given s e told n some h.1.1 there
]
lost_given s e (reached stop ∷ told) n some h is = lost_given s e told n some h is
lost_given s e (begun entries ∷ told) n some h is = lost_given s e told n some h is
lost_given s e (skipped from to ∷ told) n some h is = lost_given s e told n some h is

given_wider : (s mid e : ℕ) (told : List CopyReport) → mid ≤ e → AreGiven s mid told → AreGiven s e told
given_wider s mid e [] wider h = tt
given_wider s mid e (given from to ∷ told) wider h =
    (h.0, (h.1.0, (omega (arith, h.1.1.0, wider), given_wider s mid e told wider h.1.1.1)))
given_wider s mid e (lost block ∷ told) wider h = (h.0, (h.1.0, given_wider s mid e told wider h.1.1))
given_wider s mid e (reached stop ∷ told) wider h = given_wider s mid e told wider h
given_wider s mid e (begun entries ∷ told) wider h = given_wider s mid e told wider h
given_wider s mid e (skipped from to ∷ told) wider h = given_wider s mid e told wider h

given_end_both : (from mid : ℕ) (newer older : List CopyReport) → given_end from older ≤ mid
    → given_end from (newer ++ older) ≤ given_end mid newer
given_end_both from mid [] older h = h
given_end_both from mid (given a b ∷ newer) older h = omega arith
given_end_both from mid (lost block ∷ newer) older h = given_end_both from mid newer older h
given_end_both from mid (reached stop ∷ newer) older h = given_end_both from mid newer older h
given_end_both from mid (begun entries ∷ newer) older h = given_end_both from mid newer older h
given_end_both from mid (skipped a b ∷ newer) older h = given_end_both from mid newer older h

given_end_past : (from mid block : ℕ) (newer older : List CopyReport) → mid ≤ block → block < given_end mid newer
    → block < given_end from (newer ++ older)
given_end_past from mid block [] older late h = absurd (omega (arith, late, h))
given_end_past from mid block (given a b ∷ newer) older late h = h
given_end_past from mid block (lost other ∷ newer) older late h = given_end_past from mid block newer older late h
given_end_past from mid block (reached stop ∷ newer) older late h = given_end_past from mid block newer older late h
given_end_past from mid block (begun entries ∷ newer) older late h = given_end_past from mid block newer older late h
given_end_past from mid block (skipped a b ∷ newer) older late h = given_end_past from mid block newer older late h

given_both : (from mid to : ℕ) (newer older : List CopyReport) → from ≤ mid → mid ≤ to → AreGiven from mid older
    → AreGiven mid to newer → AreGiven from to (newer ++ older)
given_both from mid to [] older first second before h = given_wider from mid to older second before
given_both from mid to (given a b ∷ newer) older first second before h = (
  omega (arith, given_end_both from mid newer older (given_end_within from mid older first before), h.0),
  (h.1.0, (h.1.1.0, given_both from mid to newer older first second before h.1.1.1)),
)
given_both from mid to (lost block ∷ newer) older first second before h = (
  omega (arith, first, h.0),
  (given_end_past from mid block newer older h.0 h.1.0, given_both from mid to newer older first second before h.1.1),
)
given_both from mid to (reached stop ∷ newer) older first second before h =
    given_both from mid to newer older first second before h
given_both from mid to (begun entries ∷ newer) older first second before h =
    given_both from mid to newer older first second before h
given_both from mid to (skipped a b ∷ newer) older first second before h =
    given_both from mid to newer older first second before h

or_assoc : (x y z : Bool) → (x || (y || z)) ≡ ((x || y) || z)
or_assoc true y z = refl
or_assoc false y z = refl

is_given_both : (newer older : List CopyReport) (n : ℕ) → is_given (newer ++ older) n ≡ (is_given newer n || is_given older n)
is_given_both [] older n = refl
is_given_both (given a b ∷ newer) older n =
    ap (λ (x : Bool). is_within a b n || x) (is_given_both newer older n)
    ∙ or_assoc (is_within a b n) (is_given newer n) (is_given older n)
is_given_both (lost block ∷ newer) older n = is_given_both newer older n
is_given_both (reached stop ∷ newer) older n = is_given_both newer older n
is_given_both (begun entries ∷ newer) older n = is_given_both newer older n
is_given_both (skipped a b ∷ newer) older n = is_given_both newer older n

false_unless : (b : Bool) → (b ≡ true → ⊥) → b ≡ false
false_unless true not = absurd (not refl)
false_unless false not = refl

-- what came of a block, seen from a longer copy
done_moved : (t u : CopyStates) (told longer : List CopyReport) (Zeros Z : ℕ → Type 0) (n : ℕ)
    → statuses_at u.map n ≡ statuses_at t.map n → statuses_at u.map_after n ≡ statuses_at t.map_after n
    → is_given longer n ≡ is_given told n → is_told_lost longer n ≡ is_told_lost told n
    → (IsCopiedIfSound t n → IsCopiedIfSound u n) → (Zeros n → Z n) → IsDone t told Zeros n → IsDone u longer Z n
done_moved t u told longer Zeros Z n map after gave lose copied zeros (was_finished finished away same) =
    was_finished (subst (All (λ status. status ≡ Finished)) (sym map) finished) (gave ∙ away) (after ∙ same ∙ sym map)
done_moved t u told longer Zeros Z n map after gave lose copied zeros (is_copied unfinished is unlost there now) =
    is_copied (subst (All (λ status. status ≢ Finished)) (sym map) unfinished) (gave ∙ is) (lose ∙ unlost) (copied there)
    (after ∙ now ∙ ap (changed Finished) (sym map))
done_moved t u told longer Zeros Z n map after gave lose copied zeros (was_lost unfinished is gone now) =
    was_lost (subst (All (λ status. status ≢ Finished)) (sym map) unfinished) (gave ∙ is) (lose ∙ gone)
    (after ∙ now ∙ ap (changed Bad) (sym map))
done_moved t u told longer Zeros Z n map after gave lose copied zeros (has_zeros unfinished away there now) =
    has_zeros (subst (All (λ status. status ≢ Finished)) (sym map) unfinished) (gave ∙ away) (zeros there)
    (after ∙ now ∙ ap (changed Finished) (sym map))

-- a transfer in two parts
pub record Parts : Type 0 where
  pub units : Units
  pub between : Units
  pub after : Units
  pub map : List MapEntry
  pub map_between : List MapEntry
  pub map_after : List MapEntry
  pub reports : List CopyReport
  pub reports_between : List CopyReport
  pub reports_after : List CopyReport

abbrev pub first_of : Parts → CopyStates
first_of p = record {
  units = p.units;
  units_after = p.between;
  map = p.map;
  map_after = p.map_between;
  reports = p.reports;
  reports_after = p.reports_between;
}

abbrev pub second_of : Parts → CopyStates
second_of p = record {
  units = p.between;
  units_after = p.after;
  map = p.map_between;
  map_after = p.map_after;
  reports = p.reports_between;
  reports_after = p.reports_after;
}

abbrev pub whole_of : Parts → CopyStates
whole_of p = record {
  units = p.units;
  units_after = p.after;
  map = p.map;
  map_after = p.map_after;
  reports = p.reports;
  reports_after = p.reports_after;
}

pub copies_then : (start mid to : ℕ) (p : Parts) (One Two Zeros : ℕ → Type 0) → start ≤ mid → mid ≤ to
    → ChangesWithin start mid p.units p.between → ChangesWithin mid to p.between p.after
    → CopiesAllUnfinished start mid (first_of p) One → (two : CopiesUnfinished mid to (second_of p) Two)
    → ((n : ℕ) → One n → Zeros n) → ((n : ℕ) → Two n → Zeros n)
    → (made : CopiesUnfinished start to (whole_of p) Zeros) × (made.end ≡ two.end)
copies_then start mid to p One Two Zeros first second changes1 changes2 one two zeros1 zeros2 = (
  record {
    told = told;
    added = two.added ∙ ap (λ (l : List CopyReport). two.told ++ l) one.0.added ∙ sym (append_assoc two.told one.0.told p.reports);
    are_given = given_both start mid to two.told one.0.told first second one.0.are_given two.are_given;
    end = two.end;
    begins = omega (arith, first, two.begins);
    ends = omega (arith, first, second, two.ends);
    up_to = record {
      done = λ n low high. by n low high (cases_lt n mid);
      left = λ n out. record {
        same = (two.up_to.left n (out2 n out)).same ∙ (one.0.up_to.left n (out1 n out)).same;
        unfinished = λ is. open_at n out (or_cases (is_given two.told n) (is_given one.0.told n)
            (sym (is_given_both two.told one.0.told n) ∙ is));
      };
    };
  },
  refl,
)
  where
    told : List CopyReport
    told = two.told ++ one.0.told

    end1 : one.0.end ≡ mid
    end1 = one.1 ∙ omega (arith, first)

    out1 : (n : ℕ) → is_within start two.end n ≡ false → is_within start one.0.end n ≡ false
    out1 n out = elim (cases_Bool (is_within start one.0.end n)) [
      | inl is ↦ (let place = inside start one.0.end n is in
          absurd (cc (is_inside start two.end n place.0 (omega (arith, place.1, end1, two.begins)), out)))
      | inr away ↦ away
    ]

    out2 : (n : ℕ) → is_within start two.end n ≡ false → is_within mid two.end n ≡ false
    out2 n out = elim (cases_Bool (is_within mid two.end n)) [
      | inl is ↦ (let place = inside mid two.end n is in
          absurd (cc (is_inside start two.end n (omega (arith, first, place.0)) place.1, out)))
      | inr away ↦ away
    ]

    before_second : (n : ℕ) → n < mid → is_given two.told n ≡ false
    before_second n low =
        false_unless (is_given two.told n) (λ is. omega (arith, low, (given_within mid to two.told n two.are_given is).0))

    lost_second : (n : ℕ) → n < mid → is_told_lost two.told n ≡ false
    lost_second n low =
        false_unless (is_told_lost two.told n) (λ is. omega (arith, low, (lost_given mid to two.told n second two.are_given is).0))

    after_first : (n : ℕ) → mid ≤ n → is_given one.0.told n ≡ false
    after_first n high =
        false_unless (is_given one.0.told n) (λ is. omega (arith, high, (given_within start mid one.0.told n one.0.are_given is).1))

    lost_first : (n : ℕ) → mid ≤ n → is_told_lost one.0.told n ≡ false
    lost_first n high =
        false_unless (is_told_lost one.0.told n) (λ is. omega (arith, high, (lost_given start mid one.0.told n first one.0.are_given is).1))

    open_at : (n : ℕ) → is_within start two.end n ≡ false
        → (is_given two.told n ≡ true) ⊎ (is_given one.0.told n ≡ true)
        → All (λ status. status ≢ Finished) (statuses_at p.map n)
    open_at n out (inl newer) =
        subst (All (λ status. status ≢ Finished)) (one.0.up_to.left n (out1 n out)).same
        ((two.up_to.left n (out2 n out)).unfinished newer)
    open_at n out (inr older) = (one.0.up_to.left n (out1 n out)).unfinished older

    by : (n : ℕ) → start ≤ n → n < two.end → (n < mid) ⊎ (mid ≤ n) → IsDone (whole_of p) told Zeros n
    by n low high (inl before) =
        let left = two.up_to.left n (is_outside mid two.end n (inl before)) in
        done_moved (first_of p) (whole_of p) one.0.told told One Zeros n refl left.same
        (is_given_both two.told one.0.told n ∙ ap (λ (b : Bool). b || is_given one.0.told n) (before_second n before))
        (is_lost_both two.told one.0.told n ∙ ap (λ (b : Bool). b || is_told_lost one.0.told n) (lost_second n before))
        (λ there well_formed sound.
        let between : AllSound p.between = λ u. changes2.stays_sound.sound_before u (sound u) in
        let here = there well_formed between in (
          here.0,
          (changes2.if_sound (changes1.stays_sound.well_formed well_formed) sound).others_stay n
              (is_outside mid to n (inl before)) ∙ here.1,
        ))
        (zeros1 n) (one.0.up_to.done n low (omega (arith, before, end1)))
    by n low high (inr past) =
        let left = one.0.up_to.left n (is_outside start one.0.end n (inr (omega (arith, past, end1)))) in
        done_moved (second_of p) (whole_of p) two.told told Two Zeros n (sym left.same) refl
        (is_given_both two.told one.0.told n ∙ ap (λ (b : Bool). is_given two.told n || b) (after_first n past)
        ∙ or_false (is_given two.told n))
        (is_lost_both two.told one.0.told n ∙ ap (λ (b : Bool). is_told_lost two.told n || b) (lost_first n past)
        ∙ or_false (is_told_lost two.told n))
        (λ there well_formed sound.
        let between : AllSound p.between = λ u. changes2.stays_sound.sound_before u (sound u) in
        subst (λ (s : List (List ℕ)). IsBlockOf n s (target_of p.after))
        (changes1.if_sound well_formed between).source_stays
        (there (changes1.stays_sound.well_formed well_formed) sound))
        (zeros2 n) (two.up_to.done n past high)

-- ---- blocks that are not given

-- the same units, map and reports
abbrev pub still : Units → List MapEntry → List CopyReport → CopyStates
still units map reports = record {
  units = units;
  units_after = units;
  map = map;
  map_after = map;
  reports = reports;
  reports_after = reports;
}

pub copies_finished : (at start : ℕ) (units : Units) (map : List MapEntry) (reports : List CopyReport) (Zeros : ℕ → Type 0)
    → at ≤ start → IsFinishedBetween at start map → CopiesAllUnfinished at start (still units map reports) Zeros
copies_finished at start units map reports Zeros ordered finished = (
  record {
    told = [];
    added = refl;
    are_given = tt;
    end = start;
    begins = ordered;
    ends = omega arith;
    up_to = record {
      done = λ n low high. was_finished (finished n low high) refl refl;
      left = λ n out. record { same = refl; unfinished = λ is. absurd (cc) };
    };
  },
  omega (arith, ordered),
)

pub copies_skipped : (from start : ℕ) (units : Units) (map after : List MapEntry) (reports : List CopyReport)
    (Zeros : ℕ → Type 0) → from < start → IsUnfinishedBetween from start map → IsSet from start Finished map after
    → ((n : ℕ) → from ≤ n → n < start → Zeros n)
    → CopiesAllUnfinished from start (record {
      units = units;
      units_after = units;
      map = map;
      map_after = after;
      reports = reports;
      reports_after = skipped from start ∷ reports;
    }) Zeros
copies_skipped from start units map after reports Zeros some unfinished set zeros = (
  record {
    told = skipped from start ∷ [];
    added = refl;
    are_given = tt;
    end = start;
    begins = omega (arith, some);
    ends = omega arith;
    up_to = record {
      done = λ n low high. has_zeros (unfinished n low high) refl (zeros n low high)
          (set n ∙ rw (is_inside from start n low high) refl);
      left = λ n out. record { same = set n ∙ rw out refl; unfinished = λ is. absurd (cc) };
    };
  },
  omega (arith, some),
)

pub copies_wider : (start mid to : ℕ) (t : CopyStates) (Zeros : ℕ → Type 0) → start ≤ mid → mid ≤ to
    → CopiesUnfinished start mid t Zeros → CopiesUnfinished start to t Zeros
copies_wider start mid to t Zeros first second copies = record {
  told = copies.told;
  added = copies.added;
  are_given = given_wider start mid to copies.told second copies.are_given;
  end = copies.end;
  begins = copies.begins;
  ends = omega (arith, copies.ends, first, second);
  up_to = copies.up_to;
}

-- blocks that stay unfinished when those before them are skipped
pub unfinished_rest : (from start end : ℕ) (map after : List MapEntry) → from ≤ start → IsUnfinishedBetween from end map
    → IsSet from start Finished map after → IsUnfinishedBetween start end after
unfinished_rest from start end map after ordered unfinished set n low high =
    subst (All (λ status. status ≢ Finished)) (sym (set n ∙ rw (is_outside from start n (inr low)) refl))
    (unfinished n (omega (arith, ordered, low)) high)

-- ---- the steps of a copy of a range

abbrev pub made_of : Units → Units → RecordState → RecordState → CopyStates
made_of units after old new = record {
  units = units;
  units_after = after;
  map = old.map;
  map_after = new.map;
  reports = old.reports;
  reports_after = new.reports;
}

-- a range was given, and the record is what was reported before and after
record Noted (s e : ℕ) (old started now : RecordState) : Type 0 where
  pub map : started.map ≡ old.map
  pub told : started.reports ≡ given s e ∷ old.reports
  pub was : IsAsReported started
  pub is : IsAsReported now

status_before : (s e : ℕ) (old started now : RecordState) → Noted s e old started now → (n : ℕ)
    → statuses_at old.map n ≡ noted_at old.reports n
status_before s e old started now noted n =
    ap (λ (m : List MapEntry). statuses_at m n) (sym noted.map) ∙ noted.was.map n
    ∙ ap (λ (l : List CopyReport). noted_at l n) noted.told

pub copies_noted : (skips_lost : Bool) (s e : ℕ) (units after : Units) (old started now : RecordState) → s < e
    → started.map ≡ old.map → started.reports ≡ given s e ∷ old.reports → IsAsReported started → IsAsReported now
    → CopiesAsTold skips_lost s e (record { units = units; reports = started.reports })
    (record { units = after; reports = now.reports })
    → IsUnfinishedBetween s e old.map → CopiesUnfinished s e (made_of units after old now) (λ n. ⊥)
copies_noted skips_lost s e units after old started now some map told was is copies unfinished =
    let moved = subst (λ (l : List CopyReport). CopiesAsTold skips_lost s e (record { units = units; reports = l })
    (record { units = after; reports = now.reports })) told copies in
    (copies_given skips_lost s e (made_of units after old now) some moved
    (status_before s e old started now (record { map = map; told = told; was = was; is = is })) is.map unfinished).0

pub copies_noted_all : (skips_lost : Bool) (s e : ℕ) (units after : Units) (old started now : RecordState) → s < e
    → started.map ≡ old.map → started.reports ≡ given s e ∷ old.reports → IsAsReported started → IsAsReported now
    → CopiesAsTold skips_lost s e (record { units = units; reports = started.reports })
    (record { units = after; reports = now.reports })
    → ReportsLastBlock s e started.reports now.reports
    → IsUnfinishedBetween s e old.map → CopiesAllUnfinished s e (made_of units after old now) (λ n. ⊥)
copies_noted_all skips_lost s e units after old started now some map told was is copies ended unfinished =
    let moved = subst (λ (l : List CopyReport). CopiesAsTold skips_lost s e (record { units = units; reports = l })
    (record { units = after; reports = now.reports })) told copies in
    let end = subst (λ (l : List CopyReport). ReportsLastBlock s e l now.reports) told ended in
    let made = copies_given skips_lost s e (made_of units after old now) some moved
    (status_before s e old started now (record { map = map; told = told; was = was; is = is })) is.map unfinished in
    (made.0, made.1 ∙ end moved.tells.told moved.tells.added some ∙ omega (arith, some))

pub skip_part : (from start : ℕ) (units : Units) (old new : RecordState) (Zeros : ℕ → Type 0) → from ≤ start
    → IsUnfinishedBetween from start old.map → (start ≤ from → new ≡ old) → IsSet from start Finished old.map new.map
    → (from < start → new.reports ≡ skipped from start ∷ old.reports)
    → ((n : ℕ) → from ≤ n → n < start → Zeros n) → CopiesAllUnfinished from start (made_of units units old new) Zeros
skip_part from start units old new Zeros ordered unfinished none set told zeros = elim (cases_lt from start) [
  | inl some ↦
      subst (λ (l : List CopyReport). CopiesAllUnfinished from start (record {
        units = units;
        units_after = units;
        map = old.map;
        map_after = new.map;
        reports = old.reports;
        reports_after = l;
      }) Zeros) (sym (told some))
      (copies_skipped from start units old.map new.map old.reports Zeros some unfinished set zeros)
  | inr over ↦
      subst (λ (r : RecordState). CopiesAllUnfinished from start (made_of units units old r) Zeros) (sym (none over))
      (copies_finished from start units old.map old.reports Zeros ordered
      (λ n low high. absurd (omega (arith, low, high, over))))
]

-- a skip that failed
pub skip_in_part : (from start to : ℕ) (units : Units) (old new : RecordState) (Zeros : ℕ → Type 0) → from ≤ start
    → start ≤ to → IsUnfinishedBetween from start old.map → (start ≤ from → new ≡ old)
    → (new ≡ old) ⊎ (IsSet from start Finished old.map new.map × (new.reports ≡ skipped from start ∷ old.reports))
    → ((n : ℕ) → from ≤ n → n < start → Zeros n) → CopiesUnfinished from to (made_of units units old new) Zeros
skip_in_part from start to units old new Zeros ordered more unfinished none (inl same) zeros =
    subst (λ (r : RecordState). CopiesUnfinished from to (made_of units units old r) Zeros) (sym same)
    (copies_wider from from to (still units old.map old.reports) Zeros (omega arith) (omega (arith, ordered, more))
    (copies_finished from from units old.map old.reports Zeros (omega arith)
    (λ n low high. absurd (omega (arith, low, high)))).0)
skip_in_part from start to units old new Zeros ordered more unfinished none (inr set) zeros =
    copies_wider from start to (made_of units units old new) Zeros ordered more
    (skip_part from start units old new Zeros ordered unfinished none set.0 (λ some. set.1) zeros).0

-- blocks are skipped, and then others are given
pub skipped_then : (from start to : ℕ) (units after : Units) (old mid new : RecordState) (Zeros : ℕ → Type 0)
    → from ≤ start → start ≤ to → ChangesWithin start to units after
    → CopiesAllUnfinished from start (made_of units units old mid) Zeros
    → (two : CopiesUnfinished start to (made_of units after mid new) (λ n. ⊥))
    → (made : CopiesUnfinished from to (made_of units after old new) Zeros) × (made.end ≡ two.end)
skipped_then from start to units after old mid new Zeros first second changes one two =
    copies_then from start to (record {
      units = units;
      between = units;
      after = after;
      map = old.map;
      map_between = mid.map;
      map_after = new.map;
      reports = old.reports;
      reports_between = mid.reports;
      reports_after = new.reports;
    }) Zeros (λ n. ⊥) Zeros first second (changes_only_none from start units units (changes_no_block_none units)) changes one
    two (λ n zero. zero) (λ n none. absurd none)

-- blocks are passed that are finished, and then a step is made
pub step_then : (start at from to : ℕ) (u0 u1 u2 : Units) (r0 r1 r2 : RecordState) (One Zeros : ℕ → Type 0)
    → start ≤ at → at ≤ from → from ≤ to → ChangesWithin start at u0 u1 → ChangesWithin from to u1 u2
    → CopiesAllUnfinished start at (made_of u0 u1 r0 r1) One → IsFinishedBetween at from r1.map
    → (two : CopiesUnfinished from to (made_of u1 u2 r1 r2) Zeros) → ((n : ℕ) → One n → Zeros n)
    → (made : CopiesUnfinished start to (made_of u0 u2 r0 r2) Zeros) × (made.end ≡ two.end)
step_then start at from to u0 u1 u2 r0 r1 r2 One Zeros first second third changes1 changes2 one finished two zeros =
    let passed = copies_finished at from u1 r1.map r1.reports Zeros second finished in
    let front = copies_then start at from (record {
      units = u0;
      between = u1;
      after = u1;
      map = r0.map;
      map_between = r1.map;
      map_after = r1.map;
      reports = r0.reports;
      reports_between = r1.reports;
      reports_after = r1.reports;
    }) One Zeros Zeros first second changes1 (changes_only_none at from u1 u1 (changes_no_block_none u1)) one passed.0 zeros
    (λ n zero. zero) in
    copies_then start from to (record {
      units = u0;
      between = u1;
      after = u2;
      map = r0.map;
      map_between = r1.map;
      map_after = r2.map;
      reports = r0.reports;
      reports_between = r1.reports;
      reports_after = r2.reports;
    }) Zeros Zeros Zeros (omega (arith, first, second)) third
    (changes_only_wider start at from u0 u1 second changes1) changes2
    (front.0, front.1 ∙ passed.1 ∙ omega (arith, first, second)) two (λ n zero. zero) (λ n zero. zero)

-- the last blocks are finished
pub step_last : (start at to : ℕ) (u0 u1 : Units) (r0 r1 : RecordState) (Zeros : ℕ → Type 0) → start ≤ at → at ≤ to
    → ChangesWithin start at u0 u1 → CopiesAllUnfinished start at (made_of u0 u1 r0 r1) Zeros
    → IsFinishedBetween at to r1.map → CopiesAllUnfinished start to (made_of u0 u1 r0 r1) Zeros
step_last start at to u0 u1 r0 r1 Zeros first second changes one finished =
    let passed = copies_finished at to u1 r1.map r1.reports Zeros second finished in
    let all = copies_then start at to (record {
      units = u0;
      between = u1;
      after = u1;
      map = r0.map;
      map_between = r1.map;
      map_after = r1.map;
      reports = r0.reports;
      reports_between = r1.reports;
      reports_after = r1.reports;
    }) Zeros Zeros Zeros first second changes (changes_only_none at to u1 u1 (changes_no_block_none u1)) one passed.0
    (λ n zero. zero) (λ n zero. zero) in
    (all.0, all.1 ∙ passed.1 ∙ omega (arith, first, second))

-- nothing is copied of no blocks
pub copies_nothing : (start to : ℕ) (units : Units) (r : RecordState) (Zeros : ℕ → Type 0) → to ≤ start
    → CopiesAllUnfinished start to (made_of units units r r) Zeros
copies_nothing start to units r Zeros none = (
  record {
    told = [];
    added = refl;
    are_given = tt;
    end = start;
    begins = omega arith;
    ends = omega arith;
    up_to = record {
      done = λ n low high. absurd (omega (arith, low, high));
      left = λ n out. record { same = refl; unfinished = λ is. absurd (cc) };
    };
  },
  omega (arith, none),
)

pub changes_only_of : (from s e to : ℕ) (units after : Units) → from ≤ s → e ≤ to → ChangesWithin s e units after
    → ChangesWithin from to units after
changes_only_of from s e to units after first last changes = record {
  stays_sound = changes.stays_sound;
  if_sound = λ well_formed sound. let a = changes.if_sound well_formed sound in record {
    source_stays = a.source_stays;
    others_stay = λ n out. a.others_stay n (within_wider s e from to n first last out);
    sizes_stay = a.sizes_stay;
  };
}

-- the last block by another name
pub copies_all_to : (from start end : ℕ) (t : CopyStates) (Zeros : ℕ → Type 0) → start ≡ end
    → CopiesAllUnfinished from start t Zeros → CopiesAllUnfinished from end t Zeros
copies_all_to from start end t Zeros same copies =
    subst (λ (n : ℕ). CopiesAllUnfinished from n t Zeros) same copies

-- ---- what the map then says

bad_is_other : Bad ≢ Finished
bad_is_other is = absurd (cc)

finished_by : (t : CopyStates) (told : List CopyReport) (Zeros : ℕ → Type 0) (n : ℕ) → IsDone t told Zeros n
    → IsFinishedAt n t.map_after → IsFinishedAt n t.map ⊎ (IsCopiedIfSound t n ⊎ Zeros n)
finished_by t told Zeros n (was_finished finished away same) is =
    inl (subst (λ (l : List BlockStatus). Contains l Finished) same is)
finished_by t told Zeros n (is_copied unfinished gave unlost there now) is = inr (inl there)
finished_by t told Zeros n (was_lost unfinished gave gone now) is =
    absurd (All-contains (λ (s : BlockStatus). s ≢ Finished) (statuses_at t.map_after n) Finished
    (subst (All (λ (s : BlockStatus). s ≢ Finished)) (sym now)
    (All-map (λ (s : BlockStatus). s ≢ Finished) (λ (s : BlockStatus). Bad) (statuses_at t.map n)
    (λ k d below. bad_is_other))) is refl)
finished_by t told Zeros n (has_zeros unfinished away there now) is = inr (inr there)

pub finished_only_of : (start to : ℕ) (t : CopyStates) (Zeros : ℕ → Type 0) → CopiesUnfinished start to t Zeros
    → FinishedOnlyIf t Zeros
finished_only_of start to t Zeros copies n is = elim (cases_Bool (is_within start copies.end n)) [
  | inl within ↦ (let place = inside start copies.end n within in
      finished_by t copies.told Zeros n (copies.up_to.done n place.0 place.1) is)
  | inr out ↦ inl (subst (λ (l : List BlockStatus). Contains l Finished) (copies.up_to.left n out).same is)
]

tried_by : (t : CopyStates) (told : List CopyReport) (Zeros : ℕ → Type 0) (n : ℕ) → IsDone t told Zeros n
    → All (λ (s : BlockStatus). s ≢ NonTried) (statuses_at t.map_after n)
tried_by t told Zeros n (was_finished finished away same) =
    subst (All (λ (s : BlockStatus). s ≢ NonTried)) (sym same) (λ k d below is. other (finished k d below) is)
  where
    other : {s : BlockStatus} → s ≡ Finished → s ≡ NonTried → ⊥
    other finished is = absurd (cc (finished, is))
tried_by t told Zeros n (is_copied unfinished gave unlost there now) =
    subst (All (λ (s : BlockStatus). s ≢ NonTried)) (sym now)
    (All-map (λ (s : BlockStatus). s ≢ NonTried) (λ (s : BlockStatus). Finished) (statuses_at t.map n)
    (λ k d below is. absurd (cc is)))
tried_by t told Zeros n (was_lost unfinished gave gone now) =
    subst (All (λ (s : BlockStatus). s ≢ NonTried)) (sym now)
    (All-map (λ (s : BlockStatus). s ≢ NonTried) (λ (s : BlockStatus). Bad) (statuses_at t.map n)
    (λ k d below is. absurd (cc is)))
tried_by t told Zeros n (has_zeros unfinished away there now) =
    subst (All (λ (s : BlockStatus). s ≢ NonTried)) (sym now)
    (All-map (λ (s : BlockStatus). s ≢ NonTried) (λ (s : BlockStatus). Finished) (statuses_at t.map n)
    (λ k d below is. absurd (cc is)))

pub none_untried_of : (start to : ℕ) (t : CopyStates) (Zeros : ℕ → Type 0) → CopiesAllUnfinished start to t Zeros
    → NoneUntried start to t.map_after
none_untried_of start to t Zeros copies n low high =
    tried_by t copies.0.told Zeros n (copies.0.up_to.done n low (omega (arith, high, copies.1)))
