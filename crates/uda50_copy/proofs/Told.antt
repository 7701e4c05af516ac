-- Laws of the reports of a copy.
use Rattle.std.proofs.Common.{◌≡◌, ◌⊎◌, Bool, true, false, inl, inr, ℕ, ◌+◌, ◌<◌, ◌≤◌, max, List, [], ◌∷◌, ◌++◌, refl, sym, ap, ◌∙◌, arith, append_assoc}
use Rattle.std.specs.Prelude.{◌||◌, nat_eq}
use Rattle.std.proofs.lemmas.Bool.{cases_lt, cases_Bool, or_from}
use Rattle.std.proofs.lemmas.Bool.Decides.{eqb_tells}
use Rattle.uda50_copy.specs.Report.{CopyReport, reached, lost, begun, given, skipped}
use Rattle.uda50_copy.specs.Reports.{reached_end, reports_end, is_told_lost, AreReports, AddsReports, ReportsLost}

-- ---- the ends of reports

pub told_end_within : (from to : ℕ) (told : List CopyReport) → from ≤ to → AreReports from to told → reports_end from told ≤ to
told_end_within from to [] some h = some
told_end_within from to (reached stop ∷ told) some h = h.1.1.0
told_end_within from to (lost block ∷ told) some h = omega (arith, h.1.0)
told_end_within from to (begun entries ∷ told) some h = absurd h
told_end_within from to (given start end ∷ told) some h = absurd h
told_end_within from to (skipped start end ∷ told) some h = absurd h

pub told_end_from : (from to : ℕ) (told : List CopyReport) → AreReports from to told → from ≤ reports_end from told
told_end_from from to [] h = omega arith
told_end_from from to (reached stop ∷ told) h = omega (arith, told_end_from from to told h.1.1.1, h.0)
told_end_from from to (lost block ∷ told) h = omega (arith, told_end_from from to told h.1.1, h.0)
told_end_from from to (begun entries ∷ told) h = absurd h
told_end_from from to (given start end ∷ told) h = absurd h
told_end_from from to (skipped start end ∷ told) h = absurd h

pub reached_end_within : (from to : ℕ) (told : List CopyReport) → AreReports from to told
    → reached_end from told ≤ reports_end from told
reached_end_within from to [] h = omega arith
reached_end_within from to (reached stop ∷ told) h = omega arith
reached_end_within from to (lost block ∷ told) h = omega (arith, reached_end_within from to told h.1.1, h.0)
reached_end_within from to (begun entries ∷ told) h = absurd h
reached_end_within from to (given start end ∷ told) h = absurd h
reached_end_within from to (skipped start end ∷ told) h = absurd h

pub reached_end_from : (from to : ℕ) (told : List CopyReport) → AreReports from to told → from ≤ reached_end from told
reached_end_from from to [] h = omega arith
reached_end_from from to (reached stop ∷ told) h = omega (arith, reached_end_from from to told h.1.1.1, h.1.0)
reached_end_from from to (lost block ∷ told) h = reached_end_from from to told h.1.1
reached_end_from from to (begun entries ∷ told) h = absurd h
reached_end_from from to (given start end ∷ told) h = absurd h
reached_end_from from to (skipped start end ∷ told) h = absurd h

reached_end_above : (a b : ℕ) (told : List CopyReport) → a ≤ b → reached_end a told ≤ reached_end b told
reached_end_above a b [] h = h
reached_end_above a b (reached stop ∷ told) h = omega arith
reached_end_above a b (lost block ∷ told) h = reached_end_above a b told h
reached_end_above a b (begun entries ∷ told) h = reached_end_above a b told h
reached_end_above a b (given start end ∷ told) h = reached_end_above a b told h
reached_end_above a b (skipped start end ∷ told) h = reached_end_above a b told h

-- ---- reports, and then more

pub told_end_both : (from mid : ℕ) (newer older : List CopyReport) → reports_end from older ≤ mid
    → reports_end from (newer ++ older) ≤ reports_end mid newer
told_end_both from mid [] older h = h
told_end_both from mid (reached stop ∷ newer) older h = omega arith
told_end_both from mid (lost block ∷ newer) older h = omega arith
told_end_both from mid (begun entries ∷ newer) older h = told_end_both from mid newer older h
told_end_both from mid (given start end ∷ newer) older h = told_end_both from mid newer older h
told_end_both from mid (skipped start end ∷ newer) older h = told_end_both from mid newer older h

pub reached_end_both : (from : ℕ) (newer older : List CopyReport)
    → reached_end from (newer ++ older) ≡ reached_end (reached_end from older) newer
reached_end_both from [] older = refl
reached_end_both from (reached stop ∷ newer) older = refl
reached_end_both from (lost block ∷ newer) older = reached_end_both from newer older
reached_end_both from (begun entries ∷ newer) older = reached_end_both from newer older
reached_end_both from (given start end ∷ newer) older = reached_end_both from newer older
reached_end_both from (skipped start end ∷ newer) older = reached_end_both from newer older

pub are_reports_wider : (from mid to : ℕ) (told : List CopyReport) → mid ≤ to → AreReports from mid told
    → AreReports from to told
are_reports_wider from mid to [] wider h = tt
are_reports_wider from mid to (reached stop ∷ told) wider h =
    (h.0, (h.1.0, (omega (arith, h.1.1.0), are_reports_wider from mid to told wider h.1.1.1)))
are_reports_wider from mid to (lost block ∷ told) wider h =
    (h.0, (omega (arith, h.1.0), are_reports_wider from mid to told wider h.1.1))
are_reports_wider from mid to (begun entries ∷ told) wider h = h
are_reports_wider from mid to (given start end ∷ told) wider h = h
are_reports_wider from mid to (skipped start end ∷ told) wider h = h

pub are_reports_both : (from mid to : ℕ) (newer older : List CopyReport) → from ≤ mid → mid ≤ to
    → AreReports from mid older → AreReports mid to newer → AreReports from to (newer ++ older)
are_reports_both from mid to [] older first second before h = are_reports_wider from mid to older second before
are_reports_both from mid to (reached stop ∷ newer) older first second before h =
    let end = told_end_within from mid older first before in (
      omega (arith, told_end_both from mid newer older end, h.0),
      (
        omega (
          arith,
          reached_end_both from newer older,
          reached_end_above (reached_end from older) mid newer (omega (arith, reached_end_within from mid older before, end)),
          h.1.0,
        ),
        (h.1.1.0, are_reports_both from mid to newer older first second before h.1.1.1),
      ),
    )
are_reports_both from mid to (lost block ∷ newer) older first second before h =
    let end = told_end_within from mid older first before in (
      omega (arith, told_end_both from mid newer older end, h.0),
      (h.1.0, are_reports_both from mid to newer older first second before h.1.1),
    )
are_reports_both from mid to (begun entries ∷ newer) older first second before h = absurd h
are_reports_both from mid to (given start end ∷ newer) older first second before h = absurd h
are_reports_both from mid to (skipped start end ∷ newer) older first second before h = absurd h

-- ---- lost blocks

or_assoc : (x y z : Bool) → (x || (y || z)) ≡ ((x || y) || z)
or_assoc true y z = refl
or_assoc false y z = refl

pub is_lost_both : (newer older : List CopyReport) (n : ℕ) → is_told_lost (newer ++ older) n ≡ (is_told_lost newer n || is_told_lost older n)
is_lost_both [] older n = refl
is_lost_both (reached stop ∷ newer) older n = is_lost_both newer older n
is_lost_both (lost block ∷ newer) older n =
    ap (λ (b : Bool). nat_eq block n || b) (is_lost_both newer older n)
    ∙ or_assoc (nat_eq block n) (is_told_lost newer n) (is_told_lost older n)
is_lost_both (begun entries ∷ newer) older n = is_lost_both newer older n
is_lost_both (given start end ∷ newer) older n = is_lost_both newer older n
is_lost_both (skipped start end ∷ newer) older n = is_lost_both newer older n

pub or_cases : (x y : Bool) → (x || y) ≡ true → (x ≡ true) ⊎ (y ≡ true)
or_cases true y h = inl refl
or_cases false y h = inr h

-- a lost block is one of those that the reports are of
pub lost_within : (from to : ℕ) (told : List CopyReport) (n : ℕ) → AreReports from to told → is_told_lost told n ≡ true
    → (from ≤ n) × (n < to)
lost_within from to [] n h is = absurd (cc)
lost_within from to (reached stop ∷ told) n h is = lost_within from to told n h.1.1.1 is
lost_within from to (lost block ∷ told) n h is = elim (or_cases (nat_eq block n) (is_told_lost told n) is) [
  | inl here ↦ elim (eqb_tells block n) [
    | inl both ↦ (omega (arith, both.1, told_end_from from to told h.1.1, h.0), omega (arith, both.1, h.1.0))
    | inr both ↦ absurd (cc (both.0, here))
  ]
  | inr there ↦ lost_within from to told n h.1.1 there
]
lost_within from to (begun entries ∷ told) n h is = absurd h
lost_within from to (given start end ∷ told) n h is = absurd h
lost_within from to (skipped start end ∷ told) n h is = absurd h

pub not_lost : (from to : ℕ) (told : List CopyReport) (n : ℕ) → AreReports from to told → (n < from) ⊎ (to ≤ n)
    → is_told_lost told n ≡ false
not_lost from to told n h out = elim (cases_Bool (is_told_lost told n)) [
  | inl is ↦ (let within = lost_within from to told n h is in elim out [
    | inl low ↦ absurd (omega (arith, low, within.0))
    | inr high ↦ absurd (omega (arith, high, within.1))
  ])
  | inr unlost ↦ unlost
]

-- ---- what is told

abbrev pub tells_none : (skips_lost : Bool) (from to : ℕ) (reports : List CopyReport) → AddsReports skips_lost from to reports reports
tells_none skips_lost from to reports = record {
  told = [];
  added = refl;
  are_reports = tt;
  none_lost = λ none n. refl;
}

abbrev pub tells_both : (skips_lost : Bool) (from mid to : ℕ) (reports between after : List CopyReport) → from ≤ mid → mid ≤ to
    → AddsReports skips_lost from mid reports between → AddsReports skips_lost mid to between after
    → AddsReports skips_lost from to reports after
tells_both skips_lost from mid to reports between after first second one two = record {
  told = two.told ++ one.told;
  added = two.added ∙ ap (λ (l : List CopyReport). two.told ++ l) one.added ∙ sym (append_assoc two.told one.told reports);
  are_reports = are_reports_both from mid to two.told one.told first second one.are_reports two.are_reports;
  none_lost = λ none n. is_lost_both two.told one.told n
      ∙ or_from (is_told_lost two.told n) (is_told_lost one.told n) (two.none_lost none n) (one.none_lost none n);
}

abbrev pub tells_lost_none : (skips_lost : Bool) (from to : ℕ) (reports : List CopyReport)
    → ReportsLost skips_lost from to reports reports
tells_lost_none skips_lost from to reports = (tells_none skips_lost from to reports, λ start. refl)

pub not_both : (b : Bool) → b ≡ true → b ≡ false → ⊥
not_both b is none = absurd (cc (is, none))

-- a lost block, which is skipped
abbrev pub tells_lost_one : (skips_lost : Bool) (block : ℕ) (reports after : List CopyReport) → skips_lost ≡ true
    → after ≡ lost block ∷ reports → ReportsLost skips_lost block (block + 1) reports after
tells_lost_one skips_lost block reports after skips added = (
  record {
    told = lost block ∷ [];
    added = added;
    are_reports = (omega arith, (omega arith, tt));
    none_lost = λ none n. absurd (not_both skips_lost skips none);
  },
  λ start. refl,
)

abbrev pub tells_lost_both : (skips_lost : Bool) (from mid to : ℕ) (reports between after : List CopyReport) → from ≤ mid
    → mid ≤ to → ReportsLost skips_lost from mid reports between → ReportsLost skips_lost mid to between after
    → ReportsLost skips_lost from to reports after
tells_lost_both skips_lost from mid to reports between after first second one two = (
  tells_both skips_lost from mid to reports between after first second one.0 two.0,
  λ start. reached_end_both start two.0.told one.0.told ∙ two.1 (reached_end start one.0.told) ∙ one.1 start,
)

-- those of fewer blocks
abbrev pub tells_lost_wider : (skips_lost : Bool) (from mid to : ℕ) (reports after : List CopyReport) → mid ≤ to
    → ReportsLost skips_lost from mid reports after → ReportsLost skips_lost from to reports after
tells_lost_wider skips_lost from mid to reports after wider one = (
  record {
    told = one.0.told;
    added = one.0.added;
    are_reports = are_reports_wider from mid to one.0.told wider one.0.are_reports;
    none_lost = one.0.none_lost;
  },
  one.1,
)

-- no report is of no blocks
pub none_told : (from done to : ℕ) (told : List CopyReport) → done ≤ from → AreReports from done told → AreReports from to told
none_told from done to [] none h = tt
none_told from done to (reached stop ∷ told) none h = absurd (omega (
  arith,
  reached_end_from from done told h.1.1.1,
  h.1.0,
  h.1.1.0,
  none,
))
none_told from done to (lost block ∷ told) none h =
    absurd (omega (arith, told_end_from from done told h.1.1, h.0, h.1.0, none))
none_told from done to (begun entries ∷ told) none h = absurd h
none_told from done to (given start end ∷ told) none h = absurd h
none_told from done to (skipped start end ∷ told) none h = absurd h

abbrev pub tells_end : (skips_lost : Bool) (from to done : ℕ) (reports after : List CopyReport) → to ≤ done → from ≤ done
    → done ≤ max from to → AddsReports skips_lost from done reports after → AddsReports skips_lost from to reports after
tells_end skips_lost from to done reports after past first within tells = record {
  told = tells.told;
  added = tells.added;
  are_reports = elim (cases_lt from to) [
    | inl some ↦ are_reports_wider from done to tells.told (omega (arith, within, some)) tells.are_reports
    | inr none ↦ none_told from done to tells.told (omega (arith, within, none)) tells.are_reports
  ];
  none_lost = tells.none_lost;
}
