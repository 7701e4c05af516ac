-- The reports to the observer of a copy, and what else a record of a copy notes.
use Rattle.std.specs.Prelude.{◌≡◌, ℕ, List, [], cond, ◌==◌, refl}
use Rattle.std.specs.Coded.{Coded, code_by, coded×, coded_ℕ, coded_list}
use Rattle.uda50_copy.specs.declared.map.entry.BlockStatus.{BlockStatus}
use Rattle.uda50_copy.specs.declared.map.entry.BlockStatus.TheVariants.{NonTried, Bad, Finished}
use Rattle.uda50_copy.specs.declared.map.entry.MapEntry.{MapEntry}

-- A copy reports that all blocks before this one are copied, lost or compared, or that this block of the source can't
-- be read. A record of a copy also notes the map that it begins with, the ranges that it gives to a copy, and those that
-- it skips since they are zeros in both images.
pub data CopyReport : Type 0 where
  reached : ℕ → CopyReport
  lost : ℕ → CopyReport
  begun : List MapEntry → CopyReport
  given : ℕ → ℕ → CopyReport
  skipped : ℕ → ℕ → CopyReport

-- ---- how the logic stores reports

abbrev status_number : BlockStatus → ℕ
status_number NonTried = 0
status_number Bad = 1
status_number Finished = 2

abbrev status_of_number : ℕ → BlockStatus
status_of_number k = cond (k == 0) NonTried (cond (k == 1) Bad Finished)

pub of_status_number : (status : BlockStatus) → status_of_number (status_number status) ≡ status
of_status_number NonTried = refl
of_status_number Bad = refl
of_status_number Finished = refl

abbrev pub coded_status : Coded BlockStatus
coded_status = code_by ℕ coded_ℕ status_number status_of_number of_status_number

abbrev pub entry_code : Coded MapEntry
entry_code = code_by (ℕ × (ℕ × BlockStatus)) (coded× coded_ℕ (coded× coded_ℕ coded_status))
    (λ e. (e.start, (e.end, e.status))) (λ p. record { start = p.0; end = p.1.0; status = p.1.1 }) (λ _. refl)

-- a number for the kind, the blocks, and the entries of a map
abbrev ReportParts : Type 0
ReportParts = ℕ × (ℕ × (ℕ × List MapEntry))

abbrev parts_of_report : CopyReport → ReportParts
parts_of_report (reached end) = (0, (end, (0, [])))
parts_of_report (lost block) = (1, (block, (0, [])))
parts_of_report (begun entries) = (2, (0, (0, entries)))
parts_of_report (given start end) = (3, (start, (end, [])))
parts_of_report (skipped start end) = (4, (start, (end, [])))

abbrev report_of_parts : ReportParts → CopyReport
report_of_parts (k, (start, (end, entries))) = cond (k == 0) (reached start) (cond (k == 1) (lost start)
    (cond (k == 2) (begun entries) (cond (k == 3) (given start end) (skipped start end))))

pub same_report : (r : CopyReport) → report_of_parts (parts_of_report r) ≡ r
same_report (reached end) = refl
same_report (lost block) = refl
same_report (begun entries) = refl
same_report (given start end) = refl
same_report (skipped start end) = refl

abbrev pub report_code : Coded CopyReport
report_code = code_by ReportParts (coded× coded_ℕ (coded× coded_ℕ (coded× coded_ℕ (coded_list entry_code))))
    parts_of_report report_of_parts same_report

abbrev pub reports_code : Coded (List CopyReport)
reports_code = coded_list report_code
