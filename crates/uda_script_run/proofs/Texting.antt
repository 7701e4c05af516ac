-- Texts of answers, answer by answer.
use Rattle.std.proofs.Common.{◌≡◌, ℕ, suc, ◌+◌, ◌<◌, List, ◌∷◌, ◌++◌, length, drop, get_or, sym, ap, ◌∙◌, subst, add-one, arith, drop-cons}
use Rattle.std.specs.Prelude.{Option}
use Rattle.std.specs.Io.KnownBytes.{Appends}
use Rattle.uda_disk.specs.declared.answer.Answer.{Answer}
use Rattle.uda_disk.specs.Values.{answer_value, answer_values}
use Rattle.uda_script_run.specs.declared.style.ReportPart.{ReportPart}
use Rattle.uda_script_run.specs.Texts.{answer_bytes, out_text, styled_line, report_lines, part_text, AppendsBeginning}
use Rattle.uda_script_run.proofs.Puts.{LeavesRest, leaves_later, leaves_broken}

-- the answers from the k-th: it and those after it
answers_from : (answers : List Answer) (k : ℕ) (answer : Answer) → k < length answers
    → answer ≡ get_or answers k answer → drop k answers ≡ answer ∷ drop (suc k) answers
answers_from answers k answer h is = drop-cons answers k answer h
    ∙ ap (λ (a : Answer). a ∷ drop (suc k) answers) (sym is)

out_from : (answers : List Answer) (k : ℕ) (answer : Answer) → k < length answers
    → answer ≡ get_or answers k answer
    → out_text (answer_values (drop k answers)) ≡ answer_bytes (answer_value answer) ++ out_text
    (answer_values (drop (suc k) answers))
out_from answers k answer h is = ap (λ (xs : List Answer). out_text (answer_values xs))
    (answers_from answers k answer h is)

lines_from : (part : ReportPart) (answers : List Answer) (k : ℕ) (answer : Answer)
    → k < length answers → answer ≡ get_or answers k answer
    → report_lines part.style (part.first + k) (answer_values (drop k answers))
    ≡ styled_line part.style (part.first + k) (answer_value answer)
    ++ report_lines part.style (part.first + (k + 1)) (answer_values (drop (k + 1) answers))
lines_from part answers k answer h is =
    let one_more : suc k ≡ k + 1 = omega arith in
    ap (λ (xs : List Answer). report_lines part.style (part.first + k) (answer_values xs))
    (answers_from answers k answer h is)
    ∙ ap (λ (n : ℕ). styled_line part.style (part.first + k) (answer_value answer)
    ++ report_lines part.style n (answer_values (drop (suc k) answers))) (omega arith)
    ∙ ap (λ (n : ℕ). styled_line part.style (part.first + k) (answer_value answer)
    ++ report_lines part.style (part.first + (k + 1)) (answer_values (drop n answers))) one_more

-- ---- the writers after a part

pub out_goes_on : (a b c : Option (List ℕ)) (answers : List Answer) (k : ℕ) (answer : Answer)
    → k < length answers → answer ≡ get_or answers k answer
    → LeavesRest a b (out_text (answer_values answers)) (out_text (answer_values (drop k answers)))
    → Appends b c (answer_bytes (answer_value answer))
    → LeavesRest a c (out_text (answer_values answers)) (out_text (answer_values (drop (k + 1) answers)))
out_goes_on a b c answers k answer h is so_far more =
    rw add-one (leaves_later a b c _ _ _ (subst (λ (t : List ℕ). LeavesRest a b
    (out_text (answer_values answers)) t) (out_from answers k answer h is) so_far) more)

pub out_breaks : (a b c : Option (List ℕ)) (answers : List Answer) (k : ℕ) (answer : Answer)
    → k < length answers → answer ≡ get_or answers k answer
    → LeavesRest a b (out_text (answer_values answers)) (out_text (answer_values (drop k answers)))
    → AppendsBeginning b c (answer_bytes (answer_value answer))
    → AppendsBeginning a c (out_text (answer_values answers))
out_breaks a b c answers k answer h is so_far broken =
    leaves_broken a b c _ _ _ (subst (λ (t : List ℕ). LeavesRest a b (out_text (answer_values answers)) t)
    (out_from answers k answer h is) so_far) broken

-- what the report still lacks from the k-th answer on
abbrev pub LacksFrom : ReportPart → List Answer → ℕ → Option (List ℕ) → Option (List ℕ) → Type 0
LacksFrom part answers k old new =
    LeavesRest old new (part_text part (answer_values answers))
    (report_lines part.style (part.first + k) (answer_values (drop k answers)))

module _ (a b c : Option (List ℕ)) (part : ReportPart) (answers : List Answer) (k : ℕ) (answer : Answer)
    (h : k < length answers) (is : answer ≡ get_or answers k answer) where
  rest_from : LacksFrom part answers k a b → LeavesRest a b (part_text part (answer_values answers))
      (styled_line part.style (part.first + k) (answer_value answer)
      ++ report_lines part.style (part.first + (k + 1)) (answer_values (drop (k + 1) answers)))
  rest_from so_far =
      subst (λ (t : List ℕ). LeavesRest a b (part_text part (answer_values answers)) t)
      (lines_from part answers k answer h is) so_far

  pub report_goes_on : LacksFrom part answers k a b
      → Appends b c (styled_line part.style (part.first + k) (answer_value answer))
      → LacksFrom part answers (k + 1) a c
  report_goes_on so_far more = leaves_later a b c _ _ _ (rest_from so_far) more

  pub report_breaks : LacksFrom part answers k a b
      → AppendsBeginning b c (styled_line part.style (part.first + k) (answer_value answer))
      → AppendsBeginning a c (part_text part (answer_values answers))
  report_breaks so_far broken = leaves_broken a b c _ _ _ (rest_from so_far) broken
