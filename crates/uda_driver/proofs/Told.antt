-- Answers without a drive error.
use Rattle.std.proofs.Common.{◌≡◌, ℕ, Bool, false, List, [], ◌∷◌, refl, ap, arith}
use Rattle.std.specs.Prelude.{◌||◌}
use Rattle.std.proofs.lemmas.Bool.{or_parts}
use Rattle.uda_disk.specs.Request.{Request}
use Rattle.uda_disk.specs.Answer.{Answer}
use Rattle.uda_disk.specs.InOrderRun.{tells_error, drive_errors}
use Rattle.std.specs.List.{list_any}
use Rattle.uda_disk.specs.Values.{answer_value, answer_values}
use Rattle.uda_disk.specs.declared.answer.Answer.{Answer as CodeAnswer}
use Rattle.uda_posting.proofs.Owing.{none_told}
use Rattle.uda_driver.specs.Run.{is_drive_error, any_drive_error}

pub untold_errors : (u : ℕ) (requests : List Request) (told : List Answer) → any_drive_error told ≡ false
    → drive_errors u requests told ≡ 0
untold_errors u [] told h = refl
untold_errors u (r ∷ rest) [] h = refl
untold_errors u (r ∷ rest) (answer ∷ later) h =
    let parts = or_parts (is_drive_error answer) (any_drive_error later) h in
    let first : tells_error u r answer ≡ 0 = none_told u r.unit (is_drive_error answer) (λ _. parts.0) in
    omega (arith, first, untold_errors u rest later parts.1)

-- the answers of the code have it exactly if the contracts' view of them has
pub told_values : (answers : List CodeAnswer)
    → any_drive_error (answer_values answers) ≡ list_any
    (λ answer. is_drive_error (answer_value answer)) answers
told_values [] = refl
told_values (answer ∷ rest) = ap (λ (b : Bool). is_drive_error (answer_value answer) || b) (told_values rest)
