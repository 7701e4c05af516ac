-- Whether the answers of a list succeeded.
use Rattle.std.proofs.Common.{◌≡◌, Bool, List, [], ◌∷◌, refl, sym, ap, ◌∙◌}
use Rattle.std.specs.Prelude.{◌&&◌, if◌then◌else◌}
use Rattle.std.specs.List.{list_all}
use Rattle.uda_disk.specs.Values.{answer_value, answer_values}
use Rattle.uda_disk.specs.declared.answer.Answer.{Answer}
use Rattle.uda_script_run.specs.declared.style.ScriptOutcome.TheVariants.{AllSucceeded, SomeFailed}
use Rattle.uda_script_run.specs.Texts.{succeeded, outcome_of}

all_values : (answers : List Answer) → list_all succeeded (answer_values answers) ≡ list_all
    (λ answer. succeeded (answer_value answer)) answers
all_values [] = refl
all_values (answer ∷ rest) = ap (λ (b : Bool). succeeded (answer_value answer) && b) (all_values rest)

pub outcome_by : (answers : List Answer) (all known : Bool)
    → all ≡ list_all (λ answer. succeeded (answer_value answer)) answers → all ≡ known
    → (if known then AllSucceeded else SomeFailed) ≡ outcome_of (answer_values answers)
outcome_by answers all known is same =
    ap (λ (b : Bool). if b then AllSucceeded else SomeFailed) (sym same ∙ is ∙ sym (all_values answers))
