use Rattle.std.proofs.Common.{◌≡◌, ℕ, [], ◌∷◌, ◌++◌, option_to_list, ap, ◌∙◌, Option, Some}
use Rattle.std.proofs.lemmas.List.{map_push}
use Rattle.uda_disk.specs.Answer.{Data}
use Rattle.uda_disk.specs.Status.{SUCCESS}
use Rattle.uda_disk.specs.Values.{answer_value, answer_values}
use Rattle.uda_disk.specs.declared.answer.Answer.{Answer}
use Rattle.example.proofs.driver.FirstBlock.{read_whole}
use Rattle.example.proofs.driver.promised.first_block.Goals as goal

pub returns-in-Some-Data-eq0-default : goal.returns-in-Some-Data-eq0-default
returns-in-Some-Data-eq0-default g c =
    let found = c.in-Some-Data-eq0-default in let block = found.bytes.items in
    let told = answer_values c.in_ok-answers.answers.items in let front = c.pop.new.self.items in
    let last : told ≡ answer_values front ++ Data SUCCESS block ∷ [] =
    ap answer_values (c.pop.ensures.items ∙ ap (λ (r : Option Answer). front ++ option_to_list r)
    (found.is ∙ ap Some found.field-0-is)) ∙ map_push answer_value front _
    ∙ ap (λ (status : ℕ). answer_values front ++ Data status block ∷ []) found.field-0-0-test in
    record {
      whole = read_whole _ _ told (answer_values front) block c.in_ok-answers.ensures.in_order_run_up_to_data
          c.in_ok-answers.ensures.answer_forms.counted last;
    }
