use Rattle.std.proofs.Common.{◌≡◌, ℕ, Bool, true, false, List, [], ◌∷◌, ◌++◌, not, option_to_list, refl, sym, ap, ◌∙◌, subst, Option, Some}
use Rattle.std.proofs.lemmas.List.{map_push}
use Rattle.uda_disk.specs.Answer as tell
use Rattle.uda_disk.specs.Answer.{Data}
use Rattle.uda_disk.specs.Units.{AllFaithful}
use Rattle.uda_disk.specs.Values.{answer_value, answer_values}
use Rattle.uda_disk.specs.declared.answer.Answer.{Answer}
use Rattle.uda_exec.proofs.Units.{faithful_stays}
use Rattle.uda_driver.specs.Run.{units_of, any_drive_error, IsInOrderRun}
use Rattle.example.proofs.driver.Copies.{asked, bytes_read, is_copied}
use Rattle.example.proofs.driver.copy.copy.Goals as goal

none : (told : Bool) → not told ≡ true → told ≡ false
none true h = absurd (cc)
none false h = refl

pub returns : goal.returns
returns g c = record {
  copied = λ done.
      let units = units_of c.args.driver.now in
      let between = units_of c.run.new.self in let n : ℕ = c.args.blocks in
      let untold : any_drive_error (answer_values c.in_ok-read.read.items) ≡ false =
      ap (λ (xs : List Answer). any_drive_error (answer_values xs)) (sym c.deref.ensures.value)
      ∙ sym c.any_drive_error.ensures.found ∙ c.if-any_drive_error.false in
      let ran : IsInOrderRun units (asked n) (answer_values c.in_ok-read.read.items) between =
      subst (λ (k : ℕ). IsInOrderRun units (asked k) (answer_values c.in_ok-read.read.items) between)
      c.from.ensures (c.in_ok-read.ensures.in_order_run_if_no_error c.requires.faithful untold) in
      let front = c.pop.new.self.items in
      let told : answer_values c.in_ok-read.read.items
      ≡ answer_values front ++ Data c.in-Some-Data.field-0-0 c.in-Some-Data.bytes.items ∷ [] =
      ap answer_values (c.pop.ensures.items ∙ ap (λ (r : Option Answer). front ++ option_to_list r)
      (c.in-Some-Data.is ∙ ap Some c.in-Some-Data.field-0-is)) ∙ map_push answer_value front _ in
      let read = subst (λ (xs : List tell.Answer). IsInOrderRun units (asked n) xs between) told ran in
      let well_formed = c.run.ensures.well_formed.0 in
      let are = bytes_read units n c.requires.faithful well_formed c.requires.able between
      (answer_values front) _ _ read in
      let faithful : AllFaithful between = λ u. faithful_stays units between c.run.ensures.all_attributes u
      ∙ c.requires.faithful u in
      let untold_too : any_drive_error (answer_values c.in_ok-written.written.items) ≡ false =
      ap (λ (xs : List Answer). any_drive_error (answer_values xs)) (sym c.deref-2.ensures.value)
      ∙ sym c.any_drive_error-2.ensures.found ∙ none _ done in
      is_copied units n c.requires.faithful well_formed c.requires.able between
      (units_of c.run-2.new.self) _ _ _ read are
      (c.in_ok-written.ensures.in_order_run_if_no_error faithful untold_too);
}
