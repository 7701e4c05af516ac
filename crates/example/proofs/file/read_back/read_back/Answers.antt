use Rattle.std.proofs.Common.{◌≡◌, ◌∙◌, ◌∷◌, [], List, ℕ, sym, ap}
use Rattle.uda_disk.specs.Answer.{Data, Moved}
use Rattle.uda_disk.specs.InOrderRun.{InOrderWithFailures}
use Rattle.uda_disk.specs.Laws.{write_and_read}
use Rattle.uda_disk.specs.Request.{Write}
use Rattle.uda_disk.specs.Status.{SUCCESS}
use Rattle.uda_disk.specs.Units.{disks_of}
use Rattle.uda_disk.specs.Values.{answer_values}
use Rattle.uda_driver.specs.Run.{units_of}
use Rattle.example.proofs.file.read_back.read_back.Goals as goal

pub returns-in-Some : goal.returns-in-Some
returns-in-Some c = record {
  same = λ sound.
      let lbn = c.args.lbn in
      let payload : List ℕ = c.args.payload.items in
      let bytes : List ℕ = c.in-Some.bytes.now in
      let told = c.in-Some.ensures.succeeded in
      let answers : answer_values c.in_ok-answers.answers.items ≡ Moved SUCCESS told.0 ∷ Data SUCCESS bytes ∷ [] =
      rw c.deref.ensures.value at told.1 in
      let run : InOrderWithFailures (disks_of (units_of c.args.driver.now)) (write_and_read 1 lbn payload)
      (Moved SUCCESS told.0 ∷ Data SUCCESS bytes ∷ []) (disks_of (units_of c.run.new.self)) =
      rw (answers, c.len.ensures ∙ c.args.payload.ok.0) at
      (c.in_ok-answers.ensures.in_order_run_with_failures_if_sound sound).run in
      let is : bytes ≡ payload = c.written_is_read.ensures.law 1 lbn told.0 payload bytes
      (units_of c.args.driver.now) (disks_of (units_of c.run.new.self)) c.requires.well_formed
      (c.in_ok-answers.ensures.sound_before 1 (sound 1)) c.requires.whole run in
      c.is_payload.ensures.same 1 lbn (ap (λ (b : List ℕ). record { unit = 1; act = Write lbn b }) (sym is));
}
