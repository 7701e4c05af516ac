use Rattle.std.proofs.Common.{refl, sym, ap, ◌∙◌}
use Rattle.uda_disk.specs.RequestEffect.{Done, answer_on, disk_after}
use Rattle.uda_disk.specs.Status.{SUCCESS}
use Rattle.uda_disk.specs.Request as ask
use Rattle.uda_disk.specs.Answer.{Moved}
use Rattle.uda_disk.specs.declared.request.Request.{Request}
use Rattle.uda_disk.specs.Values.{request_value, answer_value}
use Rattle.uda_plain.proofs.Steps.{disk_after-mode}
use Rattle.uda_plain.proofs.disk.PlainDisk.act.Goals as goal
use Rattle.uda_plain.proofs.disk.PlainDisk.act.Goals.{in-Online, in-Available, in-Status, in-Read+in_ok-read-in-Read, in-Access, in-Write, in-Erase}

pub returns-clause-answer : goal.returns-clause-answer
returns-clause-answer c =
    let asked = λ (r : Request). answer_on Done (request_value r).act c.args.self.now in
    elim c.match-request.branch [
      | in-Online w ↦ ap answer_value w.result-is ∙ w.online.ensures.answer ∙ ap asked (sym w.in-Online.is)
      | in-Available w ↦ ap answer_value w.result-is ∙ w.available.ensures.answer
          ∙ ap asked (sym w.in-Available.is)
      | in-Status w ↦ ap answer_value w.result-is ∙ w.status.ensures.answer ∙ ap asked (sym w.in-Status.is)
      | in-Read+in_ok-read-in-Read w ↦ ap answer_value w.result-is ∙ w.in_ok-read-in-Read.ensures.answer
          ∙ ap asked (sym w.in-Read.is)
      | in-Access w ↦ ap answer_value w.result-is ∙ w.moved_answer.ensures.answer
          ∙ ap asked (sym w.in-Access.is)
      | in-Write w ↦ ap answer_value w.result-is ∙ w.moved_answer-in-Write.ensures.answer
          ∙ ap (λ n. Moved SUCCESS n) (w.len.ensures ∙ w.in-Write.payload.ok.0) ∙ ap asked (sym w.in-Write.is)
      | in-Erase w ↦ ap answer_value w.result-is ∙ w.moved_answer-in-Erase.ensures.answer
          ∙ ap asked (sym w.in-Erase.is)
    ]

pub returns-clause-disk : goal.returns-clause-disk
returns-clause-disk c =
    let left = λ (r : Request). disk_after Done (request_value r).act c.args.self.now in
    elim c.match-request.branch [
      | in-Online w ↦ w.self-is ∙ w.online.ensures.disk
          ∙ disk_after-mode (ask.Online w.in-Online.protect) c.args.self.now _ refl refl
          ∙ ap left (sym w.in-Online.is)
      | in-Available w ↦ w.self-is ∙ w.available.ensures.disk
          ∙ disk_after-mode ask.Available c.args.self.now _ refl refl ∙ ap left (sym w.in-Available.is)
      | in-Status w ↦ w.self-is ∙ disk_after-mode ask.Status c.args.self.now _ refl refl
          ∙ ap left (sym w.in-Status.is)
      | in-Read+in_ok-read-in-Read w ↦ w.self-is ∙ disk_after-mode
          (ask.Read w.in-Read.lbn w.in-Read.bytes) c.args.self.now _ refl refl ∙ ap left (sym w.in-Read.is)
      | in-Access w ↦ w.self-is ∙ disk_after-mode (ask.Access w.in-Access.lbn w.in-Access.bytes)
          c.args.self.now _ refl refl ∙ ap left (sym w.in-Access.is)
      | in-Write w ↦ w.self-is ∙ w.write.ensures.blocks
          ∙ ap (λ payload. disk_after Done (ask.Write w.in-Write.lbn payload) c.args.self.now)
          w.deref.ensures.value ∙ ap left (sym w.in-Write.is)
      | in-Erase w ↦ w.self-is ∙ w.erase.ensures.blocks ∙ ap left (sym w.in-Erase.is)
    ]
