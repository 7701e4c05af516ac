use Rattle.std.proofs.Common.{◌+◌, ◌∷◌, drop, subst, sym, ap, ◌∙◌}
use Rattle.uda_disk.specs.Values.{request_value, request_values, answer_value, answer_values}
use Rattle.uda_disk.specs.declared.request.Request.{Request}
use Rattle.uda_plain.proofs.Steps.{SoFar, SoFar-next, drop-values, answer_values-next}
use Rattle.uda_plain.proofs.units.PlainUnits.run.Goals as goal

pub loop-request-preserved : goal.loop-request-preserved
loop-request-preserved c =
    let requests = request_values c.args.requests.now in
    let told = answer_values c.loop-request.answers.items in
    let rest = drop (c.loop-request.request-index + 1) requests in
    let here = drop-values c.args.requests.now c.loop-request.request-index c.request-item.result
    c.loop-request-test.true
    ∙ ap (λ (r : Request). request_value r ∷ rest) (sym c.request-item.is) in
    let so_far = subst (SoFar c.args.self.now requests told c.loop-request.self) here
    c.loop-request.invariant in
    let more = SoFar-next c.args.self.now requests told c.loop-request.self
    (request_value c.request-item.result) rest (answer_value c.in_ok-answer.answer) c.step.new.self
    c.in_ok-answer.ensures.step so_far in
    let items = ap answer_values c.in-Ok.ensures.items
    ∙ answer_values-next c.loop-request.answers.items c.in_ok-answer.answer in
    subst (λ answers. SoFar c.args.self.now requests answers c.step.new.self rest) (sym items) more
