use Rattle.std.proofs.Common.{◌+◌, ap, ◌∙◌}
use Rattle.std.proofs.lemmas.List.{length_push}
use Rattle.uda_driver.proofs.Blanks.{blank_more}
use Rattle.uda_driver.proofs.answers.blanks.Goals as goal

pub loop-request-preserved : goal.loop-request-preserved
loop-request-preserved c =
    let more = blank_more c.args.requests.now c.loop-request.request-index c.loop-request.answers.items
    c.request-item.result c.in_ok-blank.field-0 c.loop-request.invariant.counted c.loop-request-test.true
    c.request-item.is
    c.in_ok-blank.ensures.long c.in_ok-blank.ensures.room c.loop-request.invariant.blank in
    rw c.in_ok-push.ensures.items
    (record {
      counted = length_push c.loop-request.answers.items c.in_ok-blank.field-0
          ∙ ap (λ n. n + 1) c.loop-request.invariant.counted;
      blank = more;
    })
