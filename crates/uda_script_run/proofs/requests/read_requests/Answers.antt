use Rattle.std.proofs.Common.{refl, ◌∙◌}
use Rattle.std.proofs.lemmas.List.{map-append}
use Rattle.uda_disk.specs.Values.{request_value}
use Rattle.uda_script_run.proofs.Readings.{lines_more, lines_idle}
use Rattle.uda_script_run.proofs.requests.read_requests.Goals as goal

pub loop-line-preserved : goal.loop-line-preserved
loop-line-preserved g c =
    let so_far = c.loop-line.invariant.1 in (
      λ none. c.in_ok-request.ensures.idle
          (lines_idle c.args.lines.now c.loop-line.line-index _ _ _ _ c.loop-line-test.true so_far none)
          ∙ c.loop-line.invariant.0 none,
      rw (c.in_ok-push.ensures.items, map-append)
          (lines_more c.args.lines.now c.loop-line.line-index _ _ _ _ _ _
          (request_value c.in_ok-request.request) c.loop-line-test.true refl so_far
          c.in_ok-request.ensures.made),
    )
