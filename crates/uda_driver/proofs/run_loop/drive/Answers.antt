use Rattle.std.proofs.Common.{◌∙◌, ◌<◌, ℕ, length, refl, ap, sym, subst, arith, rules}
use Rattle.std.specs.Prelude.{slice_set}
use Rattle.uda_driver.specs.RunInvariant.{RunInvariant}
use Rattle.uda_driver.proofs.Underways.{steps_less, is_driving, all_credits, underway_step, IsAt, underway_skip, wait_some, wait_ends, credit_left, buffer_left, underway_post, underway_start, drain_ends, ran}
use Rattle.uda_driver.proofs.run_loop.drive.Goals as goal
use Rattle.uda_driver.proofs.run_loop.drive.Goals.{then-not-is_too_long+else-loop-host-test, else-not-is_too_long}

-- ---- requests are posted

pub loop-n-init : goal.loop-n-init
loop-n-init g c = underway_start c.requires.ready c.none_out-out.ensures c.requires.counted c.requires.blank

pub run_turn-requires : goal.run_turn-requires
run_turn-requires g c =
    let now = c.loop-host.invariant in (
      search rules,
      (
        wait_some now _ (sym (c.loop-host-test.ensures.waits _ c.of-span.ensures.span)),
        is_driving now (omega (arith, c.loop-n-test.true)),
      ),
    )

pub loop-host-smaller : goal.loop-host-smaller
loop-host-smaller g c =
    let now = c.loop-host.invariant in
    steps_less now.at_work.consistent (wait_some now _ (sym (c.loop-host-test.ensures.waits _ c.of-span.ensures.span))) c.run_turn.ensures.effect

pub loop-host-preserved : goal.loop-host-preserved
loop-host-preserved g c =
    let now = c.loop-host.invariant in
    let it : IsAt c.args.requests.now c.loop-n.n c.index-requests-n.result =
    record { low = c.loop-n-test.true; is = c.index-requests-n.is } in
    let short = sym c.is_too_long.ensures.long ∙ c.if-not-is_too_long.true in
    underway_step now c.run_turn.ensures.consistent c.run_turn.ensures.well_formed
    (wait_ends now it (sym (c.loop-host-test.ensures.waits _ c.of-span.ensures.span)) short) c.run_turn.ensures.effect

pub post-requires : goal.post-requires
post-requires g c =
    let now = c.loop-host.invariant in
    let free = sym (c.loop-host-test.ensures.waits _ c.of-span.ensures.span) in
    let short = sym c.is_too_long.ensures.long ∙ c.if-not-is_too_long.true in
    let low : c.loop-n.n < length c.args.requests.now = c.loop-n-test.true in (
      search rules,
      (
        omega (arith, low, c.requires.few),
        (now.driving.outs.sized, (short, (credit_left now _ free, buffer_left now _ free))),
      ),
    )

pub loop-n-preserved : goal.loop-n-preserved
loop-n-preserved g c =
    let it : IsAt c.args.requests.now c.loop-n.n c.index-requests-n.result =
    record { low = c.loop-n-test.true; is = c.index-requests-n.is } in
    elim c.if-not-is_too_long.branch [
      | then-not-is_too_long+else-loop-host-test w ↦
          let short = sym c.is_too_long.ensures.long ∙ w.if-not-is_too_long.true in
          let taken = w.replace-answer.ensures.value ∙ w.index_mut.ensures.value in
          rw (w.host-is, w.answers-is, w.out-is)
          (underway_post w.loop-host.invariant it
          (sym (w.loop-host-test.ensures.waits _ w.of-span.ensures.span)) w.index_mut.result.now short refl refl taken
          (ap (slice_set w.loop-host.answers.items c.loop-n.n) w.replace-answer.ensures.after)
          w.post.ensures.posts w.post.ensures.consistent)
      | else-not-is_too_long w ↦
          let long = sym c.is_too_long.ensures.long ∙ w.if-not-is_too_long.false in
          rw (w.host-is, w.answers-is, w.out-is) (underway_skip c.loop-n.invariant it long)
    ]

-- ---- the outstanding requests are executed

pub loop-host-2-init : goal.loop-host-2-init
loop-host-2-init g c =
    let all = c.loop-n-test.false in let most = c.loop-n.auto.n-end in
    subst (λ (n : ℕ). RunInvariant c.args.host.now c.args.requests.now n c.loop-n.out c.loop-n.answers.items
    c.loop-n.host) (omega (arith, all, most)) c.loop-n.invariant

pub run_turn-requires-in-loop-host-2 : goal.run_turn-requires-in-loop-host-2
run_turn-requires-in-loop-host-2 g c =
    let now = c.loop-host-2.invariant in (
      search rules,
      (
        omega (arith, all_credits now, c.loop-host-2-test.true, c.credits.ensures.credits),
        is_driving now (omega arith),
      ),
    )

pub loop-host-2-smaller : goal.loop-host-2-smaller
loop-host-2-smaller g c =
    let now = c.loop-host-2.invariant in
    steps_less now.at_work.consistent (omega (
      arith,
      all_credits now,
      c.loop-host-2-test.true,
      c.credits.ensures.credits,
    )) c.run_turn-in-loop-host-2.ensures.effect

pub loop-host-2-preserved : goal.loop-host-2-preserved
loop-host-2-preserved g c =
    let step = c.run_turn-in-loop-host-2.ensures in
    underway_step c.loop-host-2.invariant step.consistent step.well_formed
    (drain_ends c.args.requests.now (omega arith)) step.effect

pub returns : goal.returns
returns g c = ran c.loop-host-2.invariant c.requires.ready (omega arith)
    (omega (arith, c.loop-host-2-test.false, c.credits.ensures.credits))
