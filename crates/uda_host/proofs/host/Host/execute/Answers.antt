use Rattle.std.proofs.Common.{rules}
use Rattle.uda_host.proofs.Asking.{is_posted, is_fetched, two_turns, is_taken, never_works, due_is_out, done_is_out}
use Rattle.uda_host.proofs.host.Host.execute.Goals as goal

pub step-requires-2 : goal.step-requires-2
step-requires-2 g c = (
  search rules,
  due_is_out (is_fetched c.step.result
      (is_posted c.requires.idle c.post.ensures.before c.post.ensures.posts) c.step.ensures.effect
      c.step.ensures.consistent),
)

pub step-requires-3 : goal.step-requires-3
step-requires-3 g c =
    let done = two_turns c.step.result c.step-2.result c.requires.idle c.post.ensures.before
    c.post.ensures.posts c.step.ensures.effect c.step.ensures.consistent c.step-2.ensures.effect
    c.step-2.ensures.consistent in
    (search rules, done_is_out done)

pub unreachable-requires : goal.unreachable-requires
unreachable-requires g c =
    let done = two_turns c.step.result c.step-2.result c.requires.idle c.post.ensures.before
    c.post.ensures.posts c.step.ensures.effect c.step.ensures.consistent c.step-2.ensures.effect
    c.step-2.ensures.consistent in
    never_works done c.in_default.ensures.effect c.in_default.ensures.consistent

pub returns-clause-executed_alone : goal.returns-clause-executed_alone
returns-clause-executed_alone g c =
    let done = two_turns c.step.result c.step-2.result c.requires.idle c.post.ensures.before
    c.post.ensures.posts c.step.ensures.effect c.step.ensures.consistent c.step-2.ensures.effect
    c.step-2.ensures.consistent in
    is_taken done _ c.in-Some.ensures.effect
