use Rattle.std.proofs.Common.{arith, ◌≡◌, ◌++◌, ◌∷◌, []}
use Rattle.std.proofs.lemmas.Grind.{common_steps}
use Rattle.uda50_copy.proofs.MapLaws.{statuses_at-append, joined_last}
use Rattle.uda50_copy.proofs.Spans.{spans_longer, spans_push}
use Rattle.uda50_copy.proofs.map.append_joined.Goals as goal

pub returns-then-is_followed_by-clause-added : goal.returns-then-is_followed_by-clause-added
returns-then-is_followed_by-clause-added c = λ block.
    joined_last _ _ _ c.args.entry block c.requires.all_forward (grind (arith, common_steps))
    c.in-Some.ensures.value (c.is_followed_by.ensures.status c.if-is_followed_by.true)
    (c.is_followed_by.ensures.end c.if-is_followed_by.true) (grind (arith, common_steps))

pub returns-clause-added : goal.returns-clause-added
returns-clause-added c = λ block. grind (arith, common_steps, statuses_at-append)

pub returns-then-is_followed_by-clause-spans : goal.returns-then-is_followed_by-clause-spans
returns-then-is_followed_by-clause-spans c = λ start spans.
    spans_longer _ _ _ c.args.entry start (grind (arith, common_steps)) c.in-Some.ensures.value c.requires.forward spans

pub returns-clause-spans : goal.returns-clause-spans
returns-clause-spans c =
    let same : c.push.new.self.items ≡ c.args.entries.now.items ++ c.args.entry ∷ [] = grind (arith, common_steps) in
    λ start spans. rw same (spans_push _ c.args.entry start spans c.requires.forward)
