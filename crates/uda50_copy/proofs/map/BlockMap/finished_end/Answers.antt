use Rattle.std.proofs.Common.{◌≡◌, ◌-◌, ◌<◌, ◌++◌, All, ◌∙◌, subst, arith, rules, tests}
use Rattle.std.proofs.lemmas.Iterator.{first_from_find}
use Rattle.std.proofs.lemmas.List.Elements.{All-append, Contains-append_left, Contains-append_right}
use Rattle.std.proofs.lemmas.Option.{MatchOption-at_none, MatchOption-at_some}
use Rattle.std.specs.List.{Contains}
use Rattle.uda50_copy.specs.declared.map.entry.MapEntry.{MapEntry}
use Rattle.uda50_copy.specs.declared.map.entry.BlockStatus.TheVariants.{Finished}
use Rattle.uda50_copy.specs.Map.{statuses_at}
use Rattle.uda50_copy.proofs.LastFinished.{IsUnfinished, IsQuiet, quiet_unfinished, last_quiet, none_quiet, before_quiet, status_there, in_reverse, slice_back, deque_back}
use Rattle.uda50_copy.proofs.Spans.{left_consecutive, right_consecutive}
use Rattle.uda50_copy.proofs.map.BlockMap.finished_end.Goals as goal

-- an entry with finished blocks
abbrev HasFinished : MapEntry → Type 0
HasFinished entry = (entry.status ≡ Finished) × (entry.start < entry.end)

pub returns-in-Some : goal.returns-in-Some
returns-in-Some c =
    let before = c.self.inside.before.items in
    let after = c.self.inside.after.items in
    let last = c.in-Some.entry.now in
    let found = first_from_find _ _ c.rfind.result HasFinished IsUnfinished c.rfind.ensures.ran
    (deque_back after c.iter.ensures.rest) (λ x q k. search (rules, tests)) (λ x q k. search (rules, tests)) in
    let hit = MatchOption-at_some _ _ c.in-Some.entry c.in-Some.is found in
    let there : Contains after last = in_reverse after hit.1 last hit.2 hit.3 in
    let quiet : All (IsQuiet last.end) (before ++ after) =
    All-append (IsQuiet last.end) before after (before_quiet before after last c.self.invariant there)
    (last_quiet after hit.1 last (right_consecutive before after c.self.invariant) hit.2 hit.3 hit.4) in
    let some : last.start < last.end = hit.0.1 in
    record {
      none_later = rw (← c.self.view_is) (quiet_unfinished (before ++ after) last.end quiet);
      finished = λ _. rw (← c.self.view_is)
          (subst (Contains (statuses_at (before ++ after) (last.end - 1))) hit.0.0
          (status_there (before ++ after) last (last.end - 1) (Contains-append_right before after last there)
          (omega arith) (omega arith)));
    }

pub returns-in-Some-rfind-clause-none_later : goal.returns-in-Some-rfind-clause-none_later
returns-in-Some-rfind-clause-none_later c =
    let before = c.self.inside.before.items in
    let after = c.self.inside.after.items in
    let last = c.in-Some-rfind.entry.now in
    let later = first_from_find _ _ c.rfind.result HasFinished IsUnfinished c.rfind.ensures.ran
    (deque_back after c.iter.ensures.rest) (λ x q k. search (rules, tests)) (λ x q k. search (rules, tests)) in
    let found = first_from_find _ _ c.rfind-2.result HasFinished IsUnfinished c.rfind-2.ensures.ran
    (slice_back before (c.iter-2.ensures.rest ∙ c.deref.ensures.value))
    (λ x q k. search (rules, tests)) (λ x q k. search (rules, tests)) in
    let hit = MatchOption-at_some _ _ c.in-Some-rfind.entry c.in-Some-rfind.is found in
    rw (← c.self.view_is) (quiet_unfinished (before ++ after) last.end
    (All-append (IsQuiet last.end) before after
    (last_quiet before hit.1 last (left_consecutive before after c.self.invariant) hit.2 hit.3 hit.4)
    (none_quiet after last.end (MatchOption-at_none _ _ c.in_default.is later))))

pub returns-in-Some-rfind-clause-finished : goal.returns-in-Some-rfind-clause-finished
returns-in-Some-rfind-clause-finished c = λ _.
    let before = c.self.inside.before.items in
    let after = c.self.inside.after.items in
    let last = c.in-Some-rfind.entry.now in
    let found = first_from_find _ _ c.rfind-2.result HasFinished IsUnfinished c.rfind-2.ensures.ran
    (slice_back before (c.iter-2.ensures.rest ∙ c.deref.ensures.value))
    (λ x q k. search (rules, tests)) (λ x q k. search (rules, tests)) in
    let hit = MatchOption-at_some _ _ c.in-Some-rfind.entry c.in-Some-rfind.is found in
    let there : Contains before last = in_reverse before hit.1 last hit.2 hit.3 in
    let some : last.start < last.end = hit.0.1 in
    rw (← c.self.view_is)
    (subst (Contains (statuses_at (before ++ after) (last.end - 1))) hit.0.0
    (status_there (before ++ after) last (last.end - 1) (Contains-append_left before after last there)
    (omega arith) (omega arith)))

pub returns-in-None-clause-none_later : goal.returns-in-None-clause-none_later
returns-in-None-clause-none_later c =
    let before = c.self.inside.before.items in
    let after = c.self.inside.after.items in
    let later = first_from_find _ _ c.rfind.result HasFinished IsUnfinished c.rfind.ensures.ran
    (deque_back after c.iter.ensures.rest) (λ x q k. search (rules, tests)) (λ x q k. search (rules, tests)) in
    let found = first_from_find _ _ c.rfind-2.result HasFinished IsUnfinished c.rfind-2.ensures.ran
    (slice_back before (c.iter-2.ensures.rest ∙ c.deref.ensures.value))
    (λ x q k. search (rules, tests)) (λ x q k. search (rules, tests)) in
    rw (← c.self.view_is) (quiet_unfinished (before ++ after) 0
    (All-append (IsQuiet 0) before after
    (none_quiet before 0 (MatchOption-at_none _ _ c.in-None.is found))
    (none_quiet after 0 (MatchOption-at_none _ _ c.in_default.is later))))
