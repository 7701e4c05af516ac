use Rattle.std.proofs.Common.{◌≡◌, ◌≢◌, ◌≤◌, ◌<◌, ◌++◌, length, get_or, leb-false, ℕ, drop, leb, leb-true, true, false, List, sym, ◌∙◌, subst, arith, rules, tests}
use Rattle.std.proofs.lemmas.Grind.{common_steps}
use Rattle.std.specs.Bool.{⊤}
use Rattle.std.specs.Slice.Iter.{iter_rest}
use Rattle.std.specs.VecDeque.Iter.{deque_iter_rest}
use Rattle.std.specs.List.{AllWithin}
use Rattle.std.proofs.lemmas.Option.{MatchOption-at_none, MatchOption-at_some}
use Rattle.std.proofs.lemmas.Iterator.{YieldsList-from_slice, first_from_find}
use Rattle.std.proofs.lemmas.Iterator.Consumers.{YieldsList-from_deque, YieldsList-from_chain}
use Rattle.std.proofs.lemmas.List.Elements.{All-from_all_within}
use Rattle.std.proofs.lemmas.List.Sorted.{IsPartitionPoint-from_clause}
use Rattle.std.specs.List.Sorted.{IsPartitionedBy}
use Rattle.uda50_copy.specs.declared.map.entry.MapEntry.{MapEntry}
use Rattle.uda50_copy.proofs.MapLaws.{IsDone, finished_from, ends_up_to, rest_of}
use Rattle.uda50_copy.proofs.Spans.{left_consecutive, right_consecutive}
use Rattle.uda50_copy.specs.declared.map.entry.BlockStatus.TheVariants.{Finished}
use Rattle.uda50_copy.specs.Map.{statuses_at}
use Rattle.uda50_copy.proofs.NextUnfinished.{Placed, placed, unfinished_there, finished_up_to, rest_consecutive, same_rest}
use Rattle.uda50_copy.proofs.map.BlockMap.next_unfinished.Goals as goal

pub returns-in_err-entry-clause-all_finished : goal.returns-in_err-entry-clause-all_finished
returns-in_err-entry-clause-all_finished c =
    let before = c.self.inside.before.items in
    let after = c.self.inside.after.items in
    let from = c.args.from in
    let near = c.partition_point-near.result in
    let far = c.partition_point-far.result in
    let first = IsPartitionPoint-from_clause (λ (e : MapEntry). leb e.end from) _ near
    c.partition_point-near.ensures.partitioned
    (subst (IsPartitionedBy (λ (e : MapEntry). leb e.end from)) (sym c.deref.ensures.value)
    (ends_up_to before from (left_consecutive before after c.self.invariant))) (λ a r q k. search rules) in
    let second = IsPartitionPoint-from_clause (λ (e : MapEntry). leb e.end from) after far
    c.partition_point-far.ensures.partitioned
    (ends_up_to after from (right_consecutive before after c.self.invariant)) (λ a r q k. search rules) in
    let early : AllWithin (λ (e : MapEntry). e.end ≤ from) c.deref.result.now 0 near =
    λ k d low below. leb-true _ _ (first.0 k d low below) in
    let late : AllWithin (λ (e : MapEntry). e.end ≤ from) after 0 far =
    λ k d low below. leb-true _ _ (second.0 k d low below) in
    let nears : iter_rest c.iter.result ≡ drop near before =
    c.iter.ensures.rest ∙ rest_of before _ near c.deref-2.ensures.value in
    let fars : deque_iter_rest c.range.result ≡ drop far after =
    c.range.ensures.rest ∙ grind (arith, common_steps) in
    let found = first_from_find _ _ c.find.result (λ (e : MapEntry). ⊤) (IsDone from) c.find.ensures.ran
    (YieldsList-from_chain {s = c.chain-rest.result}
    (YieldsList-from_slice (drop near before) (cc (nears, c.chain-rest.ensures.first)))
    (YieldsList-from_deque (drop far after) (cc (fars, c.chain-rest.ensures.second)))
    c.chain-rest.ensures.first_done c.chain-rest.ensures.second_done)
    (λ x q k. tt) (λ x q k. search (rules, tests)) in
    let done = MatchOption-at_none _ _ c.in_err-entry.was found in
    rw c.from_residual.ensures (rw (← c.self.view_is)
    (finished_from before after near far from (grind (arith, common_steps)) (grind (arith, common_steps))
    (rw c.deref.ensures.value at early) late (All-from_all_within (IsDone from) _ done)))

-- the entries before a place, and those from it on
ended_by : (xs : List MapEntry) (from i : ℕ) → AllWithin (λ (e : MapEntry). leb e.end from ≡ true) xs 0 i
    → AllWithin (λ (e : MapEntry). e.end ≤ from) xs 0 i
ended_by xs from i all k d low below = leb-true _ _ (all k d low below)

passed_by : (xs : List MapEntry) (from i : ℕ) → AllWithin (λ (e : MapEntry). leb e.end from ≡ false) xs i (length xs)
    → (k : ℕ) (d : MapEntry) → i ≤ k → k < length xs → from < (get_or xs k d).end
passed_by xs from i all k d low below = leb-false _ _ (all k d low below)

pub returns-clause-finished_before : goal.returns-clause-finished_before
returns-clause-finished_before c =
    let before = c.self.inside.before.items in
    let after = c.self.inside.after.items in
    let from = c.args.from in
    let near = c.partition_point-near.result in
    let far = c.partition_point-far.result in
    let x = c.in_ok-entry.entry.now in
    let first = IsPartitionPoint-from_clause (λ (e : MapEntry). leb e.end from) _ near
    c.partition_point-near.ensures.partitioned
    (subst (IsPartitionedBy (λ (e : MapEntry). leb e.end from)) (sym c.deref.ensures.value)
    (ends_up_to before from (left_consecutive before after c.self.invariant))) (λ a r q k. search rules) in
    let second = IsPartitionPoint-from_clause (λ (e : MapEntry). leb e.end from) after far
    c.partition_point-far.ensures.partitioned
    (ends_up_to after from (right_consecutive before after c.self.invariant)) (λ a r q k. search rules) in
    let nears : iter_rest c.iter.result ≡ drop near before =
    c.iter.ensures.rest ∙ rest_of before _ near c.deref-2.ensures.value in
    let fars : deque_iter_rest c.range.result ≡ drop far after =
    c.range.ensures.rest ∙ grind (arith, common_steps) in
    let found = first_from_find _ _ c.find.result (λ (e : MapEntry). e.status ≢ Finished) (IsDone from) c.find.ensures.ran
    (YieldsList-from_chain {s = c.chain-rest.result}
    (YieldsList-from_slice (drop near before) (cc (nears, c.chain-rest.ensures.first)))
    (YieldsList-from_deque (drop far after) (cc (fars, c.chain-rest.ensures.second)))
    c.chain-rest.ensures.first_done c.chain-rest.ensures.second_done)
    (λ x q k. search (rules, tests)) (λ x q k. search (rules, tests)) in
    let hit = MatchOption-at_some _ _ c.in_ok-entry.entry c.in_ok-entry.was found in
    let rest = drop near before ++ drop far after in
    let early : AllWithin (λ (e : MapEntry). e.end ≤ from) before 0 near =
    rw c.deref.ensures.value at (ended_by c.deref.result.now from near first.0) in
    let late : AllWithin (λ (e : MapEntry). e.end ≤ from) after 0 far = ended_by after from far second.0 in
    let past : (k : ℕ) (d : MapEntry) → near ≤ k → k < length before → from < (get_or before k d).end =
    rw c.deref.ensures.value at (passed_by c.deref.result.now from near first.1) in
    let near_within : near ≤ length before = grind (arith, common_steps) in
    let far_within : far ≤ length after = grind (arith, common_steps) in
    let place : Placed rest hit.1 x =
    placed rest hit.1 x (rest_consecutive before after near far from c.self.invariant near_within far_within past late)
    hit.2 hit.3 in
    let same : (n : ℕ) → from ≤ n → statuses_at (before ++ after) n ≡ statuses_at rest n =
    λ n. same_rest before after near far from n near_within far_within early late in
    λ n low high. rw (← c.self.view_is) (rw (same n low)
    (finished_up_to rest hit.1 from x place hit.2 hit.4 n low (omega (arith, high, c.max.ensures))))

pub returns-clause-unfinished : goal.returns-clause-unfinished
returns-clause-unfinished c =
    let before = c.self.inside.before.items in
    let after = c.self.inside.after.items in
    let from = c.args.from in
    let near = c.partition_point-near.result in
    let far = c.partition_point-far.result in
    let x = c.in_ok-entry.entry.now in
    let first = IsPartitionPoint-from_clause (λ (e : MapEntry). leb e.end from) _ near
    c.partition_point-near.ensures.partitioned
    (subst (IsPartitionedBy (λ (e : MapEntry). leb e.end from)) (sym c.deref.ensures.value)
    (ends_up_to before from (left_consecutive before after c.self.invariant))) (λ a r q k. search rules) in
    let second = IsPartitionPoint-from_clause (λ (e : MapEntry). leb e.end from) after far
    c.partition_point-far.ensures.partitioned
    (ends_up_to after from (right_consecutive before after c.self.invariant)) (λ a r q k. search rules) in
    let nears : iter_rest c.iter.result ≡ drop near before =
    c.iter.ensures.rest ∙ rest_of before _ near c.deref-2.ensures.value in
    let fars : deque_iter_rest c.range.result ≡ drop far after =
    c.range.ensures.rest ∙ grind (arith, common_steps) in
    let found = first_from_find _ _ c.find.result (λ (e : MapEntry). e.status ≢ Finished) (IsDone from) c.find.ensures.ran
    (YieldsList-from_chain {s = c.chain-rest.result}
    (YieldsList-from_slice (drop near before) (cc (nears, c.chain-rest.ensures.first)))
    (YieldsList-from_deque (drop far after) (cc (fars, c.chain-rest.ensures.second)))
    c.chain-rest.ensures.first_done c.chain-rest.ensures.second_done)
    (λ x q k. search (rules, tests)) (λ x q k. search (rules, tests)) in
    let hit = MatchOption-at_some _ _ c.in_ok-entry.entry c.in_ok-entry.was found in
    let rest = drop near before ++ drop far after in
    let early : AllWithin (λ (e : MapEntry). e.end ≤ from) before 0 near =
    rw c.deref.ensures.value at (ended_by c.deref.result.now from near first.0) in
    let late : AllWithin (λ (e : MapEntry). e.end ≤ from) after 0 far = ended_by after from far second.0 in
    let past : (k : ℕ) (d : MapEntry) → near ≤ k → k < length before → from < (get_or before k d).end =
    rw c.deref.ensures.value at (passed_by c.deref.result.now from near first.1) in
    let near_within : near ≤ length before = grind (arith, common_steps) in
    let far_within : far ≤ length after = grind (arith, common_steps) in
    let place : Placed rest hit.1 x =
    placed rest hit.1 x (rest_consecutive before after near far from c.self.invariant near_within far_within past late)
    hit.2 hit.3 in
    let same : (n : ℕ) → from ≤ n → statuses_at (before ++ after) n ≡ statuses_at rest n =
    λ n. same_rest before after near far from n near_within far_within early late in
    λ n low high. rw (← c.self.view_is) (rw (same n (omega (arith, low, c.max.ensures)))
    (unfinished_there rest hit.1 from x place hit.0 n (omega (arith, low, c.max.ensures)) high))
