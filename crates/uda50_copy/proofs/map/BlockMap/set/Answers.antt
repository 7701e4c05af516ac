use Rattle.std.proofs.Common.{◌≡◌, ℕ, ◌<◌, ◌≤◌, ◌-◌, ◌++◌, All, length, take, drop, ltb, ltb-true, sym, ◌∙◌, subst, arith, rules}
use Rattle.std.proofs.lemmas.Grind.{common_steps}
use Rattle.std.proofs.lemmas.List.{take_all, take-append-drop}
use Rattle.std.proofs.lemmas.List.Elements.{All-drop}
use Rattle.std.proofs.lemmas.List.Sorted.{IsPartitionPoint-from_clause}
use Rattle.std.specs.List.{AllWithin}
use Rattle.std.specs.List.Sorted.{IsPartitionedBy}
use Rattle.uda50_copy.specs.declared.map.entry.MapEntry.{MapEntry}
use Rattle.uda50_copy.specs.Map.{IsSet, AreForward, AreConsecutive, Spans}
use Rattle.uda50_copy.proofs.MapLaws.{set_more, spans_set_more, set_middle, consecutive_middle, ends_before, All-first, rest_of, on_ok}
use Rattle.uda50_copy.proofs.Spans.{left_consecutive}
use Rattle.uda50_copy.proofs.map.BlockMap.set.Goals as goal

pub append_set-requires-clause-forward : goal.append_set-requires-clause-forward
append_set-requires-clause-forward c =
    let before = c.divide.new.before.items in
    let whole : AreConsecutive (before ++ c.divide.new.after.items) = rw c.divide.ensures.same c.self.invariant in
    let rest : AreForward (drop c.partition_point-first.result before) =
    All-drop (λ (e : MapEntry). e.start ≤ e.end) _ before (left_consecutive before _ whole).0 in
    subst AreForward (sym (rest_of before _ c.partition_point-first.result c.deref-2.ensures.value)) rest
    c.loop-entry.entry-index _ c.loop-entry-test.true

pub loop-entry-preserved : goal.loop-entry-preserved
loop-entry-preserved c = record {
  forward = c.append_set.ensures.all_forward;
  set = set_more _ c.loop-entry.entry-index _ _ _ _ _ _ c.loop-entry-test.true c.loop-entry.invariant.set
      c.in_ok-append_set.ensures.set;
  spans = spans_set_more _ c.loop-entry.entry-index _ _ _ c.loop-entry-test.true c.loop-entry.invariant.spans
      c.in_ok-append_set.ensures.spans;
}

pub invariant_of-self-2 : goal.invariant_of-self-2
invariant_of-self-2 c =
    let before = c.divide.new.before.items in
    let after = c.divide.new.after.items in
    let first = c.partition_point-first.result in
    let whole : AreConsecutive (before ++ after) = rw c.divide.ensures.same c.self.invariant in
    let rest : take c.loop-entry.entry-index (take (length c.deref-2.result.now - first) (drop first c.deref-2.result.now))
    ≡ drop first before =
    take_all _ _ c.loop-entry-test.false ∙ rest_of before _ first c.deref-2.ensures.value in
    let spans : (start end : ℕ) → Spans start end (drop first before) → Spans start end c.loop-entry.entries.items =
    rw rest at c.loop-entry.invariant.spans in
    let items : c.append.new.self.items ≡ take first before ++ c.loop-entry.entries.items = grind (arith, common_steps) in
    rw items (consecutive_middle (take first before) (drop first before) after _ (rw take-append-drop whole) spans)

pub returns-clause-set : goal.returns-clause-set
returns-clause-set c =
    let before = c.divide.new.before.items in
    let after = c.divide.new.after.items in
    let first = c.partition_point-first.result in
    let start = c.args.blocks.start in
    let whole : AreConsecutive (before ++ after) = rw c.divide.ensures.same c.self.invariant in
    let point = IsPartitionPoint-from_clause (λ (e : MapEntry). ltb e.end start) _ first
    c.partition_point-first.ensures.partitioned
    (subst (IsPartitionedBy (λ (e : MapEntry). ltb e.end start)) (sym c.deref.ensures.value)
    (ends_before before start (left_consecutive before after whole))) (λ a r q k. search rules) in
    let ends : AllWithin (λ (e : MapEntry). e.end < start) c.deref.result.now 0 first =
    λ k d from below. ltb-true _ _ (point.0 k d from below) in
    let early : All (λ (e : MapEntry). e.end < start) (take first before) =
    All-first (λ (e : MapEntry). e.end < start) before first (grind (arith, common_steps))
    (rw c.deref.ensures.value at ends) in
    let rest : take c.loop-entry.entry-index (take (length c.deref-2.result.now - first) (drop first c.deref-2.result.now))
    ≡ drop first before =
    take_all _ _ c.loop-entry-test.false ∙ rest_of before _ first c.deref-2.ensures.value in
    let set : IsSet start c.args.blocks.end c.args.status (drop first before) c.loop-entry.entries.items =
    rw rest at c.loop-entry.invariant.set in
    let items : c.append.new.self.items ≡ take first before ++ c.loop-entry.entries.items = grind (arith, common_steps) in
    let done : IsSet start c.args.blocks.end c.args.status (before ++ after) (c.append.new.self.items ++ after) =
    rw items (subst (λ xs. IsSet start c.args.blocks.end c.args.status (xs ++ after) ((take first before ++ c.loop-entry.entries.items) ++ after))
    (take-append-drop first before)
    (set_middle (take first before) (drop first before) after _ start c.args.blocks.end c.args.status early
    c.in_ok-divide.ensures.after set)) in
    on_ok c.append.result (rw (← c.self.view_is, ← c.divide.ensures.same) done)
