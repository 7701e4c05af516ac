use Rattle.std.proofs.Common.{rules, ◌≡◌, ◌+◌, ◌<◌, List, length, min, ℕ, sym, ap, subst, ◌∙◌, arith}
use Rattle.std.specs.Slice.Iter.{chunks_rest, chunks_size}
use Rattle.std.proofs.lemmas.List.{length-map}
use Rattle.uda_disk.specs.declared.answer.Answer.{Answer as Told}
use Rattle.uda_disk.specs.Units.{AllSound, AreWellFormedIfSound}
use Rattle.uda_disk.specs.Values.{request_value, request_values, answer_value, answer_values}
use Rattle.uda50_copy.specs.Copy.{CopierState, units_in, ChangesNoBlock, EachReturnsBlocks}
use Rattle.uda50_copy.proofs.Pieces.{changes_no_block_none, changes_no_block_both}
use Rattle.uda50_copy.proofs.Pairs.{ReturnPairs, return_pairs, equal_none, equal_end, equal_pair, equal_before, compared_next, pairs_end}
use Rattle.uda50_copy.proofs.copier.Copier.compare_run.Goals as goal

pub run_reads-requires : goal.run_reads-requires
run_reads-requires g c = (search rules, rw c.deref.ensures.value c.in_ok-requests.ensures.writes_nothing)

pub loop-pair-init : goal.loop-pair-init
loop-pair-init g c =
    let start = c.args.blocks.start in let end = c.args.blocks.end in
    let units = units_in c.args.self.now in let now = units_in c.run_reads.new.self in
    let requests = request_values c.in_ok-requests.requests.items in
    let items = c.in_ok-answers.answers.items in
    let ran : ChangesNoBlock units now =
    subst (λ (s : CopierState). ChangesNoBlock (units_in s) now) c.self.view_is c.in_ok-answers.ensures.changes_no_block in
    let returns : AreWellFormedIfSound units → AllSound now → EachReturnsBlocks units requests (answer_values items) =
    subst (λ (s : CopierState). AreWellFormedIfSound (units_in s) → AllSound now
    → EachReturnsBlocks (units_in s) requests (answer_values items)) c.self.view_is
    (rw c.deref.ensures.value at c.in_ok-answers.ensures.returns) in
    let counted : length (answer_values items) ≡ length requests =
    length-map items answer_value ∙ c.in_ok-answers.ensures.counted ∙ ap length c.deref.ensures.value
    ∙ sym (length-map c.in_ok-requests.requests.items request_value) in
    let all_left : chunks_rest c.into_iter-pair-iterator.result ≡ items =
    ap chunks_rest c.into_iter-pair-iterator.ensures.into_iter_gives ∙ c.chunks-pair-items.ensures.rest
    ∙ c.deref-2.ensures.value in (
      c.in_ok-answers.ensures.skips_lost ∙ ap (λ (s : CopierState). s.skips_lost) c.self.view_is,
      (
        ran,
        (
          ap chunks_size c.into_iter-pair-iterator.ensures.into_iter_gives ∙ c.chunks-pair-items.ensures.size,
          λ all whole sound. record {
            begun = omega arith;
            within = omega arith;
            returns = subst (λ (l : List Told). ReturnPairs units 32 (answer_values l) start end) (sym all_left)
                (return_pairs units 32 requests (answer_values items) start end c.in_ok-requests.ensures.reads counted
                (returns whole sound));
            equal = equal_none _ _ _ _ (omega arith);
          },
        ),
      ),
    )

pub returns-in_err-compare_singly-clause-changes_no_block :
    goal.returns-in_err-compare_singly-clause-changes_no_block
returns-in_err-compare_singly-clause-changes_no_block g c =
    changes_no_block_both _ _ _ c.loop-pair.invariant.1.0 c.compare_singly.ensures.changes_no_block

pub loop-pair-preserved-in_ok-compare_singly : goal.loop-pair-preserved-in_ok-compare_singly
loop-pair-preserved-in_ok-compare_singly g c =
    let loop = c.loop-pair in let kept = loop.invariant.1 in
    let skips = c.args.self.now.skips_lost in let end = c.args.blocks.end in
    let units = units_in c.args.self.now in let now = units_in loop.self in
    let after = units_in c.compare_singly.new.self in
    let rest = chunks_rest loop.pair-iterator in let left = chunks_rest c.next.new.self in
    let steps = c.in-Some.ensures.steps in
    let ran = c.in_ok-compare_singly.ensures in
    let stop = c.min-stop.result in
    let there : stop ≡ min end (min (loop.lbn + 32) 4294967295) =
    c.min-stop.ensures ∙ ap (min end) c.saturating_add.ensures in
    let fits : end < 4294967296 = search rules in (
      ran.skips_lost ∙ loop.invariant.0,
      (
        changes_no_block_both _ _ _ kept.0 ran.changes_no_block,
        (
          steps.0 ∙ kept.1.0,
          compared_next skips units now after
              (record { rest = rest; from = c.args.blocks.start; at = loop.lbn; to = end }) c.in-Some.pair.now left stop
              steps.1.0 (steps.1.1 ∙ ap (λ (n : ℕ). min n (length rest)) kept.1.0) steps.1.2 there fits
              ran.changes_no_block kept.1.1
              (λ all whole sound next. equal_before skips loop.lbn stop units now after kept.0 ran.changes_no_block
              (rw loop.invariant.0 at ran.equal) all whole sound),
        ),
      ),
    )

pub loop-pair-preserved : goal.loop-pair-preserved
loop-pair-preserved g c =
    let loop = c.loop-pair in let kept = loop.invariant.1 in
    let skips = c.args.self.now.skips_lost in let end = c.args.blocks.end in
    let units = units_in c.args.self.now in let now = units_in loop.self in
    let rest = chunks_rest loop.pair-iterator in let left = chunks_rest c.next.new.self in
    let steps = c.in-Some.ensures.steps in
    let stop = c.min-stop.result in
    let there : stop ≡ min end (min (loop.lbn + 32) 4294967295) =
    c.min-stop.ensures ∙ ap (min end) c.saturating_add.ensures in
    let fits : end < 4294967296 = search rules in (
      loop.invariant.0,
      (
        kept.0,
        (
          steps.0 ∙ kept.1.0,
          compared_next skips units now now
              (record { rest = rest; from = c.args.blocks.start; at = loop.lbn; to = end }) c.in-Some.pair.now left stop
              steps.1.0 (steps.1.1 ∙ ap (λ (n : ℕ). min n (length rest)) kept.1.0) steps.1.2 there fits
              (changes_no_block_none _) kept.1.1
              (λ all whole sound next. equal_pair units now c.in-Some.pair.now left loop.lbn stop end kept.0 there fits
              (c.are_equal.ensures.equal c.if-not-are_equal.false) whole sound next),
        ),
      ),
    )

pub returns-clause-equal : goal.returns-clause-equal
returns-clause-equal g c = λ all whole sound.
    let sound_now : AllSound (units_in c.loop-pair.self) =
    subst (λ (s : CopierState). AllSound (units_in s)) c.self-2.view_is sound in
    let so_far = c.loop-pair.invariant.1.1.1 all whole sound_now in
    equal_end _ _ c.loop-pair.lbn _ _ (pairs_end (units_in c.args.self.now) (chunks_rest c.loop-pair.pair-iterator)
    c.loop-pair.lbn c.args.blocks.end so_far.returns c.in-None.ensures.steps.1.0) so_far.within so_far.equal
