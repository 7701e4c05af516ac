use Rattle.std.proofs.Common.{rules, ◌≡◌, ◌+◌, ◌-◌, ◌*◌, ◌<◌, [], ℕ, min, length, Some, sym, ap, subst, ◌∙◌, arith}
use Rattle.std.specs.Prelude.{slice_get}
use Rattle.std.proofs.lemmas.List.{length-map, length_push}
use Rattle.uda_disk.specs.Values.{request_value, request_values, answer_value, answer_values}
use Rattle.uda_disk.specs.Units.{AllSound, AreWellFormedIfSound}
use Rattle.uda50_copy.specs.Copy.{CopierState, ChangesNoBlock, EachReturnsBlocks, units_in, source_of, WritesPieces}
use Rattle.uda50_copy.proofs.Pieces.{answer_at, below, all_came, piece_at, returned_at, reads_end, gathering_next, changes_no_block_none, changes_no_block_both}
use Rattle.uda50_copy.proofs.Told.{tells_lost_none, tells_lost_both, tells_lost_wider}
use Rattle.uda50_copy.proofs.Gathered.{adds_none, adds_next, adds_to}
use Rattle.uda50_copy.specs.Reports.{KeepsFailures}
use Rattle.uda50_copy.proofs.copier.Copier.read_run.Goals as goal

pub run_reads-requires : goal.run_reads-requires
run_reads-requires g c = (search rules, rw c.deref.ensures.value c.in_ok-requests.ensures.reads.writes_nothing)

pub loop-answer-init : goal.loop-answer-init
loop-answer-init g c = (
  omega (arith, c.requires.some),
  (
    c.in_ok-answer-items.ensures.skips_lost ∙ ap (λ (s : CopierState). s.skips_lost) c.self.view_is,
    (
      changes_no_block_none _,
      (
        λ all whole sound start is. rw c.in_ok-writes.ensures.items is,
        (
          rw c.in_ok-writes.ensures.items (adds_none _ _ _ _),
          λ sound. omega (
            arith,
            subst (λ (s : CopierState). KeepsFailures (units_in s) (units_in c.run_reads.new.self)) c.self.view_is
                c.in_ok-answer-items.ensures.keeps_failures sound,
          ),
        ),
      ),
    ),
  ),
)

pub take_piece-requires : goal.take_piece-requires
take_piece-requires g c = (
  search rules,
  (
      let loop = c.loop-answer in
      let k = length loop.yielded in
      let items = c.in_ok-answer-items.answer-items.items in
      let tells : slice_get (answer_values items) k ≡ Some (answer_value c.in-Some.answer) =
      answer_at _ _ c.next.new.self items loop.yielded c.in-Some.answer
      c.into_iter-answer-iterator.ensures.into_iter_gives.0 loop.yielded_by c.in-Some.ensures.steps.0 in
      let within = below items c.in_ok-requests.requests.items k _ tells
      (c.in_ok-answer-items.ensures.counted ∙ ap length c.deref.ensures.value) in
      let fits : c.args.blocks.end < 4294967296 = search rules in
      let place = piece_at c.args.blocks.start c.args.blocks.end k loop.lbn c.min-stop.result
      (request_values c.in_ok-requests.requests.items) c.in_ok-requests.ensures.reads within loop.invariant.0
      (c.min-stop.ensures ∙ ap (min c.args.blocks.end) c.saturating_add.ensures) fits in
      place.some),
)

pub loop-answer-preserved : goal.loop-answer-preserved
loop-answer-preserved g c =
    let loop = c.loop-answer in
    let k = length loop.yielded in
    let from = c.args.blocks.start in let to = c.args.blocks.end in
    let requests = request_values c.in_ok-requests.requests.items in
    let items = c.in_ok-answer-items.answer-items.items in
    let told = answer_value c.in-Some.answer in
    let tells : slice_get (answer_values items) k ≡ Some told =
    answer_at _ _ c.next.new.self items loop.yielded c.in-Some.answer
    c.into_iter-answer-iterator.ensures.into_iter_gives.0 loop.yielded_by c.in-Some.ensures.steps.0 in
    let within = below items c.in_ok-requests.requests.items k told tells
    (c.in_ok-answer-items.ensures.counted ∙ ap length c.deref.ensures.value) in
    let reads = c.in_ok-requests.ensures.reads in
    let fits : to < 4294967296 = search rules in
    let place = piece_at from to k loop.lbn c.min-stop.result requests reads within loop.invariant.0
    (c.min-stop.ensures ∙ ap (min to) c.saturating_add.ensures) fits in
    let taken = c.in_ok-take_piece.ensures in
    let ran : ChangesNoBlock (units_in c.args.self.now) (units_in c.run_reads.new.self) =
    subst (λ (s : CopierState). ChangesNoBlock (units_in s) (units_in c.run_reads.new.self)) c.self.view_is
    c.in_ok-answer-items.ensures.changes_no_block in
    let returns : AreWellFormedIfSound (units_in c.args.self.now) → AllSound (units_in c.run_reads.new.self)
    → EachReturnsBlocks (units_in c.args.self.now) requests (answer_values items) =
    subst (λ (s : CopierState). AreWellFormedIfSound (units_in s) → AllSound (units_in c.run_reads.new.self)
    → EachReturnsBlocks (units_in s) requests (answer_values items)) c.self.view_is
    (rw c.deref.ensures.value at c.in_ok-answer-items.ensures.returns) in (
      place.next ∙ ap (λ (n : ℕ). min to (from + 32 * n)) (omega (arith, length_push loop.yielded c.in-Some.answer)),
      (
        taken.skips_lost ∙ loop.invariant.1.0,
        (
          changes_no_block_both _ _ _ loop.invariant.1.1.0 taken.changes_no_block,
          (
            gathering_next c.args.self.now.skips_lost [] (request_values loop.writes.items)
                (request_values c.take_piece.new.writes.items) from loop.lbn c.min-stop.result told
                (units_in c.args.self.now) (units_in c.run_reads.new.self) (units_in loop.self)
                (units_in c.take_piece.new.self) place.some ran loop.invariant.1.1.0
                taken.changes_no_block
                (λ whole sound. returned_at from to 32 requests (answer_values items) (units_in c.args.self.now) k loop.lbn (c.min-stop.result - loop.lbn) told reads
                (returns whole sound) within tells place.at
                place.count)
                (rw loop.invariant.1.0 at taken.adds)
                loop.invariant.1.1.1.0,
            (
              adds_next c.args.self.now.skips_lost from loop.lbn c.min-stop.result _ _ _ told (units_in c.args.self.now)
                  (units_in c.run_reads.new.self) (units_in loop.self) (units_in c.take_piece.new.self)
                  (omega (arith, place.at)) (omega (arith, place.some)) ran loop.invariant.1.1.0 taken.changes_no_block
                  (λ whole sound. returned_at from to 32 requests (answer_values items) (units_in c.args.self.now) k loop.lbn
                  (c.min-stop.result - loop.lbn) told reads (returns whole sound) within tells place.at place.count)
                  loop.invariant.1.1.1.1.0 (rw loop.invariant.1.0 at taken.adds_all_but),
              λ sound. omega (
                arith,
                loop.invariant.1.1.1.1.1 (λ u. taken.changes_no_block.stays_sound.sound_before u (sound u)),
                taken.loses_failed sound,
              ),
            ),
          ),
        ),
      ),
    )

pub returns-clause-gathers : goal.returns-clause-gathers
returns-clause-gathers g c =
    let loop = c.loop-answer in
    let from = c.args.blocks.start in let to = c.args.blocks.end in
    let items = c.in_ok-answer-items.answer-items.items in
    let came : length loop.yielded ≡ length items = all_came _ _ items loop.yielded
    c.into_iter-answer-iterator.ensures.into_iter_gives.0 loop.yielded_by c.in-None.ensures.steps.0 in
    let counted : length items ≡ length (request_values c.in_ok-requests.requests.items) =
    c.in_ok-answer-items.ensures.counted ∙ ap length c.deref.ensures.value
    ∙ sym (length-map c.in_ok-requests.requests.items request_value) in
    let last : loop.lbn ≡ to = reads_end from to 32 loop.lbn (length loop.yielded)
    (request_values c.in_ok-requests.requests.items) c.in_ok-requests.ensures.reads c.requires.some (came ∙ counted)
    loop.invariant.0 in
    let ran : ChangesNoBlock (units_in c.args.self.now) (units_in c.run_reads.new.self) =
    subst (λ (s : CopierState). ChangesNoBlock (units_in s) (units_in c.run_reads.new.self)) c.self.view_is
    c.in_ok-answer-items.ensures.changes_no_block in
    record {
      changes_no_block = changes_no_block_both _ _ _ ran loop.invariant.1.1.0;
      adds = λ all whole sound start is.
          subst (λ (stop : ℕ). WritesPieces (source_of (units_in c.args.self.now)) (request_values loop.writes.items)
          start stop) last (loop.invariant.1.1.1.0 all whole sound start is);
    }

pub returns-in_err-requests-clause-tells : goal.returns-in_err-requests-clause-tells
returns-in_err-requests-clause-tells g c = tells_lost_none _ _ _ _

pub returns-in_err-writes-clause-tells : goal.returns-in_err-writes-clause-tells
returns-in_err-writes-clause-tells g c = tells_lost_none _ _ _ _

pub returns-in_err-answer-items-clause-tells : goal.returns-in_err-answer-items-clause-tells
returns-in_err-answer-items-clause-tells g c = tells_lost_none _ _ _ _

pub returns-in_err-take_piece-clause-changes_no_block : goal.returns-in_err-take_piece-clause-changes_no_block
returns-in_err-take_piece-clause-changes_no_block g c =
    let ran : ChangesNoBlock (units_in c.args.self.now) (units_in c.run_reads.new.self) =
    subst (λ (s : CopierState). ChangesNoBlock (units_in s) (units_in c.run_reads.new.self)) c.self.view_is
    c.in_ok-answer-items.ensures.changes_no_block in
    changes_no_block_both _ _ _ (changes_no_block_both _ _ _ ran c.loop-answer.invariant.1.1.0)
    c.take_piece.ensures.changes_no_block

pub returns-in_err-take_piece-clause-tells : goal.returns-in_err-take_piece-clause-tells
returns-in_err-take_piece-clause-tells g c =
    let loop = c.loop-answer in
    let k = length loop.yielded in
    let from = c.args.blocks.start in let to = c.args.blocks.end in
    let items = c.in_ok-answer-items.answer-items.items in
    let tells : slice_get (answer_values items) k ≡ Some (answer_value c.in-Some.answer) =
    answer_at _ _ c.next.new.self items loop.yielded c.in-Some.answer
    c.into_iter-answer-iterator.ensures.into_iter_gives.0 loop.yielded_by c.in-Some.ensures.steps.0 in
    let within = below items c.in_ok-requests.requests.items k _ tells
    (c.in_ok-answer-items.ensures.counted ∙ ap length c.deref.ensures.value) in
    let fits : to < 4294967296 = search rules in
    let place = piece_at from to k loop.lbn c.min-stop.result (request_values c.in_ok-requests.requests.items)
    c.in_ok-requests.ensures.reads within loop.invariant.0
    (c.min-stop.ensures ∙ ap (min to) c.saturating_add.ensures) fits in
    tells_lost_wider _ from c.min-stop.result to _ _ (omega (arith, c.min-stop.ensures))
    (tells_lost_both _ from loop.lbn c.min-stop.result _ _ _ (omega (arith, place.at)) (omega (arith, place.some))
    loop.invariant.1.1.1.1.0.tells (rw loop.invariant.1.0 at c.take_piece.ensures.tells))

pub returns-clause-changes_no_block : goal.returns-clause-changes_no_block
returns-clause-changes_no_block g c =
    let ran : ChangesNoBlock (units_in c.args.self.now) (units_in c.run_reads.new.self) =
    subst (λ (s : CopierState). ChangesNoBlock (units_in s) (units_in c.run_reads.new.self)) c.self.view_is
    c.in_ok-answer-items.ensures.changes_no_block in
    changes_no_block_both _ _ _ ran c.loop-answer.invariant.1.1.0

pub returns-clause-tells : goal.returns-clause-tells
returns-clause-tells g c =
    let loop = c.loop-answer in
    tells_lost_wider _ c.args.blocks.start loop.lbn c.args.blocks.end _ _ (omega (arith, loop.invariant.0))
    loop.invariant.1.1.1.1.0.tells

pub returns-clause-adds_all_but : goal.returns-clause-adds_all_but
returns-clause-adds_all_but g c =
    let loop = c.loop-answer in
    let from = c.args.blocks.start in let to = c.args.blocks.end in
    let items = c.in_ok-answer-items.answer-items.items in
    let came : length loop.yielded ≡ length items = all_came _ _ items loop.yielded
    c.into_iter-answer-iterator.ensures.into_iter_gives.0 loop.yielded_by c.in-None.ensures.steps.0 in
    let counted : length items ≡ length (request_values c.in_ok-requests.requests.items) =
    c.in_ok-answer-items.ensures.counted ∙ ap length c.deref.ensures.value
    ∙ sym (length-map c.in_ok-requests.requests.items request_value) in
    let last : loop.lbn ≡ to = reads_end from to 32 loop.lbn (length loop.yielded)
    (request_values c.in_ok-requests.requests.items) c.in_ok-requests.ensures.reads c.requires.some (came ∙ counted)
    loop.invariant.0 in
    adds_to _ _ _ _ _ _ _ last loop.invariant.1.1.1.1.0

pub returns-in_err-writes-clause-changes_no_block : goal.returns-in_err-writes-clause-changes_no_block
returns-in_err-writes-clause-changes_no_block g c = rw (← c.self.view_is) (changes_no_block_none _)

pub returns-in_err-requests-clause-loses_failed : goal.returns-in_err-requests-clause-loses_failed
returns-in_err-requests-clause-loses_failed g c = λ sound. omega arith

pub returns-in_err-writes-clause-loses_failed : goal.returns-in_err-writes-clause-loses_failed
returns-in_err-writes-clause-loses_failed g c = rw (← c.self.view_is) (λ sound. omega arith)

pub returns-in_err-answer-items-clause-loses_failed : goal.returns-in_err-answer-items-clause-loses_failed
returns-in_err-answer-items-clause-loses_failed g c =
    let keeps : KeepsFailures (units_in c.args.self.now) (units_in c.run_reads.new.self) =
    subst (λ (s : CopierState). KeepsFailures (units_in s) (units_in c.run_reads.new.self)) c.self.view_is
    c.run_reads.ensures.keeps_failures in
    λ sound. omega (arith, keeps sound)

pub returns-in_err-take_piece-clause-loses_failed : goal.returns-in_err-take_piece-clause-loses_failed
returns-in_err-take_piece-clause-loses_failed g c =
    λ sound. omega (
      arith,
      c.loop-answer.invariant.1.1.1.1.1
          (λ u. c.take_piece.ensures.changes_no_block.stays_sound.sound_before u (sound u)),
      c.take_piece.ensures.loses_failed sound,
    )

pub returns-clause-loses_failed : goal.returns-clause-loses_failed
returns-clause-loses_failed g c = c.loop-answer.invariant.1.1.1.1.1
