use Rattle.std.proofs.Common.{rules, ◌≡◌, ◌+◌, ◌*◌, ◌<◌, length, Some, sym, ap, ◌∙◌, arith, subst}
use Rattle.std.specs.Prelude.{slice_get}
use Rattle.std.proofs.lemmas.List.{length-map, length_push}
use Rattle.std.proofs.lemmas.Option.{slice_get_within}
use Rattle.uda_disk.specs.Values.{request_value, request_values, answer_value, answer_values}
use Rattle.uda50_copy.specs.Copy.{units_in, source_of, AddsPieces}
use Rattle.uda50_copy.proofs.Pieces.{answer_at, below, all_came, returned_at, reads_end, adds_next}
use Rattle.uda50_copy.proofs.Told.{tells_lost_none, tells_lost_both, tells_lost_wider}
use Rattle.uda50_copy.proofs.Gathered.{adds_none, adds_next_block, adds_to}
use Rattle.uda50_copy.proofs.Losses.{errors_push, errors_front, errors_next, errors_told, reads_of_source}
use Rattle.uda50_copy.proofs.copier.Copier.read_singly.Goals as goal

pub run_reads-requires : goal.run_reads-requires
run_reads-requires g c = (search rules, rw c.deref.ensures.value c.in_ok-requests.ensures.reads.writes_nothing)

pub loop-answer-init : goal.loop-answer-init
loop-answer-init g c = (omega (arith, c.requires.some), (λ all whole sound start h. h, (adds_none _ _ _ _, omega arith)))

pub loop-answer-preserved : goal.loop-answer-preserved
loop-answer-preserved g c =
    let loop = c.loop-answer in
    let k = length loop.yielded in
    let from = c.args.blocks.start in let to = c.args.blocks.end in
    let requests = request_values c.in_ok-requests.requests.items in
    let items = c.in_ok-answer-items.answer-items.items in
    let tells : slice_get (answer_values items) k ≡ Some (answer_value c.in-Some.answer) =
    answer_at _ _ c.next.new.self items loop.yielded c.in-Some.answer
    c.into_iter-answer-iterator.ensures.into_iter_gives.0 loop.yielded_by c.in-Some.ensures.steps.0 in
    let counted : length items ≡ length c.in_ok-requests.requests.items =
    c.in_ok-answer-items.ensures.counted ∙ ap length c.deref.ensures.value in
    let asked : k < length requests = omega (
      arith,
      slice_get_within (answer_values items) k _ tells,
      length-map items answer_value,
      length-map c.in_ok-requests.requests.items request_value,
      counted,
    ) in
    let reads = c.in_ok-requests.ensures.reads in
    let begins : from + 1 * k < to = reads.begins k asked in
    let at : loop.lbn ≡ from + 1 * k = omega (arith, loop.invariant.0, begins) in
    let before : loop.lbn < to = omega (arith, at, begins) in
    let fits : to < 4294967296 = search rules in
    let same_skips : c.run_reads.new.self.skips_lost ≡ c.args.self.now.skips_lost =
    c.in_ok-answer-items.ensures.skips_lost in
    let next : c.saturating_add-lbn.result ≡ loop.lbn + 1 = omega (arith, c.saturating_add-lbn.ensures, before, fits) in (
      omega (arith, next, at, before, length_push loop.yielded c.in-Some.answer),
      (
        λ all whole sound.
            let returned = returned_at from to 1 requests (answer_values items) (units_in c.args.self.now) k
            loop.lbn 1 (answer_value c.in-Some.answer) reads
            (rw c.deref.ensures.value at (c.in_ok-answer-items.ensures.returns whole sound)) asked tells at
            (omega (arith, before)) in
            subst (AddsPieces (source_of (units_in c.args.self.now)) (request_values c.args.writes.now.items)
            (request_values c.take_block.new.writes.items) from) (sym next)
            (adds_next _ _ (request_values loop.writes.items) _ from loop.lbn 1 (answer_value c.in-Some.answer)
            (loop.invariant.1.0 all whole sound) returned (c.in_ok-take_block.ensures.adds all)),
        (
          adds_to _ _ _ _ _ _ _ (sym next)
              (adds_next_block c.args.self.now.skips_lost from loop.lbn _ _ _ (answer_value c.in-Some.answer)
              (units_in c.args.self.now) (units_in c.run_reads.new.self) (omega (arith, at)) c.in_ok-answer-items.ensures.changes_no_block
              (λ whole sound. returned_at from to 1 requests (answer_values items) (units_in c.args.self.now) k
              loop.lbn 1 (answer_value c.in-Some.answer) reads
              (rw c.deref.ensures.value at (c.in_ok-answer-items.ensures.returns whole sound)) asked tells at
              (omega (arith, before))) loop.invariant.1.1.0 (rw same_skips at c.in_ok-take_block.ensures.adds_all_but)),
          omega (
            arith,
            loop.invariant.1.1.1,
            c.in_ok-take_block.ensures.loses,
            errors_push loop.yielded c.in-Some.answer,
          ),
        ),
      ),
    )

pub returns-clause-gathers : goal.returns-clause-gathers
returns-clause-gathers g c =
    let loop = c.loop-answer in
    let n = length loop.yielded in
    let from = c.args.blocks.start in let to = c.args.blocks.end in
    let items = c.in_ok-answer-items.answer-items.items in
    let reads = c.in_ok-requests.ensures.reads in
    let came : n ≡ length items = all_came _ _ items loop.yielded
    c.into_iter-answer-iterator.ensures.into_iter_gives.0 loop.yielded_by c.in-None.ensures.steps.0 in
    let counted : length items ≡ length (request_values c.in_ok-requests.requests.items) =
    c.in_ok-answer-items.ensures.counted ∙ ap length c.deref.ensures.value
    ∙ sym (length-map c.in_ok-requests.requests.items request_value) in
    let last : loop.lbn ≡ to = reads_end from to 1 loop.lbn n (request_values c.in_ok-requests.requests.items) reads
    c.requires.some (came ∙ counted) (omega (arith, loop.invariant.0)) in
    record {
      changes_no_block = c.in_ok-answer-items.ensures.changes_no_block;
      adds = λ all whole sound.
          subst (AddsPieces (source_of (units_in c.args.self.now)) (request_values c.args.writes.now.items)
          (request_values loop.writes.items) from) last
          (loop.invariant.1.0 (c.in_ok-answer-items.ensures.skips_lost ∙ all) whole sound);
    }

pub returns-in_err-requests-clause-tells : goal.returns-in_err-requests-clause-tells
returns-in_err-requests-clause-tells g c = tells_lost_none _ _ _ _

pub returns-in_err-answer-items-clause-tells : goal.returns-in_err-answer-items-clause-tells
returns-in_err-answer-items-clause-tells g c = tells_lost_none _ _ _ _

pub returns-in_err-take_block-clause-tells : goal.returns-in_err-take_block-clause-tells
returns-in_err-take_block-clause-tells g c =
    let loop = c.loop-answer in
    let k = length loop.yielded in
    let from = c.args.blocks.start in let to = c.args.blocks.end in
    let items = c.in_ok-answer-items.answer-items.items in
    let tells : slice_get (answer_values items) k ≡ Some (answer_value c.in-Some.answer) =
    answer_at _ _ c.next.new.self items loop.yielded c.in-Some.answer
    c.into_iter-answer-iterator.ensures.into_iter_gives.0 loop.yielded_by c.in-Some.ensures.steps.0 in
    let within = below items c.in_ok-requests.requests.items k _ tells
    (c.in_ok-answer-items.ensures.counted ∙ ap length c.deref.ensures.value) in
    let begins : from + 1 * k < to = c.in_ok-requests.ensures.reads.begins k within in
    let same_skips : c.run_reads.new.self.skips_lost ≡ c.args.self.now.skips_lost =
    c.in_ok-answer-items.ensures.skips_lost in
    tells_lost_wider _ from (loop.lbn + 1) to _ _ (omega (arith, loop.invariant.0, begins))
    (tells_lost_both _ from loop.lbn (loop.lbn + 1) _ _ _ (omega (arith, loop.invariant.0, begins)) (omega arith)
    loop.invariant.1.1.0.tells (rw same_skips at c.take_block.ensures.tells))

pub returns-clause-tells : goal.returns-clause-tells
returns-clause-tells g c =
    let loop = c.loop-answer in
    let from = c.args.blocks.start in let to = c.args.blocks.end in
    tells_lost_wider _ from loop.lbn to _ _ (omega (arith, loop.invariant.0)) loop.invariant.1.1.0.tells

pub returns-clause-adds_all_but : goal.returns-clause-adds_all_but
returns-clause-adds_all_but g c =
    let loop = c.loop-answer in
    let n = length loop.yielded in
    let from = c.args.blocks.start in let to = c.args.blocks.end in
    let items = c.in_ok-answer-items.answer-items.items in
    let came : n ≡ length items = all_came _ _ items loop.yielded
    c.into_iter-answer-iterator.ensures.into_iter_gives.0 loop.yielded_by c.in-None.ensures.steps.0 in
    let counted : length items ≡ length (request_values c.in_ok-requests.requests.items) =
    c.in_ok-answer-items.ensures.counted ∙ ap length c.deref.ensures.value
    ∙ sym (length-map c.in_ok-requests.requests.items request_value) in
    let last : loop.lbn ≡ to = reads_end from to 1 loop.lbn n (request_values c.in_ok-requests.requests.items)
    c.in_ok-requests.ensures.reads c.requires.some (came ∙ counted) (omega (arith, loop.invariant.0)) in
    adds_to _ _ _ _ _ _ _ last loop.invariant.1.1.0

pub returns-in_err-requests-clause-loses_failed : goal.returns-in_err-requests-clause-loses_failed
returns-in_err-requests-clause-loses_failed g c = λ sound. omega arith

pub returns-in_err-answer-items-clause-loses_failed : goal.returns-in_err-answer-items-clause-loses_failed
returns-in_err-answer-items-clause-loses_failed g c = λ sound.
    omega (arith, c.run_reads.ensures.keeps_failures sound)

pub returns-in_err-take_block-clause-loses_failed : goal.returns-in_err-take_block-clause-loses_failed
returns-in_err-take_block-clause-loses_failed g c = λ sound.
    let loop = c.loop-answer in
    let items = c.in_ok-answer-items.answer-items.items in
    let requests = request_values c.in_ok-requests.requests.items in
    let counted : length (answer_values items) ≡ length requests =
    length-map items answer_value ∙ c.in_ok-answer-items.ensures.counted ∙ ap length c.deref.ensures.value
    ∙ sym (length-map c.in_ok-requests.requests.items request_value) in
    omega (
      arith,
      loop.invariant.1.1.1,
      c.take_block.ensures.loses,
      errors_next _ _ c.next.new.self items loop.yielded c.in-Some.answer
          c.into_iter-answer-iterator.ensures.into_iter_gives.0 loop.yielded_by c.in-Some.ensures.steps.0,
      errors_told requests (answer_values items) counted
          (reads_of_source _ _ _ requests c.in_ok-requests.ensures.reads),
      rw c.deref.ensures.value at (c.in_ok-answer-items.ensures.failed sound),
    )

pub returns-clause-loses_failed : goal.returns-clause-loses_failed
returns-clause-loses_failed g c = λ sound.
    let loop = c.loop-answer in
    let items = c.in_ok-answer-items.answer-items.items in
    let requests = request_values c.in_ok-requests.requests.items in
    let counted : length (answer_values items) ≡ length requests =
    length-map items answer_value ∙ c.in_ok-answer-items.ensures.counted ∙ ap length c.deref.ensures.value
    ∙ sym (length-map c.in_ok-requests.requests.items request_value) in
    omega (
      arith,
      loop.invariant.1.1.1,
      errors_front _ _ items loop.yielded c.into_iter-answer-iterator.ensures.into_iter_gives.0 loop.yielded_by,
      errors_told requests (answer_values items) counted
          (reads_of_source _ _ _ requests c.in_ok-requests.ensures.reads),
      rw c.deref.ensures.value at (c.in_ok-answer-items.ensures.failed sound),
    )
