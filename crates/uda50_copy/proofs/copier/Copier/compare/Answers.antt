use Rattle.std.proofs.Common.{rules, ◌<◌, ◌∙◌, refl, arith}
use Rattle.uda50_copy.specs.Copy.{units_in}
use Rattle.uda50_copy.proofs.Pieces.{changes_no_block_none, changes_no_block_both}
use Rattle.uda50_copy.proofs.Pairs.{equal_none, equal_next, equal_end}
use Rattle.uda50_copy.proofs.Told.{tells_end}
use Rattle.uda50_copy.proofs.Gathered.{told_none, told_next, told_in_part, told_to_end}
use Rattle.uda50_copy.proofs.copier.Copier.compare.Goals as goal

pub loop-done-init : goal.loop-done-init
loop-done-init g c = (
  refl,
  (
    changes_no_block_none _,
    (omega arith, (omega arith, (λ all whole sound. equal_none _ _ _ _ (omega arith), told_none _ _))),
  ),
)

pub returns-in_err-compare_run-clause-changes_no_block : goal.returns-in_err-compare_run-clause-changes_no_block
returns-in_err-compare_run-clause-changes_no_block g c =
    changes_no_block_both _ _ _ c.loop-done.invariant.1.0 c.compare_run.ensures.changes_no_block

pub loop-done-preserved : goal.loop-done-preserved
loop-done-preserved g c =
    let loop = c.loop-done in
    let start = c.args.blocks.start in let end = c.args.blocks.end in
    let fits : end < 4294967296 = search rules in
    let some : loop.done < c.min-stop.result =
    omega (arith, loop.invariant.1.1.0, c.loop-done-test.true, c.min-stop.ensures, c.saturating_add.ensures, fits) in
    let ran = c.in_ok-compare_run.ensures in (
      ran.skips_lost ∙ loop.invariant.0,
      (
        changes_no_block_both _ _ _ loop.invariant.1.0 ran.changes_no_block,
        (
          omega (arith, loop.invariant.1.1.0, some),
          (
            omega (arith, c.min-stop.ensures),
            (
              equal_next c.args.self.now.skips_lost start loop.done c.min-stop.result (units_in c.args.self.now)
                  (units_in loop.self) (units_in c.compare_run.new.self) loop.invariant.1.1.0 some loop.invariant.1.0
                  ran.changes_no_block loop.invariant.1.1.1.1.0 (rw loop.invariant.0 at ran.equal),
              told_next start loop.done c.min-stop.result _ _ _ loop.invariant.1.1.0 some c.reached.ensures.told
                  loop.invariant.1.1.1.1.1,
            ),
          ),
        ),
      ),
    )

pub returns-clause-equal : goal.returns-clause-equal
returns-clause-equal g c = λ all whole sound.
    equal_end _ _ c.loop-done.done _ _ c.loop-done-test.false c.loop-done.invariant.1.1.1.0
    (c.loop-done.invariant.1.1.1.1.0 all whole sound)

pub returns-in_err-compare_run-clause-tells : goal.returns-in_err-compare_run-clause-tells
returns-in_err-compare_run-clause-tells g c =
    let loop = c.loop-done in
    told_in_part _ loop.done _ _ _ (omega (arith, c.loop-done-test.true)) loop.invariant.1.1.1.1.1.tells

pub returns-clause-tells : goal.returns-clause-tells
returns-clause-tells g c =
    let loop = c.loop-done in
    tells_end _ _ _ loop.done _ _ c.loop-done-test.false loop.invariant.1.1.0 loop.invariant.1.1.1.0
    loop.invariant.1.1.1.1.1.tells

pub returns-clause-tells_end : goal.returns-clause-tells_end
returns-clause-tells_end g c =
    let loop = c.loop-done in let so_far = loop.invariant.1.1.1.1.1 in
    told_to_end _ _ _ loop.done _ _ so_far.tells c.loop-done-test.false loop.invariant.1.1.1.0 so_far.end
