use Rattle.std.proofs.Common.{rules, ◌<◌, refl, ap, ◌∙◌, arith}
use Rattle.uda50_copy.specs.Copy.{units_in}
use Rattle.uda50_copy.proofs.Pieces.{copies_none, copies_both, copies_end}
use Rattle.uda50_copy.proofs.Gathered.{changes_only_both, changes_only_wider, changes_only_end, copied_none, copied_next, copied_in_part, copied_end, told_to_end}
use Rattle.uda50_copy.specs.Reports.{lost_count}
use Rattle.uda50_copy.proofs.copier.Copier.copy.Goals as goal

pub loop-done-init : goal.loop-done-init
loop-done-init g c = (
  omega arith,
  (omega arith, (refl, (copies_none _ _ _ _ (omega arith), (copied_none _ _ _, λ sound. omega arith)))),
)

pub loop-done-preserved : goal.loop-done-preserved
loop-done-preserved g c =
    let loop = c.loop-done in
    let start = c.args.blocks.start in let end = c.args.blocks.end in
    let fits : end < 4294967296 = search rules in
    let some : loop.done < c.min-stop.result =
    omega (arith, loop.invariant.0, c.loop-done-test.true, c.min-stop.ensures, c.saturating_add.ensures, fits) in
    let ran = c.in_ok-copy_run.ensures in (
      omega (arith, loop.invariant.0, some),
      (
        omega (arith, c.min-stop.ensures),
        (
          ran.skips_lost ∙ loop.invariant.1.1.0,
          (
            copies_both c.args.self.now.skips_lost start loop.done c.min-stop.result (units_in c.args.self.now)
                (units_in loop.self) (units_in c.copy_run.new.self) loop.invariant.0 some loop.invariant.1.1.1.0
                (rw loop.invariant.1.1.0 at ran.copies),
            (
              copied_next c.args.self.now.skips_lost start loop.done c.min-stop.result _ _ _ _ loop.invariant.0 some
                  loop.invariant.1.1.1.1.0 ran.changes_only (rw loop.invariant.1.1.0 at ran.runs_all) c.reached.ensures.told,
              λ sound. omega (
                arith,
                loop.invariant.1.1.1.1.1 (λ u. ran.changes_only.stays_sound.sound_before u (sound u)),
                ran.loses_failed sound,
                ap lost_count c.reached.ensures.told,
              ),
            ),
          ),
        ),
      ),
    )

pub returns-clause-copies : goal.returns-clause-copies
returns-clause-copies g c =
    copies_end _ _ _ c.loop-done.done _ _ c.loop-done-test.false c.loop-done.invariant.0 c.loop-done.invariant.1.0
    c.loop-done.invariant.1.1.1.0

pub returns-clause-changes_only : goal.returns-clause-changes_only
returns-clause-changes_only g c =
    let loop = c.loop-done in
    changes_only_end _ _ loop.done _ _ c.loop-done-test.false loop.invariant.0 loop.invariant.1.0
    loop.invariant.1.1.1.1.0.changes

pub returns-clause-copies_as_told : goal.returns-clause-copies_as_told
returns-clause-copies_as_told g c =
    let loop = c.loop-done in
    copied_end _ _ _ loop.done _ _ c.loop-done-test.false loop.invariant.0 loop.invariant.1.0 loop.invariant.1.1.1.1.0

pub returns-clause-tells_end : goal.returns-clause-tells_end
returns-clause-tells_end g c =
    let loop = c.loop-done in let so_far = loop.invariant.1.1.1.1.0 in
    told_to_end _ _ _ loop.done _ _ so_far.tells c.loop-done-test.false loop.invariant.1.0 so_far.end

pub returns-in_err-copy_run-clause-changes_only : goal.returns-in_err-copy_run-clause-changes_only
returns-in_err-copy_run-clause-changes_only g c =
    let loop = c.loop-done in
    let start = c.args.blocks.start in let end = c.args.blocks.end in
    let stop = c.min-stop.result in
    let fits : end < 4294967296 = search rules in
    let some : loop.done < stop =
    omega (arith, loop.invariant.0, c.loop-done-test.true, c.min-stop.ensures, c.saturating_add.ensures, fits) in
    changes_only_wider start stop end _ _ (omega (arith, c.min-stop.ensures))
    (changes_only_both start loop.done stop _ _ _ loop.invariant.0 (omega (arith, some))
    loop.invariant.1.1.1.1.0.changes c.copy_run.ensures.changes_only)

pub returns-in_err-copy_run-clause-copies_as_told : goal.returns-in_err-copy_run-clause-copies_as_told
returns-in_err-copy_run-clause-copies_as_told g c =
    let loop = c.loop-done in
    let start = c.args.blocks.start in let end = c.args.blocks.end in
    let stop = c.min-stop.result in
    let fits : end < 4294967296 = search rules in
    let some : loop.done < stop =
    omega (arith, loop.invariant.0, c.loop-done-test.true, c.min-stop.ensures, c.saturating_add.ensures, fits) in
    copied_in_part _ start loop.done stop end _ _ _ loop.invariant.0 (omega (arith, some))
    (omega (arith, c.min-stop.ensures)) loop.invariant.1.1.1.1.0 c.copy_run.ensures.changes_only
    (rw loop.invariant.1.1.0 at c.copy_run.ensures.runs)

pub returns-in_err-copy_run-clause-loses_failed : goal.returns-in_err-copy_run-clause-loses_failed
returns-in_err-copy_run-clause-loses_failed g c =
    λ sound. omega (
      arith,
      c.loop-done.invariant.1.1.1.1.1 (λ u. c.copy_run.ensures.changes_only.stays_sound.sound_before u (sound u)),
      c.copy_run.ensures.loses_failed sound,
    )

pub returns-clause-loses_failed : goal.returns-clause-loses_failed
returns-clause-loses_failed g c = c.loop-done.invariant.1.1.1.1.1
