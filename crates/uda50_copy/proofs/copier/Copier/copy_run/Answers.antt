use Rattle.std.proofs.Common.{refl, arith}
use Rattle.std.proofs.lemmas.Result.{on_ok_weaker}
use Rattle.uda50_copy.proofs.Pieces.{copies_by}
use Rattle.uda50_copy.proofs.Gathered.{changes_only_none, run_changes_only, runs_unwritten, runs_written, runs_all}
use Rattle.uda50_copy.proofs.copier.Copier.copy_run.Goals as goal

pub returns-in_err-writes-clause-changes_only : goal.returns-in_err-writes-clause-changes_only
returns-in_err-writes-clause-changes_only g c = changes_only_none _ _ _ _ c.read_run.ensures.changes_no_block

pub returns-in_err-writes-clause-runs : goal.returns-in_err-writes-clause-runs
returns-in_err-writes-clause-runs g c =
    runs_unwritten _ _ _ c.read_run.ensures.changes_no_block c.read_run.ensures.tells

pub returns-clause-copies : goal.returns-clause-copies
returns-clause-copies g c =
    on_ok_weaker c.write.result (λ written. copies_by _ _ _ _ _ _ _ c.in_ok-writes.ensures.gathers written)
    c.write.ensures.writes

pub returns-clause-changes_only : goal.returns-clause-changes_only
returns-clause-changes_only g c =
    let read = c.in_ok-writes.ensures in
    run_changes_only _ _ _ _ _ _ refl read.changes_no_block read.adds_all_but c.write.ensures.changes_written

pub returns-clause-runs : goal.returns-clause-runs
returns-clause-runs g c =
    let read = c.in_ok-writes.ensures in
    runs_written _ _ _ _ _ _ refl read.changes_no_block read.adds_all_but c.write.ensures.changes_written

pub returns-clause-runs_all : goal.returns-clause-runs_all
returns-clause-runs_all g c =
    let read = c.in_ok-writes.ensures in
    on_ok_weaker c.write.result (λ holds. runs_all _ _ _ _ _ _ refl read.changes_no_block read.adds_all_but
    c.write.ensures.changes_written holds) c.write.ensures.holds_written

pub returns-in_err-writes-clause-loses_failed : goal.returns-in_err-writes-clause-loses_failed
returns-in_err-writes-clause-loses_failed g c = c.read_run.ensures.loses_failed

pub returns-clause-loses_failed : goal.returns-clause-loses_failed
returns-clause-loses_failed g c =
    λ sound. omega (
      arith,
      c.in_ok-writes.ensures.loses_failed
          (λ u. c.write.ensures.changes_written.stays_sound.sound_before u (sound u)),
      c.write.ensures.keeps_failures sound,
    )
