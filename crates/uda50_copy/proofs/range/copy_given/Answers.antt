use Rattle.std.proofs.Common.{◌∙◌, ap, arith}
use Rattle.uda50_copy.specs.Record.{RecordState}
use Rattle.uda50_copy.specs.Reports.{lost_count}
use Rattle.uda50_copy.proofs.Ranges.{copies_noted, copies_noted_all}
use Rattle.uda50_copy.proofs.range.copy_given.Goals as goal

pub returns-in_err-check-clause-copies : goal.returns-in_err-check-clause-copies
returns-in_err-check-clause-copies g c = λ clean now unfinished.
    rw c.check.ensures.same (copies_noted _ c.args.blocks.start c.args.blocks.end _ _ c.args.notes.now c.begin.new.self
    c.copy-copied.new.observer c.requires.some c.begin.ensures.map c.begin.ensures.reports
    (c.begin.ensures.as_reported (c.begin.ensures.broken ∙ clean))
    (rw c.check.ensures.same at (c.check.ensures.as_reported now)) c.copy-copied.ensures.copies_as_told unfinished)

pub returns-in-Ok-clause-copies : goal.returns-in-Ok-clause-copies
returns-in-Ok-clause-copies g c = λ clean now unfinished.
    rw c.check.ensures.same (copies_noted _ c.args.blocks.start c.args.blocks.end _ _ c.args.notes.now c.begin.new.self
    c.copy-copied.new.observer c.requires.some c.begin.ensures.map c.begin.ensures.reports
    (c.begin.ensures.as_reported (c.begin.ensures.broken ∙ clean))
    (rw c.check.ensures.same at (c.check.ensures.as_reported now)) c.copy-copied.ensures.copies_as_told unfinished)

pub returns-in-Err-clause-copies : goal.returns-in-Err-clause-copies
returns-in-Err-clause-copies g c = λ clean now unfinished.
    rw c.check.ensures.same (copies_noted _ c.args.blocks.start c.args.blocks.end _ _ c.args.notes.now c.begin.new.self
    c.copy-copied.new.observer c.requires.some c.begin.ensures.map c.begin.ensures.reports
    (c.begin.ensures.as_reported (c.begin.ensures.broken ∙ clean))
    (rw c.check.ensures.same at (c.check.ensures.as_reported now)) c.copy-copied.ensures.copies_as_told unfinished)

pub returns-in-Ok-clause-copies_all : goal.returns-in-Ok-clause-copies_all
returns-in-Ok-clause-copies_all g c = λ clean unfinished.
    let now = c.in_ok-check.ensures.noted in
    rw c.check.ensures.same (copies_noted_all _ c.args.blocks.start c.args.blocks.end _ _ c.args.notes.now
    c.begin.new.self c.copy-copied.new.observer c.requires.some c.begin.ensures.map c.begin.ensures.reports
    (c.begin.ensures.as_reported (c.begin.ensures.broken ∙ clean))
    (rw c.check.ensures.same at (c.check.ensures.as_reported now)) c.copy-copied.ensures.copies_as_told
    c.in-Ok.ensures.tells_end unfinished)

pub returns-in_err-check-clause-loses_failed : goal.returns-in_err-check-clause-loses_failed
returns-in_err-check-clause-loses_failed g c =
    λ sound. omega (
      arith,
      c.copy-copied.ensures.loses_failed sound,
      ap lost_count c.begin.ensures.reports,
      ap (λ (r : RecordState). lost_count r.reports) c.check.ensures.same,
    )

pub returns-in-Ok-clause-loses_failed : goal.returns-in-Ok-clause-loses_failed
returns-in-Ok-clause-loses_failed g c =
    λ sound. omega (
      arith,
      c.copy-copied.ensures.loses_failed sound,
      ap lost_count c.begin.ensures.reports,
      ap (λ (r : RecordState). lost_count r.reports) c.check.ensures.same,
    )

pub returns-in-Err-clause-loses_failed : goal.returns-in-Err-clause-loses_failed
returns-in-Err-clause-loses_failed g c =
    λ sound. omega (
      arith,
      c.copy-copied.ensures.loses_failed sound,
      ap lost_count c.begin.ensures.reports,
      ap (λ (r : RecordState). lost_count r.reports) c.check.ensures.same,
    )
