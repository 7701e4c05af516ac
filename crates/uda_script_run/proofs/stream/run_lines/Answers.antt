use Rattle.std.proofs.Common.{List, length, arith, subst, sym, ap}
use Rattle.std.proofs.lemmas.Result.{err_from_is_err_and}
use Rattle.uda_grammar.specs.declared.script.Line.{Line}
use Rattle.uda_script_run.specs.declared.source.Next.{Next}
use Rattle.uda_script_run.specs.declared.style.ReportPart.{ReportPart}
use Rattle.uda_script_run.specs.declared.text_error.TextError.TheVariants as error
use Rattle.uda_script_run.specs.Lines.{text_at, ReadsBatch}
use Rattle.uda_script_run.proofs.Streaming.{run_none, run_more, run_whole, run_faulty, run_unread, run_unread_by, run_stopped_by}
use Rattle.uda_script_run.proofs.stream.run_lines.Goals as goal

pub loop-init : goal.loop-init
loop-init g c =
    let first = ap (λ (part : ReportPart). part.first) c.start-progress.ensures.part in
    (run_none _ _ _ _ _ c.start-progress.ensures.part c.start-progress.ensures.outcome, omega (arith, first))

pub returns-in_err-next : goal.returns-in_err-next
returns-in_err-next g c =
    let exit = err_from_is_err_and c.from_residual.result c.from_residual.ensures.1 in
    record { run = rw exit.1 (run_unread_by _ _ _ _ _ _ _ c.loop.invariant.0 _ _ exit.2 c.in_err-next.ensures.error) }

pub returns-in_err-progress : goal.returns-in_err-progress
returns-in_err-progress g c =
    let exit = err_from_is_err_and c.from_residual-in_err-progress.result
    c.from_residual-in_err-progress.ensures.1 in
    let at = text_at c.loop.source.lines_read (g.T.Read.remaining c.loop.source.text) in
    let next_at = text_at c.read_batch.new.self.lines_read (g.T.Read.remaining c.read_batch.new.self.text) in
    let read = subst (λ (lines : List Line). ReadsBatch at next_at lines c.in_ok-next.next)
    (sym c.deref.ensures.value) c.in_ok-next.ensures.read in
    record {
      run = rw exit.1 (run_stopped_by _ _ _ _ _ _ _ c.loop.invariant.0 next_at c.deref.result.now _ c.in_ok-next.next
          _ _ exit.2 read c.in_err-progress.ensures.error);
    }

pub returns-in-End : goal.returns-in-End
returns-in-End g c =
    let at = text_at c.loop.source.lines_read (g.T.Read.remaining c.loop.source.text) in
    let next_at = text_at c.read_batch.new.self.lines_read (g.T.Read.remaining c.read_batch.new.self.text) in
    let read = subst (λ (lines : List Line). ReadsBatch at next_at lines c.in_ok-next.next)
    (sym c.deref.ensures.value) c.in_ok-next.ensures.read in
    let ended = subst (λ (next : Next). ReadsBatch at next_at c.deref.result.now next) c.in-End.is read in
    record {
      run = run_whole _ _ _ _ _ _ _ c.loop.invariant.0 c.deref.result.now _ _ _ ended c.in_ok-progress.ensures.ran
          c.in_ok-progress.ensures.outcome;
    }

pub returns-in-Fault : goal.returns-in-Fault
returns-in-Fault g c =
    let at = text_at c.loop.source.lines_read (g.T.Read.remaining c.loop.source.text) in
    let next_at = text_at c.read_batch.new.self.lines_read (g.T.Read.remaining c.read_batch.new.self.text) in
    let read = subst (λ (lines : List Line). ReadsBatch at next_at lines c.in_ok-next.next)
    (sym c.deref.ensures.value) c.in_ok-next.ensures.read in
    let ended = subst (λ (next : Next). ReadsBatch at next_at c.deref.result.now next) c.in-Fault.is read in
    record {
      run = run_faulty _ _ _ _ _ _ _ c.loop.invariant.0 c.deref.result.now _ _ c.in-Fault.line c.in-Fault.expected
          ended c.in_ok-progress.ensures.ran;
    }

pub loop-preserved : goal.loop-preserved
loop-preserved g c =
    let at = text_at c.loop.source.lines_read (g.T.Read.remaining c.loop.source.text) in
    let next_at = text_at c.read_batch.new.self.lines_read (g.T.Read.remaining c.read_batch.new.self.text) in
    let read = subst (λ (lines : List Line). ReadsBatch at next_at lines c.in_ok-next.next)
    (sym c.deref.ensures.value) c.in_ok-next.ensures.read in
    let on = subst (λ (next : Next). ReadsBatch at next_at c.deref.result.now next) c.in-More.is read in
    let first = ap (λ (part : ReportPart). part.first) c.in_ok-progress.ensures.part in
    let count = ap length c.deref.ensures.value in (
      run_more _ _ _ _ _ _ _ c.loop.invariant.0 next_at c.deref.result.now _ _ _ _ on
          c.in_ok-progress.ensures.ran c.in_ok-progress.ensures.part c.in_ok-progress.ensures.outcome,
      omega (arith, first, count, c.in_ok-next.ensures.few, c.loop.invariant.1),
    )

pub returns : goal.returns
returns g c = record { run = run_unread _ _ _ _ _ _ _ c.loop.invariant.0 error.Unreadable tt }
